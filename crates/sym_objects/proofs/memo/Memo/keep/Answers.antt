use Rattle.std.proofs.Common.{rules, ◌≡◌, ◌∙◌, ap, sym, subst, List}
use Rattle.indexmap.specs.IndexMap.{insert_entry}
use Rattle.sym_objects.specs.declared.memo.Key.{Key}
use Rattle.sym_objects.specs.Keys.{key_eq}
use Rattle.sym_objects.specs.Memos.{IsPut}
use Rattle.sym_objects.proofs.Memoed.{put}
use Rattle.sym_objects.proofs.memo.Memo.keep.Goals as goal

pub returns : goal.returns
returns g c =
    let entries_are : c.insert.new.self.entries ≡ insert_entry key_eq c.self.inside.entries.entries c.args.key c.args.value = search rules in
    subst (λ (es : List (Key × g.row.V.Denot)). IsPut c.args.self.now es c.args.key c.args.value) (sym (entries_are ∙ ap (λ (es : List (Key × g.row.V.Denot)). insert_entry key_eq es c.args.key c.args.value) c.self.view_is))
    (put c.args.self.now c.args.key c.args.value)
