use Rattle.std.proofs.Common.{rules, ◌≡◌, ◌∙◌, ap, sym, subst, List}
use Rattle.indexmap.specs.IndexMap.{insert_entry}
use Rattle.sym_objects.specs.declared.sob.Sob.{Sob}
use Rattle.sym_prims.specs.declared.memo.Key.{Key}
use Rattle.sym_prims.specs.Keys.{key_eq}
use Rattle.sym_prims.specs.Puts.{IsPut}
use Rattle.sym_prims.proofs.Memoed.{put}
use Rattle.sym_prims.proofs.memo.Memo.keep.Goals as goal

pub returns : goal.returns
returns c =
    let entries_are : c.insert.new.self.entries ≡ insert_entry key_eq c.self.inside.answers.entries c.args.key c.args.answer = search rules in
    subst (λ (es : List (Key × Sob)). IsPut c.args.self.now es c.args.key c.args.answer) (sym (entries_are ∙ ap (λ (es : List (Key × Sob)). insert_entry key_eq es c.args.key c.args.answer) c.self.view_is))
    (put c.args.self.now c.args.key c.args.answer)
