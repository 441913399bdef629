use Rattle.std.proofs.Common.{◌≡◌, ◌∙◌, ap, eqb, List, ℕ}
use Rattle.indexmap.specs.IndexMap.{insert_entry}
use Rattle.gl_translate.proofs.Pushed.{insert_new}
use Rattle.gl_translate.proofs.own_definitions.Owns.push.Goals as goal

pub returns-clause-ok : goal.returns-clause-ok
returns-clause-ok c =
    c.in_ok-insert.ensures.entries
    ∙ (ap (λ (es : List (ℕ × ℕ)). insert_entry eqb es c.args.name.number c.args.formals) c.self.view_is ∙ insert_new c.args.self.now c.args.name.number c.args.formals c.requires)
