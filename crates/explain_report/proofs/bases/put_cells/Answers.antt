use Rattle.std.proofs.Common.{◌++◌, ◌∙◌, ℤ, subst}
use Rattle.std.proofs.lemmas.Int.{to_z-of_z}
use Rattle.std.specs.Int.{w128}
use Rattle.std.specs.Prelude.{codes}
use Rattle.explain_report.specs.Bases.{PutsInBases}
use Rattle.explain_report.specs.Said.{Says}
use Rattle.explain_report.proofs.Numbers.{in_cells}
use Rattle.explain_report.proofs.bases.put_cells.Goals as goal

pub returns : goal.returns
returns c =
    let text = c.args.text.now in
    in_cells text c.args.report.now c.text.new.self c.put_in_both.new.report c.text-2.new.self c.text.ensures
    (subst (λ (z : ℤ). Says (PutsInBases z (text ++ codes "</td><td>#x") (codes "</td><td>#b")) c.text.new.self c.put_in_both.new.report) (to_z-of_z w128 c.args.integer c.ranges.integer ∙ c.requires) c.put_in_both.ensures) c.text-2.ensures
