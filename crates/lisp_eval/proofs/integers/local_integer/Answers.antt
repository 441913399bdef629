use Rattle.std.proofs.Common.{rules, ◌∙◌, ap, sym, to_z-of_z, FitsSigned}
use Rattle.std.specs.Int.{w64}
use Rattle.gl_logic.specs.Object.{Int}
use Rattle.lisp_eval.specs.Outside.{value_object}
use Rattle.lisp_eval.proofs.Locals.{local_is}
use Rattle.lisp_eval.proofs.integers.local_integer.Goals as goal

pub returns-in-Int-clause-value : goal.returns-in-Int-clause-value
returns-in-Int-clause-value c objects =
    let fits : FitsSigned w64 c.in-Int.i = search rules in
    sym (local_is objects c.args.locals.now c.args.name.number) ∙ (ap (value_object objects) (sym c.local_value.ensures ∙ c.in-Int.is) ∙ ap Int (sym (to_z-of_z {w = w64} {z = c.in-Int.i} fits)))
