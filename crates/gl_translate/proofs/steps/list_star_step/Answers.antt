use Rattle.std.proofs.Common.{arith, ◌<◌, length}
use Rattle.gl_logic.specs.Object.{nil}
use Rattle.gl_logic.specs.declared.prim.Primitive.TheVariants as prim
use Rattle.gl_translate.specs.declared.fault.TermFault.TheVariants as term_fault
use Rattle.gl_translate.specs.Meaning.{literal, fault}
use Rattle.gl_translate.specs.Macros.{prim2}
use Rattle.gl_translate.specs.Steps.{means_of}
use Rattle.gl_translate.proofs.Forward.{takes_at, nested_any, means_length}
use Rattle.gl_translate.proofs.steps.list_star_step.Goals as goal

pub returns-else-is_empty-clause-takes : goal.returns-else-is_empty-clause-takes
returns-else-is_empty-clause-takes c s =
    let some : 0 < length (means_of s c.args.forms.now) = grind (arith, means_length s c.args.forms.now, c.if-is_empty.false, c.is_empty.ensures) in
    takes_at s c.nested_step.result (nested_any (literal nil) (fault term_fault.WrongCount) (prim2 prim.Cons) (means_of s c.args.forms.now) some) (c.nested_step.ensures.takes s)
