use Rattle.std.proofs.Common.{arith, ◌<◌, length}
use Rattle.gl_logic.specs.Object.{Int, nil}
use Rattle.gl_translate.specs.Meaning.{literal}
use Rattle.gl_translate.specs.Macros.{prim2}
use Rattle.gl_translate.specs.Steps.{means_of}
use Rattle.gl_translate.proofs.Forward.{takes_at, nested_any, means_length}
use Rattle.gl_translate.proofs.steps.bitwise_step.Goals as goal

pub returns-else-is_empty-clause-takes : goal.returns-else-is_empty-clause-takes
returns-else-is_empty-clause-takes c s =
    let some : 0 < length (means_of s c.args.forms.now) = grind (arith, means_length s c.args.forms.now, c.if-is_empty.false, c.is_empty.ensures) in
    takes_at s c.nested_step.result (nested_any (literal nil) (literal (Int c.args.none)) (prim2 c.args.prim) (means_of s c.args.forms.now) some) (c.nested_step.ensures.takes s)
