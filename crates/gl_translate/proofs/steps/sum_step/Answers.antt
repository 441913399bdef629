use Rattle.std.proofs.Common.{arith, ◌<◌, length}
use Rattle.gl_logic.specs.Object.{nil}
use Rattle.gl_translate.specs.Meaning.{literal}
use Rattle.gl_translate.specs.Steps.{means_of}
use Rattle.gl_translate.proofs.Forward.{takes_at, sum_of_more, means_length}
use Rattle.gl_translate.proofs.steps.sum_step.Goals as goal

pub returns-in_default-clause-takes : goal.returns-in_default-clause-takes
returns-in_default-clause-takes c s =
    let some : 1 < length (means_of s c.args.forms.now) = omega (arith, means_length s c.args.forms.now, c.in_default.len_at_least) in
    takes_at s c.nested_step.result (sum_of_more c.args.prim c.args.unit (literal nil) (means_of s c.args.forms.now) some) (c.nested_step.ensures.takes s)
