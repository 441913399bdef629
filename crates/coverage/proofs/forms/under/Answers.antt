use Rattle.std.proofs.Common.{◌∙◌, sym, Some}
use Rattle.gl_logic.specs.TermOf.{term_of}
use Rattle.coverage.proofs.Arguments.{under_one}
use Rattle.coverage.proofs.forms.under.Goals as goal

pub loop-left-preserved : goal.loop-left-preserved
loop-left-preserved c =
    sym (under_one c.loop-left.left (term_of c.loop-left.inner.now) (Some (term_of c.in-Some.first.now)) c.loop-left-test.true c.in-Some.ensures) ∙ c.loop-left.invariant
