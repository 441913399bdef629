use Rattle.std.proofs.Common.{◌≡◌}
use Rattle.gl_logic.specs.TermOf.{term_of}
use Rattle.coverage.specs.Heads.{under}
use Rattle.coverage.proofs.forms.under.Given as goal

abbrev pub invariant-loop-left : goal.invariant-loop-left
invariant-loop-left l = under l.left (term_of l.inner) ≡ under l.count (term_of l.fn.term)

abbrev pub decreases-loop-left : goal.decreases-loop-left
decreases-loop-left l = l.left
