use Rattle.std.proofs.Common.{◌≡◌, ◌≤◌, ◌-◌}
use Rattle.gl_logic.specs.TermOf.{term_of}
use Rattle.coverage.specs.Heads.{subject_of}
use Rattle.coverage.specs.Places.{place_of}
use Rattle.coverage.proofs.Dealing.{moved}
use Rattle.coverage.proofs.parts.place_of.Given as goal

abbrev pub invariant-loop-left : goal.invariant-loop-left
invariant-loop-left l = record {
  within : l.left ≤ l.limit;
  rest : moved (l.limit - l.left) (place_of l.left (subject_of l.subject) (term_of l.inner)) ≡ place_of l.limit (subject_of l.subject) (term_of l.fn.term);
}

abbrev pub decreases-loop-left : goal.decreases-loop-left
decreases-loop-left l = l.left
