use Rattle.fast_alists.specs.Tables.{Agree}
use Rattle.arena_tests.proofs.tests.alists.long.Given as goal

abbrev pub invariant-loop-key : goal.invariant-loop-key
invariant-loop-key g l = Agree l.arena.objects l.alists
