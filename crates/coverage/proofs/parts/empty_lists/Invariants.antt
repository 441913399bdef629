use Rattle.coverage.specs.Parts.{AreNone}
use Rattle.coverage.specs.Dealt.{lists_in}
use Rattle.coverage.proofs.parts.empty_lists.Given as goal

abbrev pub invariant-loop : goal.invariant-loop
invariant-loop l = AreNone l.counter (lists_in l.lists)
