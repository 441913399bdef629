use Rattle.std.proofs.Common.{◌≡◌, drop}
use Rattle.std.specs.List.{list_all}
use Rattle.event_world.specs.CasesMeant.{binds_its_own}
use Rattle.event_world.proofs.cases.are_bound.Given as goal

abbrev pub invariant-loop-i : goal.invariant-loop-i
invariant-loop-i l = list_all binds_its_own (drop l.i l.thm.cases) ≡ list_all binds_its_own l.thm.cases
