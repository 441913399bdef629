use Rattle.std.proofs.Common.{◌+◌, ◌-◌}
use Rattle.cnf_rup.specs.Searches.{IsSearch}
use Rattle.cnf_rup.proofs.cone.cone_of.Given as goal

abbrev pub invariant-loop-place : goal.invariant-loop-place
invariant-loop-place l = IsSearch l.aig.nodes l.root l.seen.items l.cone.items l.place

abbrev pub decreases-loop-place : goal.decreases-loop-place
decreases-loop-place l = l.root + 1 - l.place
