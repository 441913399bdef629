use Rattle.std.proofs.Common.{◌≡◌, ◌++◌, take}
use Rattle.cnf_rup.specs.Cnfs.{entries_of_cone}
use Rattle.cnf_rup.proofs.cnf.push_cone.Given as goal

abbrev pub invariant-loop-number : goal.invariant-loop-number
invariant-loop-number l = l.entries.items ≡ l.fn.entries.items ++ entries_of_cone l.aig.nodes (take l.number-index l.cone)
