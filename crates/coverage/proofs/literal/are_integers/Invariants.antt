use Rattle.std.proofs.Common.{◌≡◌, drop}
use Rattle.coverage.specs.Rows.{is_integer_of}
use Rattle.coverage.proofs.Found.{each}
use Rattle.coverage.proofs.literal.are_integers.Given as goal

abbrev pub invariant-loop-element : goal.invariant-loop-element
invariant-loop-element l = each (is_integer_of l.count) (drop l.element-index l.element-items) ≡ each (is_integer_of l.count) l.element-items
