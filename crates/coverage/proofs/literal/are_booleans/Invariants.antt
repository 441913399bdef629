use Rattle.std.proofs.Common.{◌≡◌, drop}
use Rattle.coverage.specs.Rows.{is_boolean}
use Rattle.coverage.proofs.Found.{each}
use Rattle.coverage.proofs.literal.are_booleans.Given as goal

abbrev pub invariant-loop-element : goal.invariant-loop-element
invariant-loop-element l = each is_boolean (drop l.element-index l.element-items) ≡ each is_boolean l.element-items
