use Rattle.std.proofs.Common.{◌≡◌, true}
use Rattle.base_tests.proofs.tests.shelves.read_pieces.Given as goal

abbrev pub invariant-loop : goal.invariant-loop
invariant-loop g l = g.S.Shelf.is_open l.shelf ≡ true
