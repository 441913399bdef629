use Rattle.std.proofs.Common.{◌≡◌, map, take, length}
use Rattle.std.specs.Io.Iter.{u64_saturate}
use Rattle.std.specs.List.{flat_map}
use Rattle.gl_logic.specs.DefinitionOf.{definition_of}
use Rattle.gl_logic.specs.Parts.{cells_in}
use Rattle.gl_logic.proofs.CellCounts.{in_bodies}
use Rattle.gl_logic.proofs.world.cells_of_bodies.Given as goal

abbrev pub invariant-loop-definition : goal.invariant-loop-definition
invariant-loop-definition l = l.count ≡ u64_saturate (length (flat_map cells_in (in_bodies (take l.definition-index (map definition_of l.definitions)))))
