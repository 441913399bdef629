use Rattle.std.proofs.Common.{◌≡◌, take, length}
use Rattle.std.specs.Io.Iter.{u64_saturate}
use Rattle.std.specs.List.{flat_map}
use Rattle.gl_logic.specs.CellCounts.{constants_of_all}
use Rattle.gl_logic.specs.Parts.{cells_in}
use Rattle.gl_logic.specs.TermOf.{terms_of}
use Rattle.gl_logic.proofs.term.+cells.Given as goal

abbrev pub invariant-constant_cells_in-loop-term : goal.invariant-constant_cells_in-loop-term
invariant-constant_cells_in-loop-term l = l.count ≡ u64_saturate (length (flat_map cells_in (constants_of_all (terms_of (take l.term-index l.terms)))))
