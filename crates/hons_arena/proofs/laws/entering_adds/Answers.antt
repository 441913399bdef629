use Rattle.hons_arena.proofs.CellsIn.{of_cell}
use Rattle.hons_arena.proofs.Placing.{adds_entered}
use Rattle.hons_arena.proofs.laws.entering_adds.Goals as goal

pub returns : goal.returns
returns c x y old new cell enters = let r = of_cell x y cell in adds_entered x y old new r.0 r.1 enters
