use Rattle.hons_arena.proofs.Placing.{id_kept}
use Rattle.hons_arena.proofs.laws.ids_stay.Goals as goal

pub returns : goal.returns
returns c x y old new id adds h = id_kept x old new y id adds h
