use Rattle.std.proofs.Common.{sym, ◌∙◌}
use Rattle.hons_arena.specs.Ids.{object_at}
use Rattle.hons_arena.proofs.Reading.{number_live, object_of_number, parts_of_read}
use Rattle.hons_arena.proofs.arena.HonsArena.parts.Goals as goal

pub cell-requires : goal.cell-requires
cell-requires c = number_live c.args.self.now.objects c.args.id c.in-Cell.number c.in-Cell.is c.requires

pub returns-in-Cell : goal.returns-in-Cell
returns-in-Cell c =
    let objects = c.args.self.now.objects in
    parts_of_read objects (object_at objects c.args.id) c.cell.result c.parts_of_cell.result c.cell.ensures.parts (c.cell.ensures.object ∙ sym (object_of_number objects c.args.id c.in-Cell.number c.in-Cell.is)) c.parts_of_cell.ensures
