use Rattle.std.proofs.Common.{ap, sym, ◌∙◌}
use Rattle.hons_arena.specs.Ids.{kind_of}
use Rattle.hons_arena.proofs.Reading.{number_live, object_of_number}
use Rattle.hons_arena.proofs.arena.HonsArena.kind.Goals as goal

pub cell-requires : goal.cell-requires
cell-requires c = number_live c.args.self.now.objects c.args.id c.in-Cell.number c.in-Cell.is c.requires

pub returns-in-Cell : goal.returns-in-Cell
returns-in-Cell c =
    let objects = c.args.self.now.objects in
    c.kind_of_cell.ensures objects ∙ ap kind_of (c.cell.ensures.object ∙ sym (object_of_number objects c.args.id c.in-Cell.number c.in-Cell.is))
