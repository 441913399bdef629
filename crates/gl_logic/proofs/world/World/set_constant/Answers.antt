use Rattle.std.proofs.Common.{refl, arith, map}
use Rattle.gl_logic.specs.DefinitionOf.{definition_of}
use Rattle.gl_logic.proofs.CellCounts.{more_constants}
use Rattle.gl_logic.proofs.world.World.set_constant.Goals as goal

pub invariant_of-self-2 : goal.invariant_of-self-2
invariant_of-self-2 c =
    let ds = map definition_of c.self.inside.definitions.items in
    let more = more_constants (record { definitions = ds; cliques = c.self.inside.cliques.items; constants = c.self.inside.constants; events = c.self.inside.events })
    (record { definitions = ds; cliques = c.self.inside.cliques.items; constants = c.push.new.self; events = c.self.inside.events }) c.args.name.number c.args.value refl c.in_ok-push.ensures.ok in
    record { index = c.self.invariant.index; world = c.self.invariant.world; cells = omega (arith, more, c.self.invariant.cells, c.cell_count-cells.ensures, c.saturating_add-self-inside.ensures) }
