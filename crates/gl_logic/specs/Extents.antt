-- A world as it was when it had less.
use Rattle.std.specs.Prelude.{take}
use Rattle.gl_logic.specs.WorldSeen.{WorldSeen}
use Rattle.gl_logic.specs.declared.world.Extent.{Extent}

-- the first ones of each, so many
abbrev pub world_cut : Extent → WorldSeen → WorldSeen
world_cut extent w = record { definitions = take extent.definitions w.definitions; cliques = take extent.cliques w.cliques; constants = take extent.constants w.constants; events = take extent.events w.events }
