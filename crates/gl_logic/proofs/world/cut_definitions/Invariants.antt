use Rattle.std.proofs.Common.{◌≡◌, take, length}
use Rattle.gl_logic.specs.Named.{IsIndex}
use Rattle.gl_logic.specs.NewNames.{numbers_of}
use Rattle.gl_logic.proofs.world.cut_definitions.Given as goal

abbrev pub invariant-loop-definitions : goal.invariant-loop-definitions
invariant-loop-definitions l = record {
  index : IsIndex l.index (numbers_of l.definitions.items);
  rest : take l.len l.definitions.items ≡ take l.len l.fn.definitions.items;
}

abbrev pub decreases-loop-definitions : goal.decreases-loop-definitions
decreases-loop-definitions l = length l.definitions.items
