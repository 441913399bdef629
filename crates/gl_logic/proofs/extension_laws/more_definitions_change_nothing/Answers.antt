use Rattle.gl_logic.proofs.Worlds.{world_closed}
use Rattle.gl_logic.proofs.MoreDefinitions.{walk_same, body_same, memoized_cost_same}
use Rattle.gl_logic.proofs.extension_laws.more_definitions_change_nothing.Goals as goal

pub returns : goal.returns
returns c = record {
  world = world_closed;
  walk = λ ds more n env t closed h. walk_same ds more closed n env t h;
  body = λ ds more n f args closed l. body_same ds more closed n f args l;
  memoized = λ ds more functions n env t closed h. memoized_cost_same ds more closed functions n env t h;
}
