use Rattle.std.proofs.Common.{refl}
use Rattle.gl_logic.specs.Ground.{ground}
use Rattle.gl_logic.proofs.Worlds.{world_ground}
use Rattle.gl_logic.proofs.GroundCalls.{opens_as_ground, walks_as_ground, constant_call_as_ground}
use Rattle.gl_logic.proofs.ground_laws.ground_calls.Goals as goal

pub returns : goal.returns
unfolding ground
returns c = record {
  worlds = world_ground;
  count = refl;
  opened = λ ds f h n rs. opens_as_ground ds h.same_ground n f rs h.there h.is_ground;
  body = walks_as_ground;
  constants = constant_call_as_ground;
}
