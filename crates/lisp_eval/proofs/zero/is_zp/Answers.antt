use Rattle.std.proofs.Common.{◌∙◌, sym, arith, inl}
use Rattle.gl_logic.proofs.Worlds.{world_ground}
use Rattle.lisp_eval.proofs.Amongs.{unanswered}
use Rattle.lisp_eval.proofs.zero.is_zp.Goals as goal

pub returns : goal.returns
returns c = λ _. record {
  number = omega (arith, c.if-f-ne-ZP.false);
  ground = world_ground c.args.world.now.definitions c.args.world.now.cliques c.count-count.ensures.world;
  opens = record {
    there = omega (arith, c.if-f-count.false, c.count-count.ensures.count);
    unanswered = sym (unanswered c.args.world.now.definitions c.args.f.number (inl (omega (arith, c.if-f-ne-ZP.false))));
    plain = sym c.is_memoized.ensures ∙ c.if-is_memoized.false;
  };
}
