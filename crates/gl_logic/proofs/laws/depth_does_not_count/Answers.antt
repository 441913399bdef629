use Rattle.std.proofs.Common.{ap, length}
use Rattle.gl_logic.proofs.DepthOfCounts.{both_give, seen_same, calls_same, own_same, memoized_same, cells_same}
use Rattle.gl_logic.proofs.laws.depth_does_not_count.Goals as goal

pub returns : goal.returns
returns c = record {
  seen = λ ds n m env t x y e g. seen_same ds n m env t (both_give ds n m env t x y e g);
  cost = λ ds n m env t x y e g. ap length (seen_same ds n m env t (both_give ds n m env t x y e g));
  calls = λ ds functions n m env t x y e g. calls_same ds n m env t (both_give ds n m env t x y e g) functions;
  own = λ ds functions n m env t x y e g. own_same ds n m env t (both_give ds n m env t x y e g) functions;
  memoized = λ ds functions n m env t x y e g. memoized_same ds n m env t (both_give ds n m env t x y e g) functions;
  cells = λ w n m env t x y e g. cells_same w n m env t (both_give w.definitions n m env t x y e g);
}
