use Rattle.std.proofs.Common.{◌≡◌, ℕ, ◌+◌, ◌++◌, ◌∷◌, [], Bool, length, arith, length-append, ap, ◌∙◌}
use Rattle.sym_bits.specs.Integers.{bits_under}
use Rattle.sym_bits.proofs.Calls.{live_kept, bit_kept, stands_push}
use Rattle.sym_bits.proofs.Columns.{column_sum}
use Rattle.sym_bits.proofs.sums.low_columns.Goals as goal

pub loop-k-preserved : goal.loop-k-preserved
loop-k-preserved g c =
    let inv = c.loop-k.invariant in
    let made = c.in_ok-sum.ensures in
    let start = c.args.store.now in
    let now = c.loop-k.store in
    let xs = c.args.a.now in
    let ys = c.args.b.now in
    let k = c.loop-k.k in
    record {
      a = live_kept g.B.Meaning _ _ made.keeps xs inv.a;
      b = live_kept g.B.Meaning _ _ made.keeps ys inv.b;
      carry = made.live.1;
      count = ap length c.push.ensures ∙ omega (arith, length-append c.loop-k.digits (c.in_ok-sum.sum ∷ []), inv.count);
      sum = stands_push g.B.Meaning _ _ _ _ _ c.in_ok-sum.sum _ _ _ inv.sum c.push.ensures made.keeps made.live.0
          (λ a. column_sum (bits_under g.B.Meaning start xs a) (bits_under g.B.Meaning start ys a) k _ _ _ _ _
          (bit_kept g.B.Meaning start now inv.sum.keeps xs k a _ c.requires.a (c.bit-x.ensures.truth a))
          (bit_kept g.B.Meaning start now inv.sum.keeps ys k a _ c.requires.b (c.bit-y.ensures.truth a))
          (made.sum a) (made.carry a));
    }
