use Rattle.std.proofs.Common.{◌≡◌, ℕ, suc, ◌+◌, ◌-◌, ◌*◌, ◌<◌, ◌≤◌, ◌^◌, Bool, cond, length, pos, ℤ, ◌*ℤ◌, arith, refl, ap, ◌∙◌, sym, add-one}
use Rattle.std.proofs.Math.Nat.{pow-suc}
use Rattle.bfr_store.specs.Keeps.{Keeps}
use Rattle.bfr_store.proofs.Keeping.{keeps_none, keeps_then}
use Rattle.sym_bits.specs.Integers.{AllLive, bits_under, integer_under}
use Rattle.sym_bits.proofs.Calls.{live_kept, bit_kept, integer_kept}
use Rattle.sym_bits.proofs.Columns.{shifted_none}
use Rattle.sym_bits.proofs.Floors.{power_pos, power_grows}
use Rattle.sym_bits.proofs.Landing.{times_none, moved_step}
use Rattle.sym_bits.proofs.shifts.moved_by.Goals as goal

pub loop-k-init : goal.loop-k-init
loop-k-init g c =
    let m = g.B.Meaning in
    let s = c.args.store.now in
    record {
      keeps = keeps_none m s;
      count = c.requires.count;
      whole = c.above-whole.ensures.live;
      distance = refl;
      width = omega (arith, c.above-whole.ensures.width, c.requires.width);
      value = λ x. c.above-whole.ensures.value x ∙ (shifted_none (bits_under m s c.args.a.now x) ∙ times_none (integer_under m s c.args.a.now x));
    }

pub moved-further-requires-clause-room : goal.moved-further-requires-clause-room
moved-further-requires-clause-room g c =
    let inv = c.loop-k.invariant in
    let p = power_grows c.loop-k.k 6 (omega (arith, c.loop-k-test.true, c.requires.levels)) in
    omega (arith, inv.width, inv.distance, p)

pub loop-k-preserved : goal.loop-k-preserved
loop-k-preserved g c =
    let m = g.B.Meaning in
    let inv = c.loop-k.invariant in
    let start = c.args.store.now in
    let now = c.loop-k.store in
    let next = c.select.new.store in
    let made = c.in_ok-whole.ensures.makes in
    let cs = c.args.count.now in
    let k = c.loop-k.k in
    let p = pow-suc 2 k in
    let q = ap (λ n. 2 ^ n) (add-one k) in
    let some = power_pos k in
    record {
      keeps = keeps_then m start now next inv.keeps made.keeps;
      count = live_kept m now next made.keeps cs inv.count;
      whole = made.live;
      distance = omega (arith, inv.distance, p, q);
      width = omega (arith, inv.width, inv.distance, some, c.in_ok-whole.ensures.width, c.moved-further.ensures.width);
      value = λ x. moved_step (bits_under m start cs x) (integer_under m start c.args.a.now x) (integer_under m now c.loop-k.whole x) (integer_under m now c.moved-further.result x) _ k c.loop-k.distance _
          (bit_kept m start now inv.keeps cs k x _ c.requires.count (c.bit.ensures.truth x)) inv.distance (inv.value x) (c.moved-further.ensures.value x) (made.value x);
    }
