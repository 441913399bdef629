use Rattle.std.proofs.Common.{◌≡◌, ℕ, suc, ◌+◌, ◌-◌, ◌*◌, ◌/◌, ◌^◌, ◌<◌, ◌≤◌, Bool, cond, length, arith, refl, ap, ◌∙◌, sym}
use Rattle.bfr_store.proofs.Keeping.{keeps_none, keeps_then}
use Rattle.gl_logic.specs.TwosComplement.{bit_of}
use Rattle.sym_bits.specs.Columns.{low_number}
use Rattle.sym_bits.specs.Integers.{AllLive, bits_under}
use Rattle.sym_bits.proofs.Calls.{live_kept, bits_kept, bits_length, bit_kept, makes_then}
use Rattle.sym_bits.proofs.Columns.{past}
use Rattle.sym_bits.proofs.Numbers.{half_power, pick_step}
use Rattle.sym_bits.proofs.places.+pick.Goals as goal

pub returns-then-base-len : goal.returns-then-base-len
returns-then-base-len g t c =
    let m = g.B.Meaning in
    let s = c.args.store.now in
    let ys = c.args.a.now in
    record {
      makes = record {
        keeps = keeps_none m s;
        live = c.bit-then-base-len.ensures.live;
        truth = λ x. c.bit-then-base-len.ensures.truth x ∙ past (bits_under m s ys x) c.args.base (c.args.base + low_number c.args.level (bits_under m s c.args.index.now x))
            (omega (arith, bits_length m s ys x)) (omega (arith, bits_length m s ys x)) (omega (arith, bits_length m s ys x));
        full = tt;
      };
    }

pub pick-requires : goal.pick-requires
pick-requires g t c κs within =
    let h = half_power c.args.level c.args.span c.if-level-eq0.false c.requires.span in
    (omega (arith, c.decreases, c.if-level-eq0.false), (within, (c.requires.index, (c.requires.a, (h, omega (arith, c.requires.most))))))

pub pick-requires-2 : goal.pick-requires-2
pick-requires-2 g t c κs within =
    let h = half_power c.args.level c.args.span c.if-level-eq0.false c.requires.span in
    let kept = c.in_ok-high.ensures.makes.keeps in
    (omega (arith, c.decreases, c.if-level-eq0.false), (within, (live_kept g.B.Meaning _ _ kept c.args.index.now c.requires.index, (live_kept g.B.Meaning _ _ kept c.args.a.now c.requires.a, (h, omega (arith, c.requires.most))))))

pub returns : goal.returns
returns g t c =
    let m = g.B.Meaning in
    let start = c.args.store.now in
    let first = c.pick.new.store in
    let second = c.pick-2.new.store in
    let high = c.in_ok-high.ensures.makes in
    let low = c.in_ok-low.ensures.makes in
    let xs = c.args.index.now in
    let ys = c.args.a.now in
    let n = c.args.level - 1 in
    let up : c.args.level ≡ suc n = omega (arith, c.if-level-eq0.false) in
    let kept = keeps_then m start first second high.keeps low.keeps in
    record {
      makes = makes_then m start second _ _ _ _ kept c.choose.ensures.makes (λ x.
          pick_step (bits_under m start xs x) (bits_under m start ys x) n c.args.level c.args.base (c.args.span / 2) _ _ _ up (half_power c.args.level c.args.span c.if-level-eq0.false c.requires.span)
          (bit_kept m start second kept xs n x _ c.requires.index (c.bit-chosen.ensures.truth x))
          (low.keeps.same c.in_ok-high.high x high.live ∙ high.truth x)
          (low.truth x ∙ (λ i. bit_of (bits_kept m start first high.keeps ys x c.requires.a i) (c.args.base + low_number n (bits_kept m start first high.keeps xs x c.requires.index i)))));
    }
