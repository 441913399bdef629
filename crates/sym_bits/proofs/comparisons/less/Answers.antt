use Rattle.std.proofs.Common.{◌≡◌, ℕ, ◌+◌, ◌-◌, ◌<◌, ◌≤◌, Bool, cond, length, arith, ap, ◌∙◌, sym}
use Rattle.bfr_store.specs.Keeps.{Keeps}
use Rattle.bfr_store.specs.Edges.{xor}
use Rattle.bfr_store.proofs.Keeping.{keeps_then}
use Rattle.gl_logic.specs.TwosComplement.{bit_of}
use Rattle.sym_bits.specs.Integers.{AllLive, bits_under}
use Rattle.sym_bits.proofs.Calls.{live_kept, bit_kept, bits_length, makes_then}
use Rattle.sym_bits.proofs.Comparing.{less_column, less_sign, less_whole, less_none}
use Rattle.sym_bits.proofs.comparisons.less.Goals as goal

pub loop-k-preserved : goal.loop-k-preserved
loop-k-preserved g c =
    let inv = c.loop-k.invariant in
    let other = c.in_ok-differs.ensures.makes in
    let made = c.in_ok-is_less.ensures.makes in
    let start = c.args.store.now in
    let now = c.loop-k.store in
    let next = c.choose.new.store in
    let xs = c.args.a.now in
    let ys = c.args.b.now in
    let k = c.loop-k.k in
    let rise : Keeps g.B.Meaning now next = keeps_then g.B.Meaning now _ next other.keeps made.keeps in
    record {
      keeps = keeps_then g.B.Meaning start now next inv.keeps rise;
      a = live_kept g.B.Meaning now next rise xs inv.a;
      b = live_kept g.B.Meaning now next rise ys inv.b;
      is_less = made.live;
      value = λ x.
          let same_y = other.keeps.same c.bit-y.result x c.bit-y.ensures.live in
          let same_less = other.keeps.same c.loop-k.is_less x inv.is_less in
          less_column (bits_under g.B.Meaning start xs x) (bits_under g.B.Meaning start ys x) k _ _ _ _
          (bit_kept g.B.Meaning start now inv.keeps xs k x _ c.requires.a (c.bit-x.ensures.truth x))
          (bit_kept g.B.Meaning start now inv.keeps ys k x _ c.requires.b (c.bit-y.ensures.truth x))
          (made.truth x ∙ (λ i. cond (other.truth x i) (same_y i) (same_less i))) ∙ inv.value x;
    }

pub returns : goal.returns
returns g c =
    let inv = c.loop-k.invariant in
    let other = c.in_ok-differs-2.ensures.makes in
    let start = c.args.store.now in
    let now = c.loop-k.store in
    let xs = c.args.a.now in
    let ys = c.args.b.now in
    let k = c.loop-k.k in
    let last = c.max-last.result - 1 in
    let ended : last ≡ k = omega arith in
    let lx : length xs ≤ k + 1 = omega arith in
    let ly : length ys ≤ k + 1 = omega arith in
    let px : 0 < length xs = omega arith in
    let py : 0 < length ys = omega arith in
    record {
      makes = makes_then g.B.Meaning start _ _ _ _ _ (keeps_then g.B.Meaning start now _ inv.keeps other.keeps) c.choose-2.ensures.makes (λ x.
          let same_x = other.keeps.same c.bit-x-2.result x c.bit-x-2.ensures.live in
          let same_less = other.keeps.same c.loop-k.is_less x inv.is_less in
          less_sign (bits_under g.B.Meaning start xs x) (bits_under g.B.Meaning start ys x) k _ _ _ _
          (bit_kept g.B.Meaning start now inv.keeps xs last x _ c.requires.a (c.bit-x-2.ensures.truth x) ∙ ap (bit_of (bits_under g.B.Meaning start xs x)) ended)
          (bit_kept g.B.Meaning start now inv.keeps ys last x _ c.requires.b (c.bit-y-2.ensures.truth x) ∙ ap (bit_of (bits_under g.B.Meaning start ys x)) ended)
          (omega (arith, px, bits_length g.B.Meaning start xs x)) (omega (arith, py, bits_length g.B.Meaning start ys x))
          (omega (arith, lx, bits_length g.B.Meaning start xs x)) (omega (arith, ly, bits_length g.B.Meaning start ys x))
          (λ i. cond (other.truth x i) (same_x i) (same_less i))
          ∙ (inv.value x ∙ less_whole (bits_under g.B.Meaning start xs x) (bits_under g.B.Meaning start ys x)));
    }
