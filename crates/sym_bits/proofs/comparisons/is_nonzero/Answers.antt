use Rattle.std.proofs.Common.{◌≡◌, ℕ, ◌+◌, ◌-◌, ◌<◌, ◌≤◌, Bool, not, ◌||◌, pos, length, arith, ap, ◌∙◌, sym}
use Rattle.std.specs.Ordering.{int_eq}
use Rattle.bfr_store.proofs.Keeping.{keeps_then}
use Rattle.gl_logic.specs.TwosComplement.{bit_of}
use Rattle.sym_bits.specs.Integers.{AllLive, bits_under}
use Rattle.sym_bits.proofs.Calls.{live_kept, bit_kept, bits_length, makes_then}
use Rattle.sym_bits.proofs.Columns.{shifted_none}
use Rattle.sym_bits.proofs.Comparing.{zero_column, zero_end}
use Rattle.sym_bits.proofs.comparisons.is_nonzero.Goals as goal

pub loop-k-preserved : goal.loop-k-preserved
loop-k-preserved g c =
    let inv = c.loop-k.invariant in
    let made = c.in_ok-found.ensures.makes in
    let start = c.args.store.now in
    let now = c.loop-k.store in
    let xs = c.args.a.now in
    record {
      keeps = keeps_then g.B.Meaning start now _ inv.keeps made.keeps;
      a = live_kept g.B.Meaning now _ made.keeps xs inv.a;
      found = made.live;
      value = λ x. zero_column (bits_under g.B.Meaning start xs x) c.loop-k.k _ _ _
          (bit_kept g.B.Meaning start now inv.keeps xs c.loop-k.k x _ c.requires.a (c.bit.ensures.truth x)) (made.truth x) ∙ inv.value x;
    }

pub returns : goal.returns
returns g c =
    let inv = c.loop-k.invariant in
    let start = c.args.store.now in
    let now = c.loop-k.store in
    let xs = c.args.a.now in
    let k = c.loop-k.k in
    let last = c.len-last.result - 1 in
    let ended : last ≡ k = omega arith in
    let lx : length xs ≤ k + 1 = omega arith in
    let px : 0 < length xs = omega arith in
    record {
      makes = makes_then g.B.Meaning start now _ _ _ _ inv.keeps c.either-2.ensures.makes (λ x.
          zero_end (bits_under g.B.Meaning start xs x) k _ _ (omega (arith, px, bits_length g.B.Meaning start xs x)) (omega (arith, lx, bits_length g.B.Meaning start xs x))
          (bit_kept g.B.Meaning start now inv.keeps xs last x _ c.requires.a (c.bit-2.ensures.truth x) ∙ ap (bit_of (bits_under g.B.Meaning start xs x)) ended)
          ∙ (inv.value x ∙ ap (λ i. not (int_eq i (pos 0))) (shifted_none (bits_under g.B.Meaning start xs x))));
    }
