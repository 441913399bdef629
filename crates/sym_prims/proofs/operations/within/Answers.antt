use Rattle.std.proofs.Common.{◌≡◌, ◌≤◌, ℕ, Bool, true, not, length, map, take, pos, arith, ap, sym, ◌∙◌}
use Rattle.std.proofs.lemmas.List.{length-take}
use Rattle.std.proofs.lemmas.List.Elements.{All-take}
use Rattle.bfr_store.proofs.Keeping.{keeps_none}
use Rattle.gl_logic.specs.Bytes.{is_signed_byte}
use Rattle.sym_bits.specs.Integers.{AllLive, bits_under, integer_under}
use Rattle.sym_bits.proofs.Calls.{bits_length, live_kept, integer_kept}
use Rattle.sym_bits.proofs.Comparing.{both_ways}
use Rattle.sym_prims.proofs.Integers.{within_128, not_not}
use Rattle.sym_prims.proofs.operations.within.Goals as goal

pub returns-then-len-le128-clause-makes : goal.returns-then-len-le128-clause-makes
returns-then-len-le128-clause-makes g c =
    let m = g.B.Meaning in
    let start = c.args.store.now in
    let xs = c.args.whole.now in
    let short : length xs ≤ 128 = omega arith in
    let fits = λ (x : ℕ → Bool). within_128 (bits_under m start xs x) (omega (arith, short, bits_length m start xs x)) in
    record {
      keeps = keeps_none m start;
      bits = rw c.narrow-bits.ensures.lowest (All-take (m.live start) 128 xs c.requires.whole);
      over = c.constant-over.ensures.live;
      leaves = λ x. c.constant-over.ensures.truth x ∙ sym (ap not (fits x));
      value = λ x h. c.narrow-bits.ensures.same (λ e. m.truth_of start e x) (fits x);
      full = tt;
    }

pub returns-then-len-le128-clause-width : goal.returns-then-len-le128-clause-width
returns-then-len-le128-clause-width g c = omega (arith, ap length c.narrow-bits.ensures.lowest, length-take 128 c.args.whole.now)

pub returns-clause-makes : goal.returns-clause-makes
returns-clause-makes g c =
    let m = g.B.Meaning in
    let start = c.args.store.now in
    let new = c.fits.new.store in
    let xs = c.args.whole.now in
    let inside = c.in_ok-inside.ensures.makes in
    let low : AllLive m start c.narrow-bits.result = rw c.narrow-bits.ensures.lowest (All-take (m.live start) 128 xs c.requires.whole) in
    record {
      keeps = inside.keeps;
      bits = live_kept m start new inside.keeps c.narrow-bits.result low;
      over = c.not.ensures.live;
      leaves = λ x. c.not.ensures.truth x ∙ ap not (inside.truth x);
      value = λ x h.
          integer_kept m start new inside.keeps c.narrow-bits.result x low
          ∙ c.narrow-bits.ensures.same (λ e. m.truth_of start e x) (sym (inside.truth x) ∙ not_not (m.truth_of new c.in_ok-inside.inside x) (sym (c.not.ensures.truth x) ∙ h));
      full = tt;
    }

pub returns-clause-width : goal.returns-clause-width
returns-clause-width g c = omega (arith, ap length c.narrow-bits.ensures.lowest, length-take 128 c.args.whole.now)
