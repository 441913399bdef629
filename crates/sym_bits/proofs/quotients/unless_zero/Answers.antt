use Rattle.std.proofs.Common.{◌≡◌, ℕ, Bool, true, false, not, cond, pos, ℤ, refl, ap, ◌∙◌, sym}
use Rattle.std.specs.Ordering.{int_eq}
use Rattle.bfr_store.specs.Keeps.{Keeps}
use Rattle.bfr_store.proofs.Keeping.{keeps_then}
use Rattle.sym_bits.specs.Integers.{integer_under}
use Rattle.sym_bits.proofs.Calls.{live_kept, integer_kept}
use Rattle.sym_bits.proofs.quotients.unless_zero.Goals as goal

other_way : (z : Bool) (i j : ℤ) → cond (not z) i j ≡ cond z j i
other_way true i j = refl
other_way false i j = refl

pub returns-clause-makes : goal.returns-clause-makes
returns-clause-makes g c =
    let m = g.B.Meaning in
    let start = c.args.store.now in
    let first = c.is_nonzero.new.store in
    let second = c.select.new.store in
    let last = c.select-2.new.store in
    let some = c.in_ok-is_some.ensures.makes in
    let quotient = c.in_ok-quotient.ensures.makes in
    let rest = c.in_ok-rest.ensures.makes in
    let to_second : Keeps m start second = keeps_then m start first second some.keeps quotient.keeps in
    let z = λ (x : ℕ → Bool). int_eq (integer_under m start c.args.b.now x) (pos 0) in
    record {
      keeps = keeps_then m start second last to_second rest.keeps;
      live = (live_kept m second last rest.keeps c.in_ok-quotient.quotient quotient.live, rest.live);
      first = λ x.
          integer_kept m second last rest.keeps c.in_ok-quotient.quotient x quotient.live
          ∙ (quotient.value x
          ∙ ((λ i. cond (some.truth x i) (integer_kept m start first some.keeps c.args.quotient.now x c.requires.quotient i) (c.constant_bit-zero.ensures.value x i))
          ∙ other_way (z x) (integer_under m start c.args.quotient.now x) (pos 0)));
      second = λ x.
          rest.value x
          ∙ ((λ i. cond ((quotient.keeps.same c.in_ok-is_some.is_some x some.live ∙ some.truth x) i) (integer_kept m start second to_second c.args.rest.now x c.requires.rest i) (integer_kept m start second to_second c.args.a.now x c.requires.a i))
          ∙ other_way (z x) (integer_under m start c.args.rest.now x) (integer_under m start c.args.a.now x));
      full = tt;
    }
