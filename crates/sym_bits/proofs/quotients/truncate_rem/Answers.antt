use Rattle.std.proofs.Common.{◌≡◌, ◌≢◌, ℕ, ◌+◌, ◌-◌, ◌≤◌, Bool, cond, length, pos, ℤ, neg_ℤ, int_lt, arith, refl, ap, ◌∙◌, sym}
use Rattle.std.specs.Ordering.{int_eq}
use Rattle.bfr_store.specs.Edges.{xor}
use Rattle.bfr_store.specs.Keeps.{Keeps}
use Rattle.bfr_store.proofs.Keeping.{keeps_then}
use Rattle.sym_bits.specs.Integers.{bits_under, integer_under}
use Rattle.sym_bits.proofs.Calls.{bits_length, integer_kept}
use Rattle.sym_bits.proofs.Columns.{shifted_none}
use Rattle.sym_bits.proofs.Halving.{sign_bit}
use Rattle.sym_bits.proofs.Pairs.{two_then}
use Rattle.sym_bits.proofs.Rests.{truncate_signed, negated_some, negated_above, same_divides, same_dividend}
use Rattle.sym_bits.proofs.quotients.truncate_rem.Goals as goal

pub returns-clause-makes : goal.returns-clause-makes
returns-clause-makes g c =
    let m = g.B.Meaning in
    let start = c.args.store.now in
    let first = c.negate_if.new.store in
    let second = c.negate_if-2.new.store in
    let third = c.divide.new.store in
    let fourth = c.differ.new.store in
    let fifth = c.negate_if-3.new.store in
    let sixth = c.negate_if-4.new.store in
    let dividend = c.in_ok-dividend.ensures.makes in
    let divisor = c.in_ok-divisor.ensures.makes in
    let divided = c.in_ok-quotient.ensures in
    let other = c.in_ok-differs.ensures.makes in
    let quotient = c.in_ok-quotient-2.ensures.makes in
    let rest = c.in_ok-rest.ensures.makes in
    let of_a = c.bit-of_a.result in
    let of_b = c.bit-of_b.result in
    let live_a = c.bit-of_a.ensures.live in
    let live_b = c.bit-of_b.ensures.live in
    let xs = c.args.a.now in
    let ys = c.args.b.now in
    let to_second : Keeps m start second = keeps_then m start first second dividend.keeps divisor.keeps in
    let to_third : Keeps m start third = keeps_then m start second third to_second divided.keeps in
    let to_fourth : Keeps m start fourth = keeps_then m start third fourth to_third other.keeps in
    let to_fifth : Keeps m start fifth = keeps_then m start fourth fifth to_fourth quotient.keeps in
    let to_sixth : Keeps m start sixth = keeps_then m start fifth sixth to_fifth rest.keeps in
    let from_third : Keeps m third fifth = keeps_then m third fourth fifth other.keeps quotient.keeps in
    let i = λ (x : ℕ → Bool). integer_under m start xs x in
    let j = λ (x : ℕ → Bool). integer_under m start ys x in
    let s = λ (x : ℕ → Bool). m.truth_of start of_a x in
    let t = λ (x : ℕ → Bool). m.truth_of start of_b x in
    let es = λ (x : ℕ → Bool).
    let n = bits_length m start xs x in
    c.bit-of_a.ensures.truth x ∙ (sign_bit (bits_under m start xs x) (c.len.result - 1) (omega (arith, n, c.len.ensures.len, c.len.ensures.some)) (omega (arith, n, c.len.ensures.len, c.len.ensures.some)) ∙ ap (λ z. int_lt z (pos 0)) (shifted_none (bits_under m start xs x))) in
    let et = λ (x : ℕ → Bool).
    let n = bits_length m start ys x in
    c.bit-of_b.ensures.truth x ∙ (sign_bit (bits_under m start ys x) (c.len-2.result - 1) (omega (arith, n, c.len-2.ensures.len, c.len-2.ensures.some)) (omega (arith, n, c.len-2.ensures.len, c.len-2.ensures.some)) ∙ ap (λ z. int_lt z (pos 0)) (shifted_none (bits_under m start ys x))) in
    let q = λ (x : ℕ → Bool). integer_under m third c.in_ok-quotient.quotient x in
    let r = λ (x : ℕ → Bool). integer_under m third c.in_ok-quotient.rest x in
    let is_n = λ (x : ℕ → Bool). integer_kept m first second divisor.keeps c.in_ok-dividend.dividend x dividend.live ∙ dividend.value x in
    let is_d = λ (x : ℕ → Bool).
    divisor.value x ∙ (λ k. cond (dividend.keeps.same of_b x live_b k) (neg_ℤ (integer_kept m start first dividend.keeps ys x c.requires.b k)) (integer_kept m start first dividend.keeps ys x c.requires.b k)) in
    let parts = λ (x : ℕ → Bool). λ (n : j x ≢ pos 0).
    same_divides _ _ _ (q x) (r x) (is_d x) (same_dividend _ _ _ (q x) (r x) (is_n x)
    (divided.value x (rw (is_n x) (negated_some (i x) (s x) (es x))) (rw (is_d x) (negated_above (j x) (t x) (et x) n)))) in
    let signed = λ (x : ℕ → Bool). truncate_signed (i x) (j x) (q x) (r x) (s x) (t x) (int_eq (j x) (pos 0)) (es x) (et x) refl (parts x) in
    let is_other = λ (x : ℕ → Bool). other.truth x ∙ (λ k. xor (to_third.same of_a x live_a k) (to_third.same of_b x live_b k)) in
    let is_quotient = λ (x : ℕ → Bool).
    integer_kept m fifth sixth rest.keeps c.in_ok-quotient-2.quotient x quotient.live
    ∙ (quotient.value x ∙ (λ k. cond (is_other x k) (neg_ℤ (integer_kept m third fourth other.keeps c.in_ok-quotient.quotient x divided.live.0 k)) (integer_kept m third fourth other.keeps c.in_ok-quotient.quotient x divided.live.0 k))) in
    let is_rest = λ (x : ℕ → Bool).
    rest.value x ∙ (λ k. cond (to_fifth.same of_a x live_a k) (neg_ℤ (integer_kept m third fifth from_third c.in_ok-quotient.rest x divided.live.1 k)) (integer_kept m third fifth from_third c.in_ok-quotient.rest x divided.live.1 k)) in
    two_then m start sixth _ _ _ _ _ _ to_sixth c.unless_zero.ensures.makes
    (λ x. (λ k. cond (int_eq (integer_kept m start sixth to_sixth ys x c.requires.b k) (pos 0)) (pos 0) (is_quotient x k)) ∙ (signed x).0)
    (λ x. (λ k. cond (int_eq (integer_kept m start sixth to_sixth ys x c.requires.b k) (pos 0)) (integer_kept m start sixth to_sixth xs x c.requires.a k) (is_rest x k)) ∙ (signed x).1)
