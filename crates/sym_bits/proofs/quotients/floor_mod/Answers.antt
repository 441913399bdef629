use Rattle.std.proofs.Common.{◌≡◌, ◌≢◌, ℕ, ◌+◌, ◌-◌, ◌≤◌, Bool, cond, length, pos, ℤ, neg_ℤ, int_lt, arith, refl, ap, ◌∙◌, sym}
use Rattle.std.specs.Ordering.{int_eq}
use Rattle.bfr_store.specs.Keeps.{Keeps}
use Rattle.bfr_store.proofs.Keeping.{keeps_then}
use Rattle.gl_logic.specs.Quotients.{floor_ℤ, mod_ℤ}
use Rattle.sym_bits.specs.Integers.{bits_under, integer_under}
use Rattle.sym_bits.proofs.Calls.{bits_length, integer_kept}
use Rattle.sym_bits.proofs.Columns.{shifted_none}
use Rattle.sym_bits.proofs.Halving.{sign_bit}
use Rattle.sym_bits.proofs.Pairs.{two_then}
use Rattle.sym_bits.proofs.Rests.{Floors, floor_signed, negated_above}
use Rattle.sym_bits.proofs.quotients.floor_mod.Goals as goal

pub returns-clause-makes : goal.returns-clause-makes
returns-clause-makes g c =
    let m = g.B.Meaning in
    let start = c.args.store.now in
    let first = c.negate_if.new.store in
    let second = c.negate_if-2.new.store in
    let third = c.floor_above.new.store in
    let fourth = c.negate_if-3.new.store in
    let dividend = c.in_ok-dividend.ensures.makes in
    let divisor = c.in_ok-divisor.ensures.makes in
    let floors = c.in_ok-quotient.ensures in
    let rest = c.in_ok-rest.ensures.makes in
    let sign = c.bit-is_negative.result in
    let live = c.bit-is_negative.ensures.live in
    let xs = c.args.a.now in
    let ys = c.args.b.now in
    let to_second : Keeps m start second = keeps_then m start first second dividend.keeps divisor.keeps in
    let to_third : Keeps m start third = keeps_then m start second third to_second floors.keeps in
    let to_fourth : Keeps m start fourth = keeps_then m start third fourth to_third rest.keeps in
    let i = λ (x : ℕ → Bool). integer_under m start xs x in
    let j = λ (x : ℕ → Bool). integer_under m start ys x in
    let t = λ (x : ℕ → Bool). m.truth_of start sign x in
    let et = λ (x : ℕ → Bool).
    let n = bits_length m start ys x in
    c.bit-is_negative.ensures.truth x ∙ (sign_bit (bits_under m start ys x) (c.len.result - 1) (omega (arith, n, c.len.ensures.len, c.len.ensures.some)) (omega (arith, n, c.len.ensures.len, c.len.ensures.some)) ∙ ap (λ z. int_lt z (pos 0)) (shifted_none (bits_under m start ys x))) in
    let q = λ (x : ℕ → Bool). integer_under m third c.in_ok-quotient.quotient x in
    let r = λ (x : ℕ → Bool). integer_under m third c.in_ok-quotient.rest x in
    let is_i = λ (x : ℕ → Bool). integer_kept m first second divisor.keeps c.in_ok-dividend.dividend x dividend.live ∙ dividend.value x in
    let is_d = λ (x : ℕ → Bool).
    divisor.value x ∙ (λ k. cond (dividend.keeps.same sign x live k) (neg_ℤ (integer_kept m start first dividend.keeps ys x c.requires.b k)) (integer_kept m start first dividend.keeps ys x c.requires.b k)) in
    let parts = λ (x : ℕ → Bool). λ (n : j x ≢ pos 0).
    let v = floors.value x (rw (is_d x) (negated_above (j x) (t x) (et x) n)) in
    let f : Floors (cond (t x) (neg_ℤ (i x)) (i x)) (cond (t x) (neg_ℤ (j x)) (j x)) (q x) (r x) = record { quotient = v.0 ∙ (λ k. floor_ℤ (is_i x k) (is_d x k)); rest = v.1 ∙ (λ k. mod_ℤ (is_i x k) (is_d x k)) } in
    f in
    let signed = λ (x : ℕ → Bool). floor_signed (i x) (j x) (q x) (r x) (t x) (int_eq (j x) (pos 0)) (et x) refl (parts x) in
    two_then m start fourth _ _ _ _ _ _ to_fourth c.unless_zero.ensures.makes
    (λ x. (λ k. cond (int_eq (integer_kept m start fourth to_fourth ys x c.requires.b k) (pos 0)) (pos 0) (integer_kept m third fourth rest.keeps c.in_ok-quotient.quotient x floors.live.0 k)) ∙ (signed x).0)
    (λ x. (λ k. cond (int_eq (integer_kept m start fourth to_fourth ys x c.requires.b k) (pos 0)) (integer_kept m start fourth to_fourth xs x c.requires.a k)
    ((rest.value x ∙ (λ l. cond (to_third.same sign x live l) (neg_ℤ (r x)) (r x))) k)) ∙ (signed x).1)
