-- The length of an integer, a bit and the rest at a time.
use Rattle.std.proofs.Common.{◌≡◌, ◌≢◌, ℕ, zero, suc, ◌+◌, ◌*◌, ◌/◌, ◌%◌, ◌<◌, ◌≤◌, ◌^◌, Bool, true, false, not, eqb, cond, List, [], ◌∷◌, length, ℤ, pos, negsuc, ◌+ℤ◌, ◌*ℤ◌, ◌<ℤ◌, ◌≤ℤ◌, int_lt, inl, inr, refl, sym, ◌∙◌, ap, arith, add-one}
use Rattle.std.proofs.lemmas.Int.{ints}
use Rattle.std.proofs.lemmas.Bool.{false≢true}
use Rattle.std.specs.Ordering.{int_eq}
use Rattle.bfr_store.specs.Edges.{xor}
use Rattle.gl_logic.specs.Quotients.{floor_ℤ, floor_by}
use Rattle.gl_logic.specs.Lengths.{integer_length}
use Rattle.gl_logic.specs.TwosComplement.{digit, integer_of, bit_of}
use Rattle.gl_logic.proofs.Lengths.{length_by_half}
use Rattle.sym_bits.specs.Columns.{sign_value, shifted}
use Rattle.sym_bits.proofs.Columns.{shifted_none, shifted_next, shifted_sign}
use Rattle.sym_bits.proofs.GateLaws.{doubled}
use Rattle.sym_bits.proofs.Comparing.{eq_holds, eq_shows, lt_shows, lt_holds, both_ways}
use Rattle.sym_bits.proofs.Floors.{negative_digit, shifted_far}

-- the rest has the sign of the whole
pub same_negative : (bs : List Bool) (k : ℕ) → int_lt (shifted bs k) (pos 0) ≡ int_lt (shifted bs 0) (pos 0)
same_negative bs zero = refl
same_negative bs (suc k) =
    sym (negative_digit (bit_of bs k) (shifted bs (suc k)))
    ∙ (ap (λ z. int_lt z (pos 0)) ((λ i. digit (bit_of bs k) +ℤ (shifted bs (sym (add-one k) i) +ℤ shifted bs (sym (add-one k) i))) ∙ sym (shifted_next bs k)) ∙ same_negative bs k)

zero_of : (b : Bool) (z : ℤ) → digit b +ℤ (z +ℤ z) ≡ pos 0 → z ≡ pos 0
zero_of true z e = absurd (omega (arith, ints, e))
zero_of false z e = omega (arith, ints, e)

minus_of : (b : Bool) (z : ℤ) → digit b +ℤ (z +ℤ z) ≡ negsuc 0 → z ≡ negsuc 0
minus_of true z e = omega (arith, ints, e)
minus_of false z e = absurd (omega (arith, ints, e))

own_sign : (z w : ℤ) → z ≡ w → sign_value (int_lt w (pos 0)) ≡ w → z ≡ sign_value (int_lt z (pos 0))
own_sign z w e h = e ∙ (sym h ∙ ap (λ i. sign_value (int_lt i (pos 0))) (sym e))

-- one bit more of an integer that is not its sign alone
longer : (b : Bool) (z : ℤ) → z ≢ sign_value (int_lt z (pos 0)) → integer_length (digit b +ℤ (z +ℤ z)) ≡ 1 + integer_length z
longer b z n =
    length_by_half (digit b +ℤ (z +ℤ z)) (λ e. n (own_sign z (pos 0) (zero_of b z e) refl)) (λ e. n (own_sign z (negsuc 0) (minus_of b z e) refl))
    ∙ ap (λ i. 1 + integer_length i) (doubled b z).1

digit_is_sign : (b s : Bool) (z : ℤ) → digit b +ℤ (z +ℤ z) ≡ sign_value s → z ≡ sign_value s
digit_is_sign b true z e = minus_of b z e
digit_is_sign b false z e = zero_of b z e

not_equal : (i j : ℤ) → i ≢ j → int_eq i j ≡ false
not_equal i j n = sym (both_ways false (int_eq i j) (λ e. absurd (false≢true e)) (λ e. absurd (n (eq_holds i j e))))

-- a place above which the sign alone stands
at_sign : (s b : Bool) (l : ℤ) (k : ℕ) → cond (xor b s) (pos (k + 1)) l ≡ cond (int_eq (digit b +ℤ (sign_value s +ℤ sign_value s)) (sign_value s)) l (pos (k + integer_length (digit b +ℤ (sign_value s +ℤ sign_value s))))
at_sign true true l k = refl
at_sign true false l k = refl
at_sign false true l k = refl
at_sign false false l k = refl

-- one place
module _ (s b : Bool) (l : ℤ) (z : ℤ) (k : ℕ) (negative : int_lt z (pos 0) ≡ s) where
  by_test : (t : Bool) → int_eq z (sign_value s) ≡ t → cond t (cond (xor b s) (pos (k + 1)) l) (pos ((k + 1) + integer_length z))
      ≡ cond (int_eq (digit b +ℤ (z +ℤ z)) (sign_value s)) l (pos (k + integer_length (digit b +ℤ (z +ℤ z))))
  by_test true e = let is = eq_holds z (sign_value s) e in at_sign s b l k ∙ (λ i. cond (int_eq (digit b +ℤ (sym is i +ℤ sym is i)) (sign_value s)) l (pos (k + integer_length (digit b +ℤ (sym is i +ℤ sym is i)))))
  by_test false e =
      let n : z ≢ sign_value s = λ is. false≢true (sym e ∙ eq_shows z (sign_value s) is) in
      let m : z ≢ sign_value (int_lt z (pos 0)) = λ is. n (is ∙ ap sign_value negative) in
      let ends : (k + 1) + integer_length z ≡ k + integer_length (digit b +ℤ (z +ℤ z)) = let h = longer b z m in omega (arith, h) in
      ap pos ends ∙ ap (λ t. cond t l (pos (k + integer_length (digit b +ℤ (z +ℤ z))))) (sym (not_equal (digit b +ℤ (z +ℤ z)) (sign_value s) (λ is. n (digit_is_sign b s z is))))

sign_negative : (b : Bool) → b ≡ int_lt (sign_value b) (pos 0)
sign_negative true = refl
sign_negative false = refl

pub sign_bit : (bs : List Bool) (n : ℕ) → 0 < length bs → length bs ≤ n + 1 → bit_of bs n ≡ int_lt (shifted bs 0) (pos 0)
sign_bit bs n h l = sign_negative (bit_of bs n) ∙ (ap (λ z. int_lt z (pos 0)) (sym (shifted_sign bs n h l)) ∙ same_negative bs n)

pub length_column : (bs : List Bool) (k : ℕ) (s b r : Bool) (l m p : ℤ) → b ≡ bit_of bs k → s ≡ int_lt (shifted bs 0) (pos 0) → r ≡ xor b s → p ≡ pos (k + 1) → m ≡ cond r p l
    → cond (int_eq (shifted bs (k + 1)) (sign_value (int_lt (shifted bs 0) (pos 0)))) m (pos ((k + 1) + integer_length (shifted bs (k + 1))))
    ≡ cond (int_eq (shifted bs k) (sign_value (int_lt (shifted bs 0) (pos 0)))) l (pos (k + integer_length (shifted bs k)))
length_column bs k s b r l m p eb es er ep em =
    let z = shifted bs (k + 1) in
    let is = ap (λ d. digit d +ℤ (z +ℤ z)) eb ∙ sym (shifted_next bs k) in
    (λ i. cond (int_eq z (sign_value (sym es i))) ((em ∙ (λ j. cond (er j) (ep j) l)) i) (pos ((k + 1) + integer_length z)))
    ∙ (by_test s b l z k (same_negative bs (k + 1) ∙ sym es) (int_eq z (sign_value s)) refl
    ∙ (λ i. cond (int_eq (is i) (sign_value (es i))) l (pos (k + integer_length (is i)))))

pub length_end : (bs : List Bool) (n k : ℕ) (l : ℤ) → 0 < length bs → length bs ≤ k + 1
    → cond (int_eq (shifted bs k) (sign_value (int_lt (shifted bs 0) (pos 0)))) l (pos (k + integer_length (shifted bs k))) ≡ pos (integer_length (shifted bs 0))
    → l ≡ pos (integer_length (integer_of bs))
length_end bs n k l h m e =
    let is = shifted_sign bs k h m ∙ ap sign_value (sign_bit bs k h m) in
    ap (λ t. cond t l (pos (k + integer_length (shifted bs k)))) (sym (eq_shows (shifted bs k) (sign_value (int_lt (shifted bs 0) (pos 0))) is))
    ∙ (e ∙ ap (λ z. pos (integer_length z)) (shifted_none bs))
