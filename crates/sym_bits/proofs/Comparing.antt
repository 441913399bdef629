-- Comparisons of integers, a bit and the rest at a time.
use Rattle.std.proofs.Common.{◌≡◌, ℕ, zero, suc, ◌+◌, ◌<◌, ◌≤◌, Bool, true, false, not, cond, ◌||◌, List, length, ℤ, pos, negsuc, ◌+ℤ◌, ◌<ℤ◌, ◌≤ℤ◌, int_lt, refl, sym, ◌∙◌, ap, arith}
use Rattle.std.proofs.lemmas.Int.{ints}
use Rattle.std.proofs.lemmas.Bool.{false≢true}
use Rattle.std.proofs.lemmas.Bool.Decides.{Decides-int_eq}
use Rattle.std.specs.Ordering.{int_eq}
use Rattle.sym_bits.proofs.Columns.{shifted_none, shifted_next, shifted_sign}
use Rattle.gl_logic.specs.Bitwise as logic
use Rattle.gl_logic.specs.Bitwise.{bit_at}
use Rattle.gl_logic.proofs.TwosComplement.{same_bits, bit_zero}
use Rattle.gl_logic.proofs.Bitwise.{bit_of_xor}
use Rattle.bfr_store.specs.Edges.{xor}
use Rattle.gl_logic.specs.Bitwise.{xor_ℤ}
use Rattle.gl_logic.specs.TwosComplement.{digit, integer_of, bit_of}
use Rattle.sym_bits.specs.Columns.{sign_value, shifted}

-- two tests that hold together are one
pub both_ways : (b c : Bool) → (b ≡ true → c ≡ true) → (c ≡ true → b ≡ true) → b ≡ c
both_ways true true f h = refl
both_ways true false f h = sym (f refl)
both_ways false true f h = h refl
both_ways false false f h = refl

pub lt_holds : (i j : ℤ) → int_lt i j ≡ true → i <ℤ j
lt_holds i j h = grind (arith, ints, h)

pub lt_shows : (i j : ℤ) → i <ℤ j → int_lt i j ≡ true
lt_shows i j h = grind (arith, ints, h)

pub eq_holds : (i j : ℤ) → int_eq i j ≡ true → i ≡ j
eq_holds i j h = (Decides-int_eq i j).0 h

pub eq_shows : (i j : ℤ) → i ≡ j → int_eq i j ≡ true
eq_shows i j h = (Decides-int_eq i j).1 h

pub same_eq : (i j k l : ℤ) → (i ≡ j → k ≡ l) → (k ≡ l → i ≡ j) → int_eq i j ≡ int_eq k l
same_eq i j k l f h = both_ways (int_eq i j) (int_eq k l) (λ e. eq_shows k l (f (eq_holds i j e))) (λ e. eq_shows i j (h (eq_holds k l e)))

pub same_lt : (i j k l : ℤ) → (i <ℤ j → k <ℤ l) → (k <ℤ l → i <ℤ j) → int_lt i j ≡ int_lt k l
same_lt i j k l f h = both_ways (int_lt i j) (int_lt k l) (λ e. lt_shows k l (f (lt_holds i j e))) (λ e. lt_shows i j (h (lt_holds k l e)))

-- ---- not zero
pub zero_step : (b : Bool) (z : ℤ) → (b || not (int_eq z (pos 0))) ≡ not (int_eq (digit b +ℤ (z +ℤ z)) (pos 0))
zero_step true z = ap not (both_ways false (int_eq (pos 1 +ℤ (z +ℤ z)) (pos 0)) (λ e. absurd (false≢true e)) (λ e. let h = eq_holds (pos 1 +ℤ (z +ℤ z)) (pos 0) e in absurd (omega (arith, ints, h))))
zero_step false z = ap not (same_eq z (pos 0) (pos 0 +ℤ (z +ℤ z)) (pos 0) (λ h. omega (arith, ints, h)) (λ h. omega (arith, ints, h)))

pub zero_sign : (b : Bool) → b ≡ not (int_eq (sign_value b) (pos 0))
zero_sign true = refl
zero_sign false = refl

-- ---- less
less_down : (b c l : Bool) (z w : ℤ) → (digit b +ℤ (z +ℤ z)) <ℤ ((digit c +ℤ (w +ℤ w)) +ℤ digit l) → z <ℤ (w +ℤ digit (cond (xor b c) c l))
less_down true true true z w h = omega (arith, ints, h)
less_down true true false z w h = omega (arith, ints, h)
less_down true false true z w h = omega (arith, ints, h)
less_down true false false z w h = omega (arith, ints, h)
less_down false true true z w h = omega (arith, ints, h)
less_down false true false z w h = omega (arith, ints, h)
less_down false false true z w h = omega (arith, ints, h)
less_down false false false z w h = omega (arith, ints, h)

less_up : (b c l : Bool) (z w : ℤ) → z <ℤ (w +ℤ digit (cond (xor b c) c l)) → (digit b +ℤ (z +ℤ z)) <ℤ ((digit c +ℤ (w +ℤ w)) +ℤ digit l)
less_up true true true z w h = omega (arith, ints, h)
less_up true true false z w h = omega (arith, ints, h)
less_up true false true z w h = omega (arith, ints, h)
less_up true false false z w h = omega (arith, ints, h)
less_up false true true z w h = omega (arith, ints, h)
less_up false true false z w h = omega (arith, ints, h)
less_up false false true z w h = omega (arith, ints, h)
less_up false false false z w h = omega (arith, ints, h)

less_step : (b c l : Bool) (z w : ℤ) → int_lt z (w +ℤ digit (cond (xor b c) c l)) ≡ int_lt (digit b +ℤ (z +ℤ z)) ((digit c +ℤ (w +ℤ w)) +ℤ digit l)
less_step b c l z w = same_lt z (w +ℤ digit (cond (xor b c) c l)) (digit b +ℤ (z +ℤ z)) ((digit c +ℤ (w +ℤ w)) +ℤ digit l) (less_up b c l z w) (less_down b c l z w)

less_top : (b c l : Bool) → cond (xor b c) b l ≡ int_lt (sign_value b) (sign_value c +ℤ digit l)
less_top true true true = refl
less_top true true false = refl
less_top true false true = refl
less_top true false false = refl
less_top false true true = refl
less_top false true false = refl
less_top false false true = refl
less_top false false false = refl

module _ (xs ys : List Bool) (k : ℕ) (b c l m : Bool) (eb : b ≡ bit_of xs k) (ec : c ≡ bit_of ys k) where
  -- one more column of a comparison
  pub less_column : m ≡ cond (xor b c) c l → int_lt (shifted xs (k + 1)) (shifted ys (k + 1) +ℤ digit m) ≡ int_lt (shifted xs k) (shifted ys k +ℤ digit l)
  less_column em =
      let z = shifted xs (k + 1) in
      let w = shifted ys (k + 1) in
      ap (λ d. int_lt z (w +ℤ digit d)) em
      ∙ (less_step b c l z w
      ∙ ((λ i. int_lt (digit (eb i) +ℤ (z +ℤ z)) ((digit (ec i) +ℤ (w +ℤ w)) +ℤ digit l))
      ∙ (λ i. int_lt (sym (shifted_next xs k) i) (sym (shifted_next ys k) i +ℤ digit l))))

  pub less_sign : 0 < length xs → 0 < length ys → length xs ≤ k + 1 → length ys ≤ k + 1 → m ≡ cond (xor b c) b l → m ≡ int_lt (shifted xs k) (shifted ys k +ℤ digit l)
  less_sign px py lx ly em =
      em ∙ (less_top b c l
      ∙ ((λ i. int_lt (sign_value (eb i)) (sign_value (ec i) +ℤ digit l))
      ∙ (λ i. int_lt (sym (shifted_sign xs k px lx) i) (sym (shifted_sign ys k py ly) i +ℤ digit l))))

pub less_none : (i j : ℤ) (l : Bool) → l ≡ false → int_lt i (j +ℤ digit l) ≡ int_lt i j
less_none i j l e = ap (λ d. int_lt i (j +ℤ digit d)) e ∙ same_lt i (j +ℤ pos 0) i j (λ h. omega (arith, ints, h)) (λ h. omega (arith, ints, h))

pub less_whole : (xs ys : List Bool) → int_lt (shifted xs 0) (shifted ys 0) ≡ int_lt (integer_of xs) (integer_of ys)
less_whole xs ys = λ i. int_lt (shifted_none xs i) (shifted_none ys i)

or_assoc : (b c d : Bool) → ((b || c) || d) ≡ (b || (c || d))
or_assoc true c d = refl
or_assoc false c d = refl

-- one more bit that may be set
pub zero_column : (xs : List Bool) (k : ℕ) (b found more : Bool) → b ≡ bit_of xs k → more ≡ (found || b)
    → (more || not (int_eq (shifted xs (k + 1)) (pos 0))) ≡ (found || not (int_eq (shifted xs k) (pos 0)))
zero_column xs k b found more eb em =
    let z = shifted xs (k + 1) in
    ap (λ d. d || not (int_eq z (pos 0))) em
    ∙ (or_assoc found b (not (int_eq z (pos 0)))
    ∙ ap (λ d. found || d) (zero_step b z ∙ ((λ i. not (int_eq (digit (eb i) +ℤ (z +ℤ z)) (pos 0))) ∙ (λ i. not (int_eq (sym (shifted_next xs k) i) (pos 0))))))

pub zero_end : (xs : List Bool) (k : ℕ) (b found : Bool) → 0 < length xs → length xs ≤ k + 1 → b ≡ bit_of xs k → (found || b) ≡ (found || not (int_eq (shifted xs k) (pos 0)))
zero_end xs k b found px lx eb =
    ap (λ d. found || d) (zero_sign b ∙ ((λ i. not (int_eq (sign_value (eb i)) (pos 0))) ∙ (λ i. not (int_eq (sym (shifted_sign xs k px lx) i) (pos 0)))))

-- ---- the same: no bit differs
xor_none : (b c : Bool) → logic.xor b c ≡ false → b ≡ c
xor_none true true h = refl
xor_none true false h = h
xor_none false true h = sym h
xor_none false false h = refl

xor_itself : (b : Bool) → logic.xor b b ≡ false
xor_itself true = refl
xor_itself false = refl

not_not : (b : Bool) → not (not b) ≡ b
not_not true = refl
not_not false = refl

pub xor_zero : (i j : ℤ) → not (not (int_eq (xor_ℤ i j) (pos 0))) ≡ int_eq i j
xor_zero i j =
    not_not (int_eq (xor_ℤ i j) (pos 0))
    ∙ same_eq (xor_ℤ i j) (pos 0) i j
    (λ h. same_bits i j (λ k. xor_none (bit_at k i) (bit_at k j) (sym (bit_of_xor k i j) ∙ (ap (bit_at k) h ∙ bit_zero k))))
    (λ h. same_bits (xor_ℤ i j) (pos 0) (λ k. bit_of_xor k i j ∙ (ap (λ n. logic.xor (bit_at k n) (bit_at k j)) h ∙ (xor_itself (bit_at k j) ∙ sym (bit_zero k)))))
