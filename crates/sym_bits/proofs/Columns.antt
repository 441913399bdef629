-- Integers that are taken apart bit by bit, and put together again.
use Rattle.std.proofs.Common.{◌≡◌, ℕ, zero, suc, ◌+◌, ◌-◌, ◌<◌, ◌≤◌, ◌^◌, Bool, true, false, not, cond, List, [], ◌∷◌, ◌++◌, length, map, take, get_or, ℤ, pos, negsuc, ◌+ℤ◌, ◌*ℤ◌, refl, sym, ◌∙◌, ap, arith, append_assoc, add-one}
use Rattle.std.proofs.lemmas.Int.{ints}
use Rattle.std.proofs.lemmas.List.{take_more, map-append}
use Rattle.bfr_store.specs.Edges.{xor}
use Rattle.gl_logic.specs.TwosComplement.{digit, integer_of, bit_of}
use Rattle.sym_bits.specs.Columns.{sign_value, onto, shifted, majority}

-- ---- bits under an integer
pub onto-append : (ds es : List Bool) (z : ℤ) → onto (ds ++ es) z ≡ onto ds (onto es z)
onto-append [] es z = refl
onto-append (d ∷ ds) es z = ap (λ y. digit d +ℤ (y +ℤ y)) (onto-append ds es z)

pub onto_sign : (ds : List Bool) (b : Bool) → integer_of (ds ++ b ∷ []) ≡ onto ds (sign_value b)
onto_sign [] b = refl
onto_sign (d ∷ []) b = refl
onto_sign (d ∷ e ∷ ds) b = ap (λ y. digit d +ℤ (y +ℤ y)) (onto_sign (e ∷ ds) b)

-- a bit that is the sign again
pub same_sign : (b : Bool) → digit b +ℤ (sign_value b +ℤ sign_value b) ≡ sign_value b
same_sign true = refl
same_sign false = refl

-- ---- an integer without its lowest bits
pub shifted_none : (bs : List Bool) → shifted bs 0 ≡ integer_of bs
shifted_none [] = refl
shifted_none (b ∷ []) = refl
shifted_none (b ∷ c ∷ bs) = refl

-- a bit and the rest
pub shifted_more : (bs : List Bool) (k : ℕ) → shifted bs k ≡ digit (bit_of bs k) +ℤ (shifted bs (suc k) +ℤ shifted bs (suc k))
shifted_more [] k = refl
shifted_more (true ∷ []) k = refl
shifted_more (false ∷ []) k = refl
shifted_more (b ∷ c ∷ bs) zero = ap (λ z. digit b +ℤ (z +ℤ z)) (sym (shifted_none (c ∷ bs)))
shifted_more (b ∷ c ∷ bs) (suc k) = shifted_more (c ∷ bs) k

-- past the end the sign is left
pub shifted_sign : (bs : List Bool) (k : ℕ) → 0 < length bs → length bs ≤ k + 1 → shifted bs k ≡ sign_value (bit_of bs k)
shifted_sign [] k h l = absurd (omega (arith, h))
shifted_sign (b ∷ []) k h l = refl
shifted_sign (b ∷ c ∷ bs) zero h l = absurd (omega (arith, l))
shifted_sign (b ∷ c ∷ bs) (suc k) h l = shifted_sign (c ∷ bs) k (omega arith) (omega (arith, l))

pub past : (bs : List Bool) (k n : ℕ) → 0 < length bs → length bs ≤ k + 1 → length bs ≤ n + 1 → bit_of bs k ≡ bit_of bs n
past [] k n h l m = absurd (omega (arith, h))
past (b ∷ []) k n h l m = refl
past (b ∷ c ∷ bs) zero n h l m = absurd (omega (arith, l))
past (b ∷ c ∷ bs) (suc k) zero h l m = absurd (omega (arith, m))
past (b ∷ c ∷ bs) (suc k) (suc n) h l m = past (c ∷ bs) k n (omega arith) (omega (arith, l)) (omega (arith, m))

pub shifted_past : (bs : List Bool) (k n : ℕ) → 0 < length bs → length bs ≤ k + 1 → length bs ≤ n + 1 → shifted bs k ≡ sign_value (bit_of bs n)
shifted_past bs k n h l m = shifted_sign bs k h l ∙ ap sign_value (past bs k n h l m)

module _ {E : Type 0} (truth : E → Bool) where
  -- one more bit below the rest
  pub onto_push : (es : List E) (e : E) (z : ℤ) → onto (map truth (es ++ e ∷ [])) z ≡ onto (map truth es) (digit (truth e) +ℤ (z +ℤ z))
  onto_push es e z = ap (λ bs. onto bs z) (map-append truth es (e ∷ [])) ∙ onto-append (map truth es) (truth e ∷ []) z

  -- the top bit is the sign again
  pub onto_less : (es : List E) (k : ℕ) (e d : E) → k < length es → get_or es k d ≡ e → onto (map truth (take (k + 1) es)) (sign_value (truth e)) ≡ onto (map truth (take k es)) (sign_value (truth e))
  onto_less es k e d h is =
      ap (λ xs. onto (map truth xs) (sign_value (truth e))) (take_more es k d h ∙ ap (λ x. take k es ++ x ∷ []) is)
      ∙ (onto_push (take k es) e (sign_value (truth e)) ∙ ap (onto (map truth (take k es))) (same_sign (truth e)))

  -- bits and a sign
  pub with_sign : (es : List E) (s : E) → integer_of (map truth (es ++ s ∷ [])) ≡ onto (map truth es) (sign_value (truth s))
  with_sign es s = ap integer_of (map-append truth es (s ∷ [])) ∙ onto_sign (map truth es) (truth s)

-- ---- sums
pub shifted_next : (bs : List Bool) (k : ℕ) → shifted bs k ≡ digit (bit_of bs k) +ℤ (shifted bs (k + 1) +ℤ shifted bs (k + 1))
shifted_next bs k = shifted_more bs k ∙ ap (λ n. digit (bit_of bs k) +ℤ (shifted bs n +ℤ shifted bs n)) (sym (add-one k))

-- one column
column : (x y c : Bool) (xs ys : ℤ)
    → digit (xor (xor x y) c) +ℤ (((xs +ℤ ys) +ℤ digit (majority x y c)) +ℤ ((xs +ℤ ys) +ℤ digit (majority x y c))) ≡ ((digit x +ℤ (xs +ℤ xs)) +ℤ (digit y +ℤ (ys +ℤ ys))) +ℤ digit c
column true true true xs ys = omega (arith, ints)
column true true false xs ys = omega (arith, ints)
column true false true xs ys = omega (arith, ints)
column true false false xs ys = omega (arith, ints)
column false true true xs ys = omega (arith, ints)
column false true false xs ys = omega (arith, ints)
column false false true xs ys = omega (arith, ints)
column false false false xs ys = omega (arith, ints)

pub column_sum : (xs ys : List Bool) (k : ℕ) (x y c s d : Bool) → x ≡ bit_of xs k → y ≡ bit_of ys k → s ≡ xor (xor x y) c → d ≡ majority x y c
    → digit s +ℤ (((shifted xs (k + 1) +ℤ shifted ys (k + 1)) +ℤ digit d) +ℤ ((shifted xs (k + 1) +ℤ shifted ys (k + 1)) +ℤ digit d)) ≡ (shifted xs k +ℤ shifted ys k) +ℤ digit c
column_sum xs ys k x y c s d ex ey es ed =
    let p = shifted xs (k + 1) in
    let q = shifted ys (k + 1) in
    (λ i. digit (es i) +ℤ (((p +ℤ q) +ℤ digit (ed i)) +ℤ ((p +ℤ q) +ℤ digit (ed i))))
    ∙ (column x y c p q
    ∙ ((λ i. ((digit (ex i) +ℤ (p +ℤ p)) +ℤ (digit (ey i) +ℤ (q +ℤ q))) +ℤ digit c)
    ∙ (λ i. (sym (shifted_next xs k) i +ℤ sym (shifted_next ys k) i) +ℤ digit c)))

-- the two columns at the top of a sum
top : (x y c : Bool) → digit (xor (xor x y) c) +ℤ (sign_value (xor (xor x y) (majority x y c)) +ℤ sign_value (xor (xor x y) (majority x y c))) ≡ (sign_value x +ℤ sign_value y) +ℤ digit c
top true true true = refl
top true true false = refl
top true false true = refl
top true false false = refl
top false true true = refl
top false true false = refl
top false false true = refl
top false false false = refl

pub top_sum : (xs ys : List Bool) (k : ℕ) (x y c s t : Bool) → 0 < length xs → 0 < length ys → length xs ≤ k + 1 → length ys ≤ k + 1 → x ≡ bit_of xs k → y ≡ bit_of ys k
    → s ≡ xor (xor x y) c → t ≡ xor (xor x y) (majority x y c) → digit s +ℤ (sign_value t +ℤ sign_value t) ≡ (shifted xs k +ℤ shifted ys k) +ℤ digit c
top_sum xs ys k x y c s t px py lx ly ex ey es et =
    (λ i. digit (es i) +ℤ (sign_value (et i) +ℤ sign_value (et i)))
    ∙ (top x y c
    ∙ ((λ i. (sign_value (ex i) +ℤ sign_value (ey i)) +ℤ digit c)
    ∙ (λ i. (sym (shifted_sign xs k px lx) i +ℤ sym (shifted_sign ys k py ly) i) +ℤ digit c)))

-- without no bits the integers are whole
pub whole_sum : (xs ys : List Bool) (c : Bool) → (shifted xs 0 +ℤ shifted ys 0) +ℤ digit c ≡ (integer_of xs +ℤ integer_of ys) +ℤ digit c
whole_sum xs ys c = λ i. (shifted_none xs i +ℤ shifted_none ys i) +ℤ digit c
