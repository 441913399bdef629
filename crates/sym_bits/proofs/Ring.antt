-- Products of integers.
use Rattle.std.proofs.Common.{◌≡◌, ℕ, ◌+◌, ◌*◌, ◌<◌, ◌≤◌, Bool, true, false, cond, List, length, ℤ, pos, negsuc, ◌+ℤ◌, ◌-ℤ◌, ◌*ℤ◌, neg_ℤ, refl, sym, ◌∙◌, ap, arith}
use Rattle.std.proofs.lemmas.Int.{ints}
use borrow.Author.Differences.{up, down}
use Rattle.gl_logic.specs.TwosComplement.{digit, bit_of}
use Rattle.sym_bits.specs.Columns.{sign_value, shifted}
use Rattle.sym_bits.proofs.Columns.{shifted_next, shifted_sign}

pub sum_times : (a b c : ℤ) → (a +ℤ b) *ℤ c ≡ (a *ℤ c) +ℤ (b *ℤ c)
sum_times a b c =
    let t = a +ℤ b in
    let e : up (a +ℤ b) + (down a + down b) ≡ down (a +ℤ b) + (up a + up b) = omega (arith, ints) in
    let f = ap (λ n. n * up c) e in
    let h = ap (λ n. n * down c) e in
    omega (arith, ints, f, h)

swap : (a b : ℤ) → a *ℤ b ≡ b *ℤ a
swap a b = omega (arith, ints)

pub times_sum : (a b c : ℤ) → a *ℤ (b +ℤ c) ≡ (a *ℤ b) +ℤ (a *ℤ c)
times_sum a b c = swap a (b +ℤ c) ∙ (sum_times b c a ∙ (λ i. swap b a i +ℤ swap c a i))

pub times_pos : (s : ℤ) (p k : ℕ) → (s *ℤ pos p) *ℤ pos k ≡ s *ℤ pos (p * k)
times_pos s p k =
    let e : up (s *ℤ pos p) + down s * p ≡ down (s *ℤ pos p) + up s * p = omega (arith, ints) in
    let f = ap (λ n. n * k) e in
    omega (arith, ints, f)

-- ---- a row of a product
digit_row : (a : ℤ) (b : Bool) → a *ℤ digit b ≡ cond b a (pos 0)
digit_row a true = omega (arith, ints)
digit_row a false = omega (arith, ints)

sign_row : (a : ℤ) (b : Bool) → a *ℤ sign_value b ≡ pos 0 -ℤ cond b a (pos 0)
sign_row a true = omega (arith, ints)
sign_row a false = omega (arith, ints)

add_row : (d r t row p s q : ℤ) → t ≡ (r +ℤ row) +ℤ pos 0 → t ≡ d +ℤ (s +ℤ s) → q ≡ row +ℤ (p +ℤ p) → d +ℤ ((s +ℤ p) +ℤ (s +ℤ p)) ≡ r +ℤ q
add_row d r t row p s q e f h = omega (arith, ints, e, f, h)

-- one more row: the total's lowest bit is done
pub product_column : (bs : List Bool) (k : ℕ) (a r t s : ℤ) (b d : Bool) → b ≡ bit_of bs k → t ≡ (r +ℤ cond b a (pos 0)) +ℤ pos 0 → t ≡ digit d +ℤ (s +ℤ s)
    → digit d +ℤ ((s +ℤ (a *ℤ shifted bs (k + 1))) +ℤ (s +ℤ (a *ℤ shifted bs (k + 1)))) ≡ r +ℤ (a *ℤ shifted bs k)
product_column bs k a r t s b d eb et ed =
    let z = shifted bs (k + 1) in
    let q : a *ℤ shifted bs k ≡ cond b a (pos 0) +ℤ ((a *ℤ z) +ℤ (a *ℤ z)) =
    ap (λ y. a *ℤ y) (shifted_next bs k) ∙ (times_sum a (digit (bit_of bs k)) (z +ℤ z)
    ∙ ((λ i. digit_row a (bit_of bs k) i +ℤ times_sum a z z i) ∙ ap (λ c. cond c a (pos 0) +ℤ ((a *ℤ z) +ℤ (a *ℤ z))) (sym eb))) in
    add_row (digit d) r t (cond b a (pos 0)) (a *ℤ z) s (a *ℤ shifted bs k) et ed q

take_row : (r t row q : ℤ) → t ≡ r -ℤ row → q ≡ pos 0 -ℤ row → t ≡ r +ℤ q
take_row r t row q e f = omega (arith, ints, e, f)

-- the row of the sign is taken away
pub product_sign : (bs : List Bool) (k : ℕ) (a r t : ℤ) (b : Bool) → 0 < length bs → length bs ≤ k + 1 → b ≡ bit_of bs k → t ≡ r -ℤ cond b a (pos 0) → t ≡ r +ℤ (a *ℤ shifted bs k)
product_sign bs k a r t b h l eb et =
    take_row r t (cond b a (pos 0)) (a *ℤ shifted bs k) et
    (ap (λ y. a *ℤ y) (shifted_sign bs k h l) ∙ (sign_row a (bit_of bs k) ∙ ap (λ c. pos 0 -ℤ cond c a (pos 0)) (sym eb)))

pub nothing_more : (i : ℤ) → pos 0 +ℤ i ≡ i
nothing_more i = omega (arith, ints)
