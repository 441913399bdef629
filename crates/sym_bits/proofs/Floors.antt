-- An integer without its lowest bits is a quotient by a power of two.
use Rattle.std.proofs.Common.{◌≡◌, ℕ, zero, suc, ◌+◌, ◌*◌, ◌/◌, ◌<◌, ◌≤◌, ◌^◌, Bool, true, false, List, [], ◌∷◌, length, map, take, ℤ, pos, negsuc, ◌+ℤ◌, ◌<ℤ◌, ◌≤ℤ◌, int_lt, IsTrue, ◌↔◌, Ok, Err, Result, IfOk, inl, inr, refl, sym, ◌∙◌, ap, arith}
use Rattle.std.proofs.lemmas.Int.{ints}
use Rattle.std.proofs.lemmas.Bool.{cases_lt}
use Rattle.std.proofs.lemmas.List.{take_all}
use Rattle.std.proofs.lemmas.Nat.{div_below}
use Rattle.std.proofs.Math.Nat.{pow-suc, pow-le-pow_right, div-div-eq-div-mul}
use Rattle.std.specs.Ordering.{int_eq}
use Rattle.gl_logic.specs.Quotients.{floor_by}
use Rattle.bfr_store.specs.declared.edge.Edge.{Edge}
use Rattle.bfr_store.specs.declared.edge.Full.{Full}
use Rattle.bfr_store.specs.declared.meaning.Meaning.{Ghosts}
use Rattle.bfr_store.specs.Keeps.{Makes}
use Rattle.gl_logic.specs.Width.{Fits}
use Rattle.gl_logic.specs.Bytes.{is_signed_byte}
use Rattle.gl_logic.specs.TwosComplement.{digit, integer_of, bits_of}
use Rattle.gl_logic.proofs.TwosComplement.{within, signed, from_bits_of, Within}
use Rattle.sym_bits.specs.Columns.{sign_value, shifted}
use Rattle.sym_bits.proofs.GateLaws.{doubled}
use Rattle.sym_bits.proofs.Comparing.{both_ways, same_lt, eq_holds, eq_shows}

pub floor_half : (i : ℤ) (k : ℕ) → floor_by (floor_by i 2) (2 ^ k) ≡ floor_by i (2 ^ suc k)
floor_half (pos n) k = ap pos (div-div-eq-div-mul n 2 (2 ^ k) ∙ ap (λ d. n / d) (let p = pow-suc 2 k in omega (arith, p)))
floor_half (negsuc n) k = ap negsuc (div-div-eq-div-mul n 2 (2 ^ k) ∙ ap (λ d. n / d) (let p = pow-suc 2 k in omega (arith, p)))

over_one : (n : ℕ) → n / 1 ≡ n
over_one n = omega arith

pub floor_one : (i : ℤ) → floor_by i 1 ≡ i
floor_one (pos n) = ap pos (over_one n)
floor_one (negsuc n) = ap negsuc (over_one n)

zero_over : (d : ℕ) → 0 / d ≡ 0
zero_over d = grind arith

pub shifted_floor : (bs : List Bool) (k : ℕ) → shifted bs k ≡ floor_by (integer_of bs) (2 ^ k)
shifted_floor [] k = ap pos (sym (zero_over (2 ^ k)))
shifted_floor (true ∷ []) k = ap negsuc (sym (zero_over (2 ^ k)))
shifted_floor (false ∷ []) k = ap pos (sym (zero_over (2 ^ k)))
shifted_floor (b ∷ c ∷ bs) zero = sym (floor_one (integer_of (b ∷ c ∷ bs)))
shifted_floor (b ∷ c ∷ bs) (suc k) =
    let z = integer_of (c ∷ bs) in
    shifted_floor (c ∷ bs) k ∙ (ap (λ y. floor_by y (2 ^ k)) (sym (doubled b z).1) ∙ floor_half (digit b +ℤ (z +ℤ z)) k)

-- ---- the sign
pub negative_digit : (b : Bool) (z : ℤ) → int_lt (digit b +ℤ (z +ℤ z)) (pos 0) ≡ int_lt z (pos 0)
negative_digit true z = same_lt (pos 1 +ℤ (z +ℤ z)) (pos 0) z (pos 0) (λ h. omega (arith, ints, h)) (λ h. omega (arith, ints, h))
negative_digit false z = same_lt (pos 0 +ℤ (z +ℤ z)) (pos 0) z (pos 0) (λ h. omega (arith, ints, h)) (λ h. omega (arith, ints, h))

pub shifted_far : (bs : List Bool) (k : ℕ) → length bs ≤ k + 1 → shifted bs k ≡ sign_value (int_lt (integer_of bs) (pos 0))
shifted_far [] k h = refl
shifted_far (true ∷ []) k h = refl
shifted_far (false ∷ []) k h = refl
shifted_far (b ∷ c ∷ bs) zero h = absurd (omega (arith, h))
shifted_far (b ∷ c ∷ bs) (suc k) h = shifted_far (c ∷ bs) k (omega (arith, h)) ∙ ap sign_value (sym (negative_digit b (integer_of (c ∷ bs))))

-- ---- within a width
pub power_grows : (j k : ℕ) → j ≤ k → 2 ^ j ≤ 2 ^ k
power_grows j k h = pow-le-pow_right (omega arith) h

pub no_rest : (n d : ℕ) → 0 < d → n / d ≡ 0 → n < d
no_rest n d h e = let z = ap (λ q. d * q) e in omega (arith, h, z)

pub none_over : (n d : ℕ) → n < d → n / d ≡ 0
none_over n d h = let q = div_below n d 1 (omega (arith, h)) (omega (arith, h)) in omega (arith, q)

pub not_below : (n : ℕ) → int_lt (pos n) (pos 0) ≡ false
not_below n = grind arith

pub same_pos : (m n : ℕ) → pos m ≡ pos n → m ≡ n
same_pos m n e = omega (arith, ints, e)

pub same_neg : (m n : ℕ) → negsuc m ≡ negsuc n → m ≡ n
same_neg m n e = omega (arith, ints, e)

pub power_pos : (w : ℕ) → 0 < 2 ^ w
power_pos zero = omega arith
power_pos (suc w) = let p = pow-suc 2 w in let h = power_pos w in omega (arith, p, h)

pub fits_by_floor : (w : ℕ) (i : ℤ) → int_eq (floor_by i (2 ^ w)) (sign_value (int_lt i (pos 0))) ≡ is_signed_byte (pos (suc w)) i
fits_by_floor w (pos n) =
    ap (λ b. int_eq (pos (n / 2 ^ w)) (sign_value b)) (not_below n)
    ∙ both_ways (int_eq (pos (n / 2 ^ w)) (pos 0)) (is_signed_byte (pos (suc w)) (pos n))
    (λ e. let l = no_rest n (2 ^ w) (power_pos w) (same_pos (n / 2 ^ w) 0 (eq_holds (pos (n / 2 ^ w)) (pos 0) e)) in signed w (pos n) (record { least = omega (arith, ints); most = omega (arith, ints, l) }))
    (λ e. let h = within w (pos n) e in eq_shows (pos (n / 2 ^ w)) (pos 0) (ap pos (none_over n (2 ^ w) (omega (arith, ints, h.most)))))
fits_by_floor w (negsuc n) =
    both_ways (int_eq (negsuc (n / 2 ^ w)) (negsuc 0)) (is_signed_byte (pos (suc w)) (negsuc n))
    (λ e. let l = no_rest n (2 ^ w) (power_pos w) (same_neg (n / 2 ^ w) 0 (eq_holds (negsuc (n / 2 ^ w)) (negsuc 0) e)) in signed w (negsuc n) (record { least = omega (arith, ints, l); most = omega (arith, ints) }))
    (λ e. let h = within w (negsuc n) e in eq_shows (negsuc (n / 2 ^ w)) (negsuc 0) (ap negsuc (none_over n (2 ^ w) (omega (arith, ints, h.least)))))

pub fits_is : (bs : List Bool) (n w : ℕ) → length bs ≤ n + 1 → int_eq (shifted bs w) (shifted bs n) ≡ is_signed_byte (pos (suc w)) (integer_of bs)
fits_is bs n w h = (λ i. int_eq (shifted_floor bs w i) (shifted_far bs n h i)) ∙ fits_by_floor w (integer_of bs)

-- ---- the lowest bits
lowest_bits : (w : ℕ) (bs : List Bool) → suc w ≤ length bs → take (suc w) bs ≡ bits_of (suc w) (integer_of bs)
lowest_bits w [] h = absurd (omega (arith, h))
lowest_bits zero (true ∷ []) h = refl
lowest_bits zero (false ∷ []) h = refl
lowest_bits (suc w) (b ∷ []) h = absurd (omega (arith, h))
lowest_bits zero (b ∷ c ∷ bs) h = ap (λ x. x ∷ []) (sym (doubled b (integer_of (c ∷ bs))).0)
lowest_bits (suc w) (b ∷ c ∷ bs) h =
    let d = doubled b (integer_of (c ∷ bs)) in
    ap (λ xs. b ∷ xs) (lowest_bits w (c ∷ bs) (omega (arith, h))) ∙ (λ i. sym d.0 i ∷ bits_of (suc w) (sym d.1 i))

pub lowest_same : (w : ℕ) (bs : List Bool) → suc w ≤ length bs → is_signed_byte (pos (suc w)) (integer_of bs) ≡ true → integer_of (take (suc w) bs) ≡ integer_of bs
lowest_same w bs l h = ap integer_of (lowest_bits w bs l) ∙ from_bits_of w (integer_of bs) (within w (integer_of bs) h)

pub lowest_part : (w : ℕ) (bs : List Bool) → is_signed_byte (pos (suc w)) (integer_of bs) ≡ true → integer_of (take (suc w) bs) ≡ integer_of bs
lowest_part w bs h =
    elim (cases_lt w (length bs)) [ inl l ↦ lowest_same w bs (omega (arith, l)) h | inr l ↦ ap integer_of (take_all (suc w) bs (omega (arith, l))) ]

pub signed_fits : (b : Bool) (i : ℤ) → b ≡ is_signed_byte (pos 128) i → IsTrue b ↔ Fits i
signed_fits b i e = (
  λ h. let w = within 127 i (sym e ∙ h) in (omega (arith, ints, w.least), omega (arith, ints, w.most)),
  λ h. let t = e ∙ signed 127 i (record { least = omega (arith, ints, h.0); most = omega (arith, ints, h.1) }) in t,
)

-- an edge that is true where an integer lies within 128 bits
pub fits_within : {B : Type 0} (g : Ghosts B) (old new : B) (r : Result Edge Full) (z : (ℕ → Bool) → ℤ) → Makes g old new r (λ x. is_signed_byte (pos 128) (z x)) → IfOk r (λ e. (x : ℕ → Bool) → IsTrue (g.truth_of new e x) ↔ Fits (z x))
fits_within g old new (Ok e) z m = λ x. signed_fits (g.truth_of new e x) (z x) (m.truth x)
fits_within g old new (Err e) z m = tt
