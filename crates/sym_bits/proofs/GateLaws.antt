-- Gates on integers, a bit and the rest at a time.
use Rattle.std.proofs.Common.{◌≡◌, ℕ, zero, suc, ◌+◌, ◌<◌, ◌≤◌, Bool, true, false, ◌&&◌, ◌||◌, cond, List, length, ℤ, pos, negsuc, ◌+ℤ◌, refl, sym, ◌∙◌, ap, arith}
use Rattle.std.proofs.lemmas.Int.{ints}
use Rattle.bfr_store.specs.declared.edge.Edge.{Edge}
use Rattle.bfr_store.specs.Edges.{xor}
use Rattle.gl_logic.specs.Bitwise as logic
use Rattle.gl_logic.specs.Bitwise.{bit_at, and_ℤ, or_ℤ, xor_ℤ}
use Rattle.gl_logic.specs.Quotients.{floor_by}
use Rattle.gl_logic.specs.TwosComplement.{digit, integer_of, bit_of}
use Rattle.gl_logic.proofs.TwosComplement.{halves, bit_half, same_bits}
use Rattle.gl_logic.proofs.Bitwise.{bit_of_and, bit_of_or, bit_of_xor}
use Rattle.sym_bits.specs.declared.gate.Gate.{Gate}
use Rattle.sym_bits.specs.declared.gate.Gate.TheVariants as gate
use Rattle.sym_bits.specs.Columns.{sign_value, shifted}
use Rattle.sym_bits.specs.Gates.{GateLive, gate_bit, gate_integer}
use Rattle.sym_bits.proofs.Columns.{shifted_none, shifted_next, shifted_sign}

unique : (b c : Bool) (x y : ℤ) → digit b +ℤ (x +ℤ x) ≡ digit c +ℤ (y +ℤ y) → (b ≡ c) × (x ≡ y)
unique true true x y h = (refl, omega (arith, ints, h))
unique true false x y h = absurd (omega (arith, ints, h))
unique false true x y h = absurd (omega (arith, ints, h))
unique false false x y h = (refl, omega (arith, ints, h))

-- the lowest bit of an integer, and the integer without it
pub doubled : (b : Bool) (x : ℤ) → (bit_at 0 (digit b +ℤ (x +ℤ x)) ≡ b) × (floor_by (digit b +ℤ (x +ℤ x)) 2 ≡ x)
doubled b x = let z = digit b +ℤ (x +ℤ x) in unique (bit_at 0 z) b (floor_by z 2) x (halves z)

low : (b : Bool) (x : ℤ) → bit_at 0 (digit b +ℤ (x +ℤ x)) ≡ b
low b x = (doubled b x).0

high : (k : ℕ) (b : Bool) (x : ℤ) → bit_at (suc k) (digit b +ℤ (x +ℤ x)) ≡ bit_at k x
high k b x = bit_half k (digit b +ℤ (x +ℤ x)) ∙ ap (bit_at k) (doubled b x).1

xor_is : (b c : Bool) → xor b c ≡ logic.xor b c
xor_is true c = refl
xor_is false c = refl

and_step : (b c : Bool) (z w : ℤ) → digit (b && c) +ℤ (and_ℤ z w +ℤ and_ℤ z w) ≡ and_ℤ (digit b +ℤ (z +ℤ z)) (digit c +ℤ (w +ℤ w))
and_step b c z w =
    let i = digit b +ℤ (z +ℤ z) in
    let j = digit c +ℤ (w +ℤ w) in
    same_bits _ _ (λ k. elim k as (λ n. bit_at n (digit (b && c) +ℤ (and_ℤ z w +ℤ and_ℤ z w)) ≡ bit_at n (and_ℤ i j)) [
      | zero ↦ low (b && c) (and_ℤ z w) ∙ sym (bit_of_and 0 i j ∙ (λ x. low b z x && low c w x))
      | suc n ↦ high n (b && c) (and_ℤ z w) ∙ (bit_of_and n z w ∙ sym (bit_of_and (suc n) i j ∙ (λ x. high n b z x && high n c w x)))
    ])

or_step : (b c : Bool) (z w : ℤ) → digit (b || c) +ℤ (or_ℤ z w +ℤ or_ℤ z w) ≡ or_ℤ (digit b +ℤ (z +ℤ z)) (digit c +ℤ (w +ℤ w))
or_step b c z w =
    let i = digit b +ℤ (z +ℤ z) in
    let j = digit c +ℤ (w +ℤ w) in
    same_bits _ _ (λ k. elim k as (λ n. bit_at n (digit (b || c) +ℤ (or_ℤ z w +ℤ or_ℤ z w)) ≡ bit_at n (or_ℤ i j)) [
      | zero ↦ low (b || c) (or_ℤ z w) ∙ sym (bit_of_or 0 i j ∙ (λ x. low b z x || low c w x))
      | suc n ↦ high n (b || c) (or_ℤ z w) ∙ (bit_of_or n z w ∙ sym (bit_of_or (suc n) i j ∙ (λ x. high n b z x || high n c w x)))
    ])

xor_step : (b c : Bool) (z w : ℤ) → digit (xor b c) +ℤ (xor_ℤ z w +ℤ xor_ℤ z w) ≡ xor_ℤ (digit b +ℤ (z +ℤ z)) (digit c +ℤ (w +ℤ w))
xor_step b c z w =
    let i = digit b +ℤ (z +ℤ z) in
    let j = digit c +ℤ (w +ℤ w) in
    same_bits _ _ (λ k. elim k as (λ n. bit_at n (digit (xor b c) +ℤ (xor_ℤ z w +ℤ xor_ℤ z w)) ≡ bit_at n (xor_ℤ i j)) [
      | zero ↦ low (xor b c) (xor_ℤ z w) ∙ (xor_is b c ∙ sym (bit_of_xor 0 i j ∙ (λ x. logic.xor (low b z x) (low c w x))))
      | suc n ↦ high n (xor b c) (xor_ℤ z w) ∙ (bit_of_xor n z w ∙ sym (bit_of_xor (suc n) i j ∙ (λ x. logic.xor (high n b z x) (high n c w x))))
    ])

choose_step : (t b c : Bool) (z w : ℤ) → digit (cond t b c) +ℤ (cond t z w +ℤ cond t z w) ≡ cond t (digit b +ℤ (z +ℤ z)) (digit c +ℤ (w +ℤ w))
choose_step true b c z w = refl
choose_step false b c z w = refl

step : (truth : Edge → Bool) (g : Gate) (b c : Bool) (z w : ℤ) → digit (gate_bit truth g b c) +ℤ (gate_integer truth g z w +ℤ gate_integer truth g z w) ≡ gate_integer truth g (digit b +ℤ (z +ℤ z)) (digit c +ℤ (w +ℤ w))
step truth gate.And b c z w = and_step b c z w
step truth gate.Or b c z w = or_step b c z w
step truth gate.Xor b c z w = xor_step b c z w
step truth (gate.Choose t) b c z w = choose_step (truth t) b c z w

choose_sign : (t b c : Bool) → sign_value (cond t b c) ≡ cond t (sign_value b) (sign_value c)
choose_sign true b c = refl
choose_sign false b c = refl

sign : (truth : Edge → Bool) (g : Gate) (b c : Bool) → sign_value (gate_bit truth g b c) ≡ gate_integer truth g (sign_value b) (sign_value c)
sign truth gate.And true true = refl
sign truth gate.And true false = refl
sign truth gate.And false true = refl
sign truth gate.And false false = refl
sign truth gate.Or true true = refl
sign truth gate.Or true false = refl
sign truth gate.Or false true = refl
sign truth gate.Or false false = refl
sign truth gate.Xor true true = refl
sign truth gate.Xor true false = refl
sign truth gate.Xor false true = refl
sign truth gate.Xor false false = refl
sign truth (gate.Choose t) b c = choose_sign (truth t) b c

module _ (truth : Edge → Bool) (g : Gate) (xs ys : List Bool) (k : ℕ) (x y s : Bool) (ex : x ≡ bit_of xs k) (ey : y ≡ bit_of ys k) where
  pub gate_column : s ≡ gate_bit truth g x y → digit s +ℤ (gate_integer truth g (shifted xs (k + 1)) (shifted ys (k + 1)) +ℤ gate_integer truth g (shifted xs (k + 1)) (shifted ys (k + 1))) ≡ gate_integer truth g (shifted xs k) (shifted ys k)
  gate_column es =
      let p = shifted xs (k + 1) in
      let q = shifted ys (k + 1) in
      (λ i. digit (es i) +ℤ (gate_integer truth g p q +ℤ gate_integer truth g p q))
      ∙ (step truth g x y p q
      ∙ ((λ i. gate_integer truth g (digit (ex i) +ℤ (p +ℤ p)) (digit (ey i) +ℤ (q +ℤ q)))
      ∙ (λ i. gate_integer truth g (sym (shifted_next xs k) i) (sym (shifted_next ys k) i))))

  pub gate_sign : 0 < length xs → 0 < length ys → length xs ≤ k + 1 → length ys ≤ k + 1 → s ≡ gate_bit truth g x y → sign_value s ≡ gate_integer truth g (shifted xs k) (shifted ys k)
  gate_sign px py lx ly es =
      ap sign_value es
      ∙ (sign truth g x y
      ∙ ((λ i. gate_integer truth g (sign_value (ex i)) (sign_value (ey i)))
      ∙ (λ i. gate_integer truth g (sym (shifted_sign xs k px lx) i) (sym (shifted_sign ys k py ly) i))))

-- the gate of an edge that keeps its truth
pub gate_same : (truth other : Edge → Bool) (live : Edge → Type 0) → ((e : Edge) → live e → other e ≡ truth e) → (g : Gate) → GateLive live g → (b c : Bool) → gate_bit other g b c ≡ gate_bit truth g b c
gate_same truth other live same gate.And l b c = refl
gate_same truth other live same gate.Or l b c = refl
gate_same truth other live same gate.Xor l b c = refl
gate_same truth other live same (gate.Choose t) l b c = ap (λ d. cond d b c) (same t l)

pub gate_kept : (live now : Edge → Type 0) → ((e : Edge) → live e → now e) → (g : Gate) → GateLive live g → GateLive now g
gate_kept live now stays gate.And l = tt
gate_kept live now stays gate.Or l = tt
gate_kept live now stays gate.Xor l = tt
gate_kept live now stays (gate.Choose t) l = stays t l

pub gate_whole : (truth : Edge → Bool) (g : Gate) (xs ys : List Bool) → gate_integer truth g (shifted xs 0) (shifted ys 0) ≡ gate_integer truth g (integer_of xs) (integer_of ys)
gate_whole truth g xs ys = λ i. gate_integer truth g (shifted_none xs i) (shifted_none ys i)
