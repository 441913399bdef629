-- Whether a term without variables leaves 128 bits on the way, and whether its value is too large.
use Rattle.std.proofs.Common.{◌≡◌, ◌-◌, ◌^◌, sym, refl, subst, ℕ, zero, suc, ◌<◌, ℤ, pos, negsuc, ◌≤ℤ◌, ◌⊎◌, inl, inr, List, [], ◌∷◌, Option, Some, None, slice_get, leb, ltb, arith}
use Rattle.std.proofs.lemmas.Int.{ints}
use Rattle.std.proofs.lemmas.Bool.{cases_Bool, leb-true, leb-false, ltb-true, ltb-false}
use Rattle.gl_logic.specs.Object.{Object, Int, Character, Symbol, Text, Cons}
use Rattle.gl_logic.specs.Wide.{IsWideObject, SomeWide, IsWide}
use Rattle.gl_logic.specs.Parts.{leaves, car_steps, IsLarge}
use Rattle.gl_logic.specs.Definition.{Definition}
use Rattle.gl_logic.specs.Exp.{Exp}
use Rattle.gl_logic.specs.Counts.{seen_in}
use Rattle.gl_logic.specs.Walk.{Walk, walk}
use Rattle.gl_logic.proofs.Walks.{walk_unique}

-- ---- integers
not_above : (n m : ℕ) → m < n → pos n ≤ℤ pos m → ⊥
not_above n m h k = omega (arith, ints, h, k)

not_below : (n m : ℕ) → m < n → negsuc m ≤ℤ negsuc n → ⊥
not_below n m h k = omega (arith, ints, h, k)

within_or_not : (low high : ℕ) (z : ℤ) → ((negsuc low ≤ℤ z) × (z ≤ℤ pos high)) ⊎ ((negsuc low ≤ℤ z) × (z ≤ℤ pos high) → ⊥)
within_or_not low high (pos n) = elim (cases_Bool (leb n high)) [
  | inl e ↦ let h = leb-true n high e in inl (omega (arith, ints), omega (arith, ints, h))
  | inr e ↦ let h = leb-false n high e in inr (λ k. not_above n high (omega (arith, h)) k.1)
]
within_or_not low high (negsuc n) = elim (cases_Bool (leb n low)) [
  | inl e ↦ let h = leb-true n low e in inl (omega (arith, ints, h), omega (arith, ints))
  | inr e ↦ let h = leb-false n low e in inr (λ k. not_below n low (omega (arith, h)) k.0)
]

wide_or_not : (x : Object) → IsWideObject x ⊎ (IsWideObject x → ⊥)
wide_or_not (Int z) = elim (within_or_not (2 ^ 127 - 1) (2 ^ 127 - 1) z) [ inl h ↦ inr (λ w. w h) | inr h ↦ inl h ]
wide_or_not (Character n) = inr (λ w. w)
wide_or_not (Symbol n) = inr (λ w. w)
wide_or_not (Text n) = inr (λ w. w)
wide_or_not (Cons a d) = inr (λ w. w)

-- ---- lists
none_at : (k : ℕ) (x : Object) → slice_get [] k ≡ Some x → ⊥
none_at k x e = cc

neither : (x : Object) (xs : List Object) → (IsWideObject x → ⊥) → (SomeWide xs → ⊥) → (k : ℕ) (y : Object) → slice_get (x ∷ xs) k ≡ Some y → IsWideObject y → ⊥
neither x xs h g zero y e w = let z : x ≡ y = cc in h (subst IsWideObject (sym z) w)
neither x xs h g (suc k) y e w = g (k, (y, (e, w)))

some_wide_or_none : (xs : List Object) → SomeWide xs ⊎ (SomeWide xs → ⊥)
some_wide_or_none [] = inr (λ w. none_at w.0 w.1.0 w.1.1.0)
some_wide_or_none (x ∷ xs) = elim (wide_or_not x) [
  | inl w ↦ inl (0, (x, (refl, w)))
  | inr h ↦ elim (some_wide_or_none xs) [
    | inl w ↦ inl (suc w.0, w.1)
    | inr g ↦ inr (λ w. neither x xs h g w.0 w.1.0 w.1.1.0 w.1.1.1)
  ]
]

-- ---- a term that has a value
module _ (ds : List Definition) (env : List (ℕ × Object)) (t : Exp) (n : ℕ) (r : Walk) (runs : walk ds n env t ≡ Some r) where
  seen_here : (m : ℕ) (o : Option Walk) → walk ds m env t ≡ o → SomeWide (seen_in o) → SomeWide r.seen
  seen_here m None e w = absurd (none_at w.0 w.1.0 w.1.1.0)
  seen_here m (Some s) e w = subst (λ (z : Walk). SomeWide z.seen) (walk_unique ds m n env t s r e runs) w

  pub wide_or_narrow : IsWide ds env t ⊎ (IsWide ds env t → ⊥)
  wide_or_narrow = elim (some_wide_or_none r.seen) [
    | inl w ↦ inl (n, subst (λ (o : Option Walk). SomeWide (seen_in o)) (sym runs) w)
    | inr h ↦ inr (λ w. h (seen_here w.0 (walk ds w.0 env t) refl w.1))
  ]

-- ---- size
either_or_not : (a b c d : ℕ) → ((a < b) ⊎ (c < d)) ⊎ ((a < b) ⊎ (c < d) → ⊥)
either_or_not a b c d = elim (cases_Bool (ltb a b)) [
  | inl e ↦ inl (inl (ltb-true a b e))
  | inr e ↦ let h = ltb-false a b e in elim (cases_Bool (ltb c d)) [
    | inl f ↦ inl (inr (ltb-true c d f))
    | inr f ↦ let g = ltb-false c d f in inr (λ k. elim k [ inl i ↦ omega (arith, h, i) | inr i ↦ omega (arith, g, i) ])
  ]
]

pub large_or_not : (x : Object) → IsLarge x ⊎ (IsLarge x → ⊥)
large_or_not x = either_or_not 1000000 (leaves x) 1000 (car_steps x)
