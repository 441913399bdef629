-- An assignment that is copied.
use Rattle.std.proofs.Common.{◌≡◌, ◌∙◌, ap, sym, refl, ℕ, suc, ◌+◌, ◌<◌, arith, Bool, false, List, [], ◌∷◌, length, inl, inr}
use Rattle.std.specs.Prelude.{slice_set}
use Rattle.std.proofs.lemmas.Bool.{cases_lt}
use Rattle.std.proofs.lemmas.List.{get_or-set_same, get_or-set_other, length-set}
use Rattle.gl_logic.specs.Assignments.{value_at}

pub record IsCopied (a copy : List Bool) (width k : ℕ) : Type 0 where
  pub count : length copy ≡ width
  pub same : (j : ℕ) → j < k → value_at copy j ≡ value_at a j

pub copied_none : (a copy : List Bool) (width : ℕ) → length copy ≡ width → IsCopied a copy width 0
copied_none a copy width e = record { count = e; same = λ j l. absurd (omega (arith, l)) }

set_at : (copy : List Bool) (k j : ℕ) (b v : Bool) → j ≡ k → k < length copy → b ≡ v → value_at (slice_set copy k b) j ≡ v
set_at copy k j b v e l h = ap (value_at (slice_set copy k b)) e ∙ (get_or-set_same copy k b false l ∙ h)

pub copied_more : (a copy new : List Bool) (width k m : ℕ) (b : Bool) → IsCopied a copy width k → m ≡ k + 1 → new ≡ slice_set copy k b → b ≡ value_at a k → k < width → IsCopied a new width m
copied_more a copy new width k m b p next e h l = record {
  count = ap length e ∙ (length-set copy k b ∙ p.count);
  same = λ j i. ap (λ xs. value_at xs j) e ∙ (elim (cases_lt j k) [
    | inl less ↦ get_or-set_other copy k j b false (λ q. absurd (omega (arith, q, less))) ∙ p.same j less
    | inr more ↦ let q : j ≡ k = omega (arith, more, i, next) in set_at copy k j b (value_at a j) q (omega (arith, l, p.count)) (h ∙ ap (value_at a) (sym q))
  ]);
}

lists_same : (xs ys : List Bool) → length xs ≡ length ys → ((j : ℕ) → j < length ys → value_at xs j ≡ value_at ys j) → xs ≡ ys
lists_same [] [] e h = refl
lists_same [] (y ∷ ys) e h = absurd (omega (arith, e))
lists_same (x ∷ xs) [] e h = absurd (omega (arith, e))
lists_same (x ∷ xs) (y ∷ ys) e h = λ i. h 0 (omega arith) i ∷ lists_same xs ys (omega (arith, e)) (λ j l. h (suc j) (omega (arith, l))) i

pub copied_all : (a copy : List Bool) (width k : ℕ) → length a ≡ width → k ≡ width → IsCopied a copy width k → copy ≡ a
copied_all a copy width k e i p = lists_same copy a (p.count ∙ sym e) (λ j l. p.same j (omega (arith, l, e, i)))
