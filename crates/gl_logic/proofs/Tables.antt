-- A table with one more text.
use Rattle.std.proofs.Common.{◌≡◌, ◌∙◌, ap, sym, refl, subst, ℕ, zero, suc, ◌≤◌, List, [], ◌∷◌, ◌++◌, true, false, ◌⊎◌, inl, inr, length, take, Some, arith}
use Rattle.std.proofs.lemmas.List.{take-append-le, length-take}
use Rattle.std.proofs.lemmas.Bool.{cases_Bool}
use Rattle.std.specs.Prelude.{slice_get, bytes_eq}
use Rattle.std.specs.List.{list_any}
use Rattle.gl_logic.specs.Names.{with_name, first_names, IsTable}
use Rattle.gl_logic.proofs.Places.{bytes_same}

-- a place in a list with one more is one of before, or the last
pub seat : {A : Type 0} (xs : List A) (y : A) (i : ℕ) (x : A) → slice_get (xs ++ y ∷ []) i ≡ Some x → (slice_get xs i ≡ Some x) ⊎ ((i ≡ length xs) × (x ≡ y))
seat [] y zero x e = inr (refl, cc)
seat [] y (suc i) x e = absurd cc
seat (z ∷ zs) y zero x e = inl e
seat (z ∷ zs) y (suc i) x e = elim (seat zs y i x e) [ inl h ↦ inl h | inr h ↦ inr (omega (arith, h.0), h.1) ]

-- a text that stands somewhere is found
pub found : (name : List ℕ) (names : List (List ℕ)) (i : ℕ) → slice_get names i ≡ Some name → list_any (bytes_eq name) names ≡ true
found name [] i e = absurd cc
found name (n ∷ ns) zero e = let same : bytes_eq name n ≡ true = let p : name ≡ n = cc in subst (λ (m : List ℕ). bytes_eq name m ≡ true) p (bytes_same name) in grind (arith, same)
found name (n ∷ ns) (suc i) e = let h = found name ns i e in grind (arith, h)

pub enough : (names : List (List ℕ)) → take 4 names ≡ first_names → 4 ≤ length names
enough names h = let e : length (take 4 names) ≡ 4 = ap length h in omega (arith, e, length-take 4 names)

pub table-push : (names : List (List ℕ)) (name : List ℕ) → IsTable names → list_any (bytes_eq name) names ≡ false → IsTable (names ++ name ∷ [])
table-push names name h none = record {
  first = take-append-le 4 names (name ∷ []) (enough names h.first) ∙ h.first;
  different = λ i j x at_i at_j. elim (seat names name i x at_i) [
    | inl p ↦ elim (seat names name j x at_j) [
      | inl q ↦ h.different i j x p q
      | inr q ↦ absurd (let f = found name names i (subst (λ (y : List ℕ). slice_get names i ≡ Some y) q.1 p) in cc (none, f))
    ]
    | inr p ↦ elim (seat names name j x at_j) [
      | inl q ↦ absurd (let f = found name names j (subst (λ (y : List ℕ). slice_get names j ≡ Some y) p.1 q) in cc (none, f))
      | inr q ↦ p.0 ∙ sym q.0
    ]
  ];
}

-- a table that was asked for a text
pub table_with : (names : List (List ℕ)) (name : List ℕ) → IsTable names → IsTable (with_name names name)
table_with names name h = elim (cases_Bool (list_any (bytes_eq name) names)) [
  | inl e ↦ rw e h
  | inr e ↦ rw e (table-push names name h e)
]
