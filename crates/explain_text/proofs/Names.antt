-- A fact of each of some names.
use Rattle.std.proofs.Common.{◌≡◌, ◌<◌, ℕ, zero, suc, true, List, [], ◌∷◌, ◌++◌, map, length, slice_index_or, String, string_bytes, bytes_eq, subst, sym, arith}
use Rattle.std.proofs.lemmas.Slice.Eq.{bytes_eq-Decides}
use Rattle.gl_logic.specs.Every.{Every}

module _ {Y : Type 0} (P : List ℕ → Type 0) where
  pub every_here : (names : List (String Y)) (name : List ℕ) (n : ℕ) (s : String Y) → n < length names → s ≡ slice_index_or names n s → string_bytes s ≡ name → Every P (map string_bytes names) → P name
  every_here [] name n s h e b k = absurd (omega (arith, h))
  every_here (u ∷ names) name zero s h e b k = subst P b (subst (λ (x : String Y). P (string_bytes x)) (sym e) k.0)
  every_here (u ∷ names) name (suc n) s h e b k = every_here names name n s (omega (arith, h)) e b k.1

  pub one_more : (names : List (String Y)) (s : String Y) → Every P (map string_bytes names) → P (string_bytes s) → Every P (map string_bytes (names ++ s ∷ []))
  one_more [] s k h = (h, tt)
  one_more (u ∷ names) s k h = (k.0, one_more names s k.1 h)
