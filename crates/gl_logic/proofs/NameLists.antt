-- Whether a name is among the names that a vector keeps.
use Rattle.std.proofs.Common.{◌≡◌, refl, ℕ, zero, suc, ◌<◌, List, [], ◌∷◌, map, eqb, true, false, length, get_or, arith}
use Rattle.std.specs.List.{list_any}
use Rattle.std.proofs.lemmas.Bool.{or_left, or_right, or_from, eq-eqb}
use Rattle.gl_logic.specs.declared.ids.TextId.{TextId}

abbrev pub numbers : List TextId → List ℕ
numbers items = map (λ t. t.number) items

pub among : (n : ℕ) (items : List TextId) (i : ℕ) (d : TextId) → i < length items → n ≡ (get_or items i d).number → list_any (eqb n) (numbers items) ≡ true
among n [] i d h e = absurd (omega (arith, h))
among n (t ∷ items) zero d h e = or_left (eqb n t.number) (list_any (eqb n) (numbers items)) (eq-eqb n t.number e)
among n (t ∷ items) (suc i) d h e = or_right (eqb n t.number) (list_any (eqb n) (numbers items)) (among n items i d (omega (arith, h)) e)

pub not_among : (n : ℕ) (items : List TextId) → ((k : ℕ) (d : TextId) → k < length items → eqb n (get_or items k d).number ≡ false) → list_any (eqb n) (numbers items) ≡ false
not_among n [] h = refl
not_among n (t ∷ items) h = or_from (eqb n t.number) (list_any (eqb n) (numbers items)) (h 0 t (omega arith)) (not_among n items (λ k d l. h (suc k) d (omega (arith, l))))
