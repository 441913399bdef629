-- The four first texts are a table.
use Rattle.std.proofs.Common.{◌≡◌, ◌∙◌, ap, sym, refl, ℕ, zero, suc, List, ◌∷◌, Option, Some, None, arith}
use Rattle.std.specs.Prelude.{slice_get}
use Rattle.gl_logic.specs.Names.{first_names, IsTable}

none_there : {A : Type 0} {x : A} → None ≡ Some x → ⊥
none_there e = absurd cc

abbrev first_byte : Option (List ℕ) → ℕ
first_byte (Some (b ∷ bs)) = b
first_byte _ = 0

first_apart : (i j : ℕ) (name : List ℕ) → slice_get first_names i ≡ Some name → slice_get first_names j ≡ Some name → i ≡ j
first_apart zero zero name p q = refl
first_apart zero (suc zero) name p q = let e : 78 ≡ 84 = ap first_byte (p ∙ sym q) in absurd (omega (arith, e))
first_apart zero (suc (suc zero)) name p q = let e : 78 ≡ 96 = ap first_byte (p ∙ sym q) in absurd (omega (arith, e))
first_apart zero (suc (suc (suc zero))) name p q = let e : 78 ≡ 44 = ap first_byte (p ∙ sym q) in absurd (omega (arith, e))
first_apart zero (suc (suc (suc (suc j)))) name p q = absurd (none_there q)
first_apart (suc zero) zero name p q = let e : 84 ≡ 78 = ap first_byte (p ∙ sym q) in absurd (omega (arith, e))
first_apart (suc zero) (suc zero) name p q = refl
first_apart (suc zero) (suc (suc zero)) name p q = let e : 84 ≡ 96 = ap first_byte (p ∙ sym q) in absurd (omega (arith, e))
first_apart (suc zero) (suc (suc (suc zero))) name p q = let e : 84 ≡ 44 = ap first_byte (p ∙ sym q) in absurd (omega (arith, e))
first_apart (suc zero) (suc (suc (suc (suc j)))) name p q = absurd (none_there q)
first_apart (suc (suc zero)) zero name p q = let e : 96 ≡ 78 = ap first_byte (p ∙ sym q) in absurd (omega (arith, e))
first_apart (suc (suc zero)) (suc zero) name p q = let e : 96 ≡ 84 = ap first_byte (p ∙ sym q) in absurd (omega (arith, e))
first_apart (suc (suc zero)) (suc (suc zero)) name p q = refl
first_apart (suc (suc zero)) (suc (suc (suc zero))) name p q = let e : 96 ≡ 44 = ap first_byte (p ∙ sym q) in absurd (omega (arith, e))
first_apart (suc (suc zero)) (suc (suc (suc (suc j)))) name p q = absurd (none_there q)
first_apart (suc (suc (suc zero))) zero name p q = let e : 44 ≡ 78 = ap first_byte (p ∙ sym q) in absurd (omega (arith, e))
first_apart (suc (suc (suc zero))) (suc zero) name p q = let e : 44 ≡ 84 = ap first_byte (p ∙ sym q) in absurd (omega (arith, e))
first_apart (suc (suc (suc zero))) (suc (suc zero)) name p q = let e : 44 ≡ 96 = ap first_byte (p ∙ sym q) in absurd (omega (arith, e))
first_apart (suc (suc (suc zero))) (suc (suc (suc zero))) name p q = refl
first_apart (suc (suc (suc zero))) (suc (suc (suc (suc j)))) name p q = absurd (none_there q)
first_apart (suc (suc (suc (suc i)))) j name p q = absurd (none_there p)

pub first_table : IsTable first_names
first_table = record { first = refl; different = first_apart }
