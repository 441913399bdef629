-- Formulas that nothing satisfies.
use Rattle.std.specs.Prelude.{ℕ, ℤ, Bool, List}
use Rattle.cnf_rup.specs.Literals.{SatisfiesAll}

-- no assignment satisfies all clauses
abbrev pub HasNoModel : List (List ℤ) → Type 0
HasNoModel f = (a : ℕ → Bool) → SatisfiesAll a f → ⊥
