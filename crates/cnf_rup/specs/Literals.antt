-- Literals and clauses, and what an assignment makes of them. A literal is a whole number: v is variable v, and -v is its
-- complement. A clause is the list of its literals.
use Rattle.std.specs.Prelude.{ℕ, ℤ, pos, negsuc, suc, Bool, true, not, ◌≡◌, ◌≤◌, ◌<◌, List, All}
use Rattle.std.specs.Int.RustNames.{unsigned_abs}
use Rattle.std.specs.List.{list_any}

-- the truth of a literal under an assignment of the variables
abbrev pub holds : (ℕ → Bool) → ℤ → Bool
holds a (pos v) = a v
holds a (negsuc v) = not (a (suc v))

-- some literal of the clause is true
abbrev pub Satisfies : (ℕ → Bool) → List ℤ → Type 0
Satisfies a c = list_any (holds a) c ≡ true

abbrev pub SatisfiesAll : (ℕ → Bool) → List (List ℤ) → Type 0
SatisfiesAll a clauses = All (Satisfies a) clauses

-- each assignment that satisfies the clauses satisfies c
abbrev pub Follows : List (List ℤ) → List ℤ → Type 0
Follows clauses c = (a : ℕ → Bool) → SatisfiesAll a clauses → Satisfies a c

-- a literal is not 0, and its complement is a number of 32 bits too
abbrev pub IsLiteral : ℤ → Type 0
IsLiteral l = (0 < unsigned_abs l) × (unsigned_abs l ≤ 2147483647)

abbrev pub IsClause : List ℤ → Type 0
IsClause c = All IsLiteral c

-- no variable of the clause is greater
abbrev pub IsUpTo : ℕ → List ℤ → Type 0
IsUpTo variables c = All (λ l. unsigned_abs l ≤ variables) c
