-- Where the first empty clause ends.
use Rattle.std.specs.Prelude.{ℕ, suc, ℤ, if◌then◌else◌, List, [], ◌∷◌}
use Rattle.cnf_rup.specs.Books.{is_empty}

-- how many clauses there are up to the first empty one, that one included
abbrev pub to_empty : List (List ℤ) → ℕ
to_empty [] = 0
to_empty (c ∷ cs) = if is_empty c then 1 else suc (to_empty cs)
