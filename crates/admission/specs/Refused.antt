-- Which recursive call of a clique is the first that is refused.
use Rattle.std.specs.Prelude.{ℕ, ◌+◌, Bool, true, false, List, [], ◌∷◌, Option, Some, None}
use Rattle.gl_logic.specs.Definition.{Definition}
use Rattle.gl_logic.specs.IsAdmissible.{Recursive, recursive_calls, is_step}

-- the number of the first that is no step, where they are numbered from `next` on
abbrev pub first_no_step : (Recursive → Bool) → ℕ → List Recursive → Option ℕ
first_no_step is_one next [] = None
first_no_step is_one next (r ∷ rs) = elim (is_one r) [ true ↦ first_no_step is_one (next + 1) rs | false ↦ Some next ]

-- of a clique whose first member has this number, under the members' measures
abbrev pub first_refused : ℕ → List Definition → Option ℕ
first_refused first members = first_no_step (is_step first members) 1 (recursive_calls first members)
