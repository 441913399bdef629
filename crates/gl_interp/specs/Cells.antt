-- Environments as cells.
use Rattle.std.specs.Prelude.{ℕ, ◌≤◌, ◌<◌, List, [], ◌∷◌, ◌++◌, length, get_or}
use Rattle.sym_objects.specs.declared.sob.Sob.{Sob}
use Rattle.gl_interp.specs.declared.envs.Cell.{Cell}

-- the environments of the cells, behind those before
abbrev pub built : List (List (ℕ × Sob)) → List Cell → List (List (ℕ × Sob))
built before [] = before
built before (c ∷ cs) = built (before ++ ((c.name.number, c.value) ∷ get_or before c.next.number []) ∷ []) cs

-- each cell leads to an environment before its own
abbrev pub IsLinked : List Cell → Type 0
IsLinked cells = (i : ℕ) (d : Cell) → i < length cells → (get_or cells i d).next.number ≤ i
