-- What is asked of bindings beside cover.
use Rattle.std.specs.Prelude.{◌≡◌, ℕ, Bool, true, eqb, List}
use Rattle.std.specs.List.{list_any}
use Rattle.gl_logic.specs.Exp.{Exp}
use Rattle.shape_spec.specs.ShapeSeen.{ShapeSeen}
use Rattle.shape_spec.specs.Indices.{variables_of}
use Rattle.coverage.specs.Covered.{is_free_in_either}

abbrev pub is_bound_in : List (ℕ × ShapeSeen) → ℕ → Bool
is_bound_in b v = list_any (λ u. eqb u v) (variables_of b)

-- each variable that is free in the hypothesis or in the conclusion is bound
abbrev pub AllAreBound : Exp → Exp → List (ℕ × ShapeSeen) → Type 0
AllAreBound hyp concl b = (v : ℕ) → is_free_in_either hyp concl v ≡ true → is_bound_in b v ≡ true
