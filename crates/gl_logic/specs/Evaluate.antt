-- The value of a term.
use Rattle.std.specs.Prelude.{◌≡◌, ℕ, List, Option, Some}
use Rattle.gl_logic.specs.Object.{Object}
use Rattle.gl_logic.specs.Definition.{Definition}
use Rattle.gl_logic.specs.Exp.{Exp}
use Rattle.gl_logic.specs.Walk.{walk, then}

-- with at most n definitions opened inside one another, or none
abbrev pub evaluate : List Definition → ℕ → List (ℕ × Object) → Exp → Option Object
evaluate definitions n env t = then (walk definitions n env t) (λ r. Some r.value)

abbrev pub HasValue : List Definition → List (ℕ × Object) → Exp → Object → Type 0
HasValue definitions env t x = (n : ℕ) × (evaluate definitions n env t ≡ Some x)
