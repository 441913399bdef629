-- What a theorem says, and the inputs on which it is tried.
use Rattle.std.specs.Prelude.{◌≡◌, ◌≢◌, ℕ, Bool, List}
use Rattle.gl_logic.specs.Object.{Object, nil}
use Rattle.gl_logic.specs.Definition.{Definition}
use Rattle.gl_logic.specs.Exp.{Exp}
use Rattle.gl_logic.specs.Evaluate.{HasValue}
use Rattle.shape_spec.specs.ShapeSeen.{ShapeSeen}
use Rattle.shape_spec.specs.InputMeant.{input_meant}
use Rattle.shape_spec.specs.declared.theorem.Part.{Part}
use Rattle.shape_spec.specs.declared.theorem.Part.TheVariants.{Hyp, Concl}

-- the term has a value that is not NIL
abbrev pub IsMet : List Definition → Exp → List (ℕ × Object) → Type 0
IsMet definitions t env = (x : Object) × HasValue definitions env t x × (x ≢ nil)

-- an input of the theorem for its hypothesis, and for its conclusion, which is looked at where the hypothesis is met
abbrev pub IsInput : List Definition → Exp → List (ℕ × ShapeSeen) → Part → List (ℕ × Object) → Type 0
IsInput definitions hyp b Hyp env = (a : ℕ → Bool) × (env ≡ input_meant b a)
IsInput definitions hyp b Concl env = (a : ℕ → Bool) × (env ≡ input_meant b a) × IsMet definitions hyp env

-- on every environment that meets the hypothesis, the conclusion is met
abbrev pub Holds : List Definition → Exp → Exp → Type 0
Holds definitions hyp concl = (env : List (ℕ × Object)) → IsMet definitions hyp env → IsMet definitions concl env
