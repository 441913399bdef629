-- Evaluations that leave 128 bits.
use Rattle.std.specs.Prelude.{◌≡◌, ℕ, List, Some, slice_get}
use Rattle.gl_logic.specs.Object.{Object, Int}
use Rattle.gl_logic.specs.Width.{Fits}
use Rattle.gl_logic.specs.Definition.{Definition}
use Rattle.gl_logic.specs.Exp.{Exp}
use Rattle.gl_logic.specs.Counts.{seen}

-- an integer outside -2 ^ 127 to 2 ^ 127 - 1
abbrev pub IsWideObject : Object → Type 0
IsWideObject (Int z) = ¬ Fits z
IsWideObject _ = ⊥

abbrev pub SomeWide : List Object → Type 0
SomeWide xs = (k : ℕ) × ((x : Object) × ((slice_get xs k ≡ Some x) × IsWideObject x))

-- some value that the plain evaluation computes is such an integer
abbrev pub IsWide : List Definition → List (ℕ × Object) → Exp → Type 0
IsWide definitions env t = (n : ℕ) × SomeWide (seen definitions n env t)
