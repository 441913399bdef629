-- What a call that is made is, by itself, beside the whole in which it is made.
use Rattle.std.specs.Prelude.{◌≡◌, ℕ, ◌≤◌, List, [], Some}
use Rattle.std.specs.List.{Contains}
use Rattle.gl_logic.specs.Object.{Object}
use Rattle.gl_logic.specs.Definition.{Definition}
use Rattle.gl_logic.specs.Exp.{Exp}
use Rattle.gl_logic.specs.Walk.{CallMade, walk}
use Rattle.gl_logic.specs.Evaluate.{evaluate}
use Rattle.gl_logic.specs.Counts.{made_in, seen, cost, memoized_cost}
use Rattle.gl_logic.specs.CellCounts.{distinct_cells}
use Rattle.gl_logic.specs.WorldSeen.{WorldSeen}
use Rattle.gl_logic.specs.Wide.{IsWide}
use Rattle.gl_logic.specs.ConstantCall.{constant_call}
use Rattle.gl_logic.specs.IsWithin.{IsWithin}

-- a term's evaluation with at most n definitions opened inside one another makes this call
abbrev pub Makes : List Definition → ℕ → List (ℕ × Object) → Exp → CallMade → Type 0
Makes definitions n env t c = Contains (made_in (walk definitions n env t)) c

-- by itself, on its arguments' values as constants
abbrev pub call_itself : CallMade → Exp
call_itself c = constant_call c.0 c.1

-- for each call that is made: the call by itself, and the whole
abbrev pub OfEachCall : List Definition → (ℕ → List (ℕ × Object) → Exp → Exp → Type 0) → Type 0
OfEachCall definitions P = (n : ℕ) (env : List (ℕ × Object)) (t : Exp) (c : CallMade) → Makes definitions n env t c → P n env t (call_itself c)

-- it has a value
abbrev pub HasValueAgain : List Definition → Type 0
HasValueAgain definitions = OfEachCall definitions (λ n env t call. (x : Object) × (evaluate definitions n [] call ≡ Some x))

-- what it sees is within what the whole sees
abbrev pub SeesLess : List Definition → Type 0
SeesLess definitions = OfEachCall definitions (λ n env t call. IsWithin (seen definitions n [] call) (seen definitions n env t))

-- the calls that it makes are made in the whole
abbrev pub MakesLess : List Definition → Type 0
MakesLess definitions = OfEachCall definitions (λ n env t call. (d : CallMade) → Makes definitions n [] call d → Makes definitions n env t d)

-- it costs at most what the whole costs
abbrev pub CostsLess : List Definition → Type 0
CostsLess definitions = OfEachCall definitions (λ n env t call. cost definitions n [] call ≤ cost definitions n env t)

abbrev pub CostsLessMemoized : List Definition → List ℕ → Type 0
CostsLessMemoized definitions functions = OfEachCall definitions (λ n env t call. memoized_cost definitions functions n [] call ≤ memoized_cost definitions functions n env t)

-- where it is wide, so is the whole
abbrev pub IsWideInside : List Definition → Type 0
IsWideInside definitions = OfEachCall definitions (λ n env t call. IsWide definitions [] call → IsWide definitions env t)

-- it needs at most the different cells of the whole
abbrev pub NeedsLess : WorldSeen → Type 0
NeedsLess w = OfEachCall w.definitions (λ n env t call. distinct_cells w n [] call ≤ distinct_cells w n env t)
