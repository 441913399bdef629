-- When the recursive calls of a clique end: each is a step of the members' measures.
use Rattle.std.specs.Prelude.{◌≡◌, ℕ, ◌-◌, Bool, true, false, ltb, List, [], ◌∷◌, ◌++◌, map, Option, Some, None, slice_get, if◌then◌else◌}
use Rattle.std.specs.Option.{is_some}
use Rattle.gl_logic.specs.Every.{Every}
use Rattle.gl_logic.specs.Definition.{Definition}
use Rattle.gl_logic.specs.RecursiveCalls.{Governed, calls_in}
use Rattle.gl_logic.specs.Steps.{measure_steps}
use Rattle.gl_logic.specs.declared.def.Measure.{Measure}

-- definition f, where it is one of the members, which are numbered from `first`
abbrev pub member_at : ℕ → List Definition → ℕ → Option Definition
member_at first members f = if ltb f first then None else slice_get members (f - first)

abbrev pub is_member : ℕ → List Definition → ℕ → Bool
is_member first members f = is_some (member_at first members f)

-- ---- the calls of members in the members' bodies, in their order, each with its caller's measure
abbrev pub Recursive : Type 0
Recursive = Option Measure × Governed

abbrev pub calls_of : (ℕ → Bool) → Definition → List Recursive
calls_of is_one d = map (λ c. (d.measure, c)) (calls_in is_one [] [] d.body)

abbrev pub calls_of_all : (ℕ → Bool) → List Definition → List Recursive
calls_of_all is_one [] = []
calls_of_all is_one (d ∷ ds) = calls_of is_one d ++ calls_of_all is_one ds

abbrev pub recursive_calls : ℕ → List Definition → List Recursive
recursive_calls first members = calls_of_all (is_member first members) members

-- ---- a call is a step from the caller's measure to the callee's
abbrev pub steps_to : Option Definition → Recursive → Bool
steps_to None r = false
steps_to (Some callee) r = measure_steps r.0 callee.measure callee.formals r.1

abbrev pub is_step : ℕ → List Definition → Recursive → Bool
is_step first members r = steps_to (member_at first members r.1.callee) r

-- true of a clique without recursive calls
abbrev pub IsAdmissible : ℕ → List Definition → Type 0
IsAdmissible first members = Every (λ r. is_step first members r ≡ true) (recursive_calls first members)
