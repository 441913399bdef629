-- What admission comes to.
use Rattle.std.specs.Prelude.{◌≡◌, ◌≤◌, ◌+◌, ◌^◌, ℕ, length, List, [], ◌∷◌, unwrap_or, Option, Some, None, Result, Ok, Err}
use Rattle.gl_logic.specs.Exp.{Exp}
use Rattle.gl_logic.specs.Definition.{Definition}
use Rattle.gl_logic.specs.IsAdmissible.{IsAdmissible, Recursive, recursive_calls}
use Rattle.gl_logic.specs.declared.def.Measure.{Measure}
use Rattle.gl_logic.specs.declared.def.Measure.TheVariants as measure
use Rattle.admission.specs.Refused.{first_refused}
use Rattle.admission.specs.declared.fault.AdmitFault.{AdmitFault}
use Rattle.admission.specs.declared.fault.AdmitFault.TheVariants as fault

-- (acl2-count v)
abbrev pub count_of : ℕ → Option Measure
count_of v = Some (measure.Count (record { number = v }))

-- ---- a clique
-- a member's measure: the one that it states, or the count of its first formal
abbrev pub first_count : List ℕ → Option Measure
first_count [] = None
first_count (v ∷ vs) = count_of v

abbrev pub settled_measure : Definition → Option Measure
settled_measure d = elim d.measure [ Some m ↦ Some m | None ↦ first_count d.formals ]

abbrev pub settled : Definition → Definition
settled d = record d { measure = settled_measure d }

abbrev pub with_measures : List Definition → List (Option Measure) → List Definition
with_measures (d ∷ ds) (m ∷ ms) = record d { measure = m } ∷ with_measures ds ms
with_measures _ _ = []

-- ---- a definition alone
abbrev pub definition : ℕ → List ℕ → Exp → Option Measure → Definition
definition name formals body m = record { name = name; formals = formals; body = body; measure = m }

abbrev pub lone_calls : ℕ → List ℕ → Exp → List Recursive
lone_calls f formals body = recursive_calls f (definition 0 formals body None ∷ [])

abbrev pub HasNoCalls : ℕ → List ℕ → Exp → Type 0
HasNoCalls f formals body = lone_calls f formals body ≡ []

-- there are more recursive calls than 64 bits number
abbrev pub IsBeyond : ℕ → List ℕ → Exp → Type 0
IsBeyond f formals body = 2 ^ 64 ≤ length (lone_calls f formals body) + 1

-- whatever its name
abbrev pub IsAdmissibleAlone : ℕ → List ℕ → Exp → Option Measure → Type 0
IsAdmissibleAlone f formals body m = (name : ℕ) → IsAdmissible f (definition name formals body m ∷ [])

-- its name plays no part
abbrev pub refused_alone : ℕ → List ℕ → Exp → Option Measure → Option ℕ
refused_alone f formals body m = first_refused f (definition 0 formals body m ∷ [])

abbrev pub judged : Option Measure → Option ℕ → Result (Option Measure) ℕ
judged m None = Ok m
judged m (Some i) = Err i

-- the count of the first formal under which no call is refused, or this number
abbrev pub first_formal : (Option Measure → Option ℕ) → ℕ → List ℕ → Result (Option Measure) ℕ
first_formal refused i [] = Err i
first_formal refused i (v ∷ vs) = elim (refused (count_of v)) [ None ↦ Ok (count_of v) | Some j ↦ first_formal refused i vs ]

-- the number for the first formal, and 1 where there is none
abbrev pub number_for_first : (Option Measure → Option ℕ) → List ℕ → ℕ
number_for_first refused [] = 1
number_for_first refused (v ∷ vs) = unwrap_or (refused (count_of v)) 1

abbrev pub measured : (Option Measure → Option ℕ) → List ℕ → Option Measure → Result (Option Measure) ℕ
measured refused formals (Some m) = judged (Some m) (refused (Some m))
measured refused formals None = first_formal refused (number_for_first refused formals) formals

-- no measure where there is no recursive call
abbrev pub verdict : ℕ → List ℕ → Exp → Option Measure → Result (Option Measure) ℕ
verdict f formals body stated = elim (lone_calls f formals body) [
  | [] ↦ Ok None
  | r ∷ rs ↦ measured (refused_alone f formals body) formals stated
]

-- the answer tells it, and memory is wanted only where this holds
abbrev pub Tells : Type 0 → Result (Option Measure) ℕ → Result (Option Measure) AdmitFault → Type 0
Tells Beyond v (Ok m) = v ≡ Ok m
Tells Beyond v (Err (fault.NotAdmitted i)) = v ≡ Err i
Tells Beyond v (Err fault.Memory) = Beyond

-- the answer is Ok where no call is refused, or tells the number of the first that is; memory is wanted only where this holds
abbrev pub TellsRefused : {A : Type 0} → Type 0 → Option ℕ → Result A AdmitFault → Type 0
TellsRefused Beyond o (Ok a) = o ≡ None
TellsRefused Beyond o (Err (fault.NotAdmitted i)) = o ≡ Some i
TellsRefused Beyond o (Err fault.Memory) = Beyond
