-- The numbers of calls, as the program counts them through a body.
use Rattle.std.specs.Prelude.{◌≡◌, ◌≤◌, ◌+◌, ◌^◌, ℕ, true, false, Option, Some, None, Result, Ok, Err}
use Rattle.gl_logic.specs.Exp.{Exp, Exps, Var, Const, If, Prim, Call, Let, Last, More}
use Rattle.admission.specs.declared.caller.Caller.{Caller}
use Rattle.admission.specs.Callers.{caller_noted, caller_below, caller_steps}
use Rattle.admission.specs.Signatures.{Signature}
use Rattle.admission.specs.declared.fault.AdmitFault.{AdmitFault}
use Rattle.admission.specs.declared.fault.AdmitFault.TheVariants as fault

abbrev pub go_on : Result ℕ ℕ → (ℕ → Result ℕ ℕ) → Result ℕ ℕ
go_on (Ok n) f = f n
go_on (Err i) f = Err i

-- the number behind a call of what has this signature, or of no member; or its own where it is refused
abbrev pub behind_call : Option Signature → Exps → Caller → ℕ → Result ℕ ℕ
behind_call None ts c n = Ok n
behind_call (Some s) ts c n = elim (caller_steps c s.1 s.0 ts) [ true ↦ Ok (n + 1) | false ↦ Err n ]

-- the number behind the last call of a term, or that of the first that is refused
abbrev mutual
  pub behind : (ℕ → Option Signature) → Exp → Caller → ℕ → Result ℕ ℕ
  behind at (Var v) c n = Ok n
  behind at (Const x) c n = Ok n
  behind at (If t a b) c n = go_on (behind at t c n) (λ m. go_on (behind at a (caller_noted t true c) m) (behind at b (caller_noted t false c)))
  behind at (Prim p ts) c n = behind_all at ts c n
  behind at (Call f ts) c n = go_on (behind_call (at f) ts c n) (behind_all at ts c)
  behind at (Let vs ts b) c n = go_on (behind_all at ts c n) (behind at b (caller_below vs c))

  pub behind_all : (ℕ → Option Signature) → Exps → Caller → ℕ → Result ℕ ℕ
  behind_all at Last c n = Ok n
  behind_all at (More t ts) c n = go_on (behind at t c n) (behind_all at ts c)

-- the number to which it has come
abbrev pub come_to : Result ℕ ℕ → ℕ
come_to (Ok n) = n
come_to (Err n) = n

-- the answer tells it. That memory is wanted says that 64 bits do not hold the number
abbrev pub Counts : Result ℕ ℕ → Result ℕ AdmitFault → Type 0
Counts v (Ok n) = v ≡ Ok n
Counts v (Err (fault.NotAdmitted i)) = v ≡ Err i
Counts v (Err fault.Memory) = 2 ^ 64 ≤ come_to v
