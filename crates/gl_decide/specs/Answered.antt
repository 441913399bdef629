-- A theorem that is covered, and the verdicts that a scan's answers and a symbolic decision's make.
use Rattle.std.specs.Prelude.{◌≡◌, ◌≢◌, ℕ, Bool, List, length}
use Rattle.std.proofs.Common.{◌⊎◌}
use Rattle.gl_logic.specs.Assignments.{value_at}
use Rattle.gl_logic.specs.Object.{Object}
use Rattle.gl_logic.specs.IsGround.{AreGround}
use Rattle.gl_logic.specs.IsTermOf.{IsTermOf}
use Rattle.gl_logic.specs.IsTotal.{IsTotal}
use Rattle.gl_logic.specs.WorldSeen.{WorldSeen}
use Rattle.coverage.specs.Sound.{AllAreBound}
use Rattle.shape_spec.specs.Indices.{width_of, IsBindings}
use Rattle.shape_spec.specs.InputMeant.{input_meant}
use Rattle.shape_spec.specs.declared.theorem.Mode.TheVariants as mode
use Rattle.shape_spec.specs.declared.theorem.Part.{Part}
use Rattle.lisp_eval.specs.declared.fault.EvalFault.{EvalFault}
use Rattle.lisp_eval.specs.declared.fault.EvalFault.TheVariants as fault
use Rattle.gl_symbolic.specs.declared.decision.Decision.{Decision}
use Rattle.gl_symbolic.specs.declared.decision.Decision.TheVariants as decision
use Rattle.gl_decide.specs.Bounds.{Bounds}
use Rattle.gl_decide.specs.Stalls.{IsStallOf}
use Rattle.shape_spec.specs.TheoremSeen.{TheoremSeen}
use Rattle.gl_decide.specs.TheoremAt.{input_at}
use Rattle.gl_decide.specs.Verdicts.{IsCovered, IsProperVerdict}
use Rattle.gl_decide.specs.declared.stall.StallCause.{StallCause}
use Rattle.gl_decide.specs.declared.stall.StallCause.TheVariants as why
use Rattle.gl_decide.specs.declared.verdict.Verdict.{Verdict}
use Rattle.gl_decide.specs.declared.verdict.Verdict.TheVariants as verdict

-- ---- covered theorems
-- a covered theorem of a world in which each term has a value
pub record IsCoveredIn (w : WorldSeen) (thm : TheoremSeen) : Type 0 where
  pub ground : AreGround w.definitions
  pub total : IsTotal w.definitions
  pub hyp : IsTermOf w.definitions thm.hyp
  pub concl : IsTermOf w.definitions thm.concl
  pub bindings : IsBindings thm.bindings
  pub bound : AllAreBound thm.hyp thm.concl thm.bindings
  pub covered : IsCovered thm

-- ---- scans
-- the input of a number refutes, or memory was refused
abbrev pub IsRefutedAt : TheoremSeen → ℕ → Verdict → Type 0
IsRefutedAt thm n (verdict.Refuted env) = env ≡ input_at thm n
IsRefutedAt thm n verdict.Memory = Unit {0}
IsRefutedAt thm n _ = ⊥

-- a part has no answer on the input of a number, for this fault's cause
abbrev pub IsStoppedAt : TheoremSeen → ℕ → Part → EvalFault → Verdict → Type 0
IsStoppedAt thm n part f (verdict.Width p env) = (f ≡ fault.Width) × (p ≡ part) × (env ≡ input_at thm n)
IsStoppedAt thm n part f (verdict.Steps p env) = (f ≡ fault.Steps) × (p ≡ part) × (env ≡ input_at thm n)
IsStoppedAt thm n part f (verdict.Cells p env) = (f ≡ fault.Cells) × (p ≡ part) × (env ≡ input_at thm n)
IsStoppedAt thm n part f verdict.Memory = Unit {0}
IsStoppedAt thm n part f _ = ⊥

-- ---- symbolic decisions
-- why a decision ran out: the cause, with the limit
abbrev pub IsRunOut : Bounds → Decision → StallCause → Type 0
IsRunOut bounds decision.Full c = c ≡ why.Nodes bounds.nodes
IsRunOut bounds decision.Spent c = c ≡ why.Clauses bounds.clauses
IsRunOut bounds _ c = ⊥

-- it did not
abbrev pub HasVerdict : Decision → Type 0
HasVerdict decision.Full = ⊥
HasVerdict decision.Spent = ⊥
HasVerdict _ = Unit {0}

-- its assignment, if it has one, has a truth value for each index of the theorem
abbrev pub HasAssignment : TheoremSeen → Decision → Type 0
HasAssignment thm (decision.Refuted a) = length a ≡ width_of thm.bindings
HasAssignment thm (decision.Clock part a) = length a ≡ width_of thm.bindings
HasAssignment thm (decision.Width part a) = length a ≡ width_of thm.bindings
HasAssignment thm (decision.Steps part a) = length a ≡ width_of thm.bindings
HasAssignment thm (decision.Cells part a) = length a ≡ width_of thm.bindings
HasAssignment thm _ = Unit {0}

-- the input of such an assignment
abbrev pub input_of_bits : TheoremSeen → List Bool → List (ℕ × Object)
input_of_bits thm a = input_meant thm.bindings (value_at a)

-- the verdict that a decision is, with the input of its assignment
abbrev pub IsTold : TheoremSeen → Decision → Verdict → Type 0
IsTold thm decision.Proved verdict.Proved = Unit {0}
IsTold thm decision.Vacuous verdict.Vacuous = Unit {0}
IsTold thm (decision.Refuted a) (verdict.Refuted env) = env ≡ input_of_bits thm a
IsTold thm (decision.Clock part a) (verdict.Clock p env) = (p ≡ part) × (env ≡ input_of_bits thm a)
IsTold thm (decision.Width part a) (verdict.Width p env) = (p ≡ part) × (env ≡ input_of_bits thm a)
IsTold thm (decision.Steps part a) (verdict.Steps p env) = (p ≡ part) × (env ≡ input_of_bits thm a)
IsTold thm (decision.Cells part a) (verdict.Cells p env) = (p ≡ part) × (env ≡ input_of_bits thm a)
IsTold thm d _ = ⊥

-- the verdict with the stall of this cause
abbrev pub IsStalled : WorldSeen → TheoremSeen → StallCause → Verdict → Type 0
IsStalled w thm (why.Nodes n) (verdict.Nodes s) = IsStallOf w thm (why.Nodes n) s
IsStalled w thm (why.Clauses n) (verdict.Clauses s) = IsStallOf w thm (why.Clauses n) s
IsStalled w thm c _ = ⊥

-- ---- other modes
-- decided, or an input on which a part has a cause
abbrev pub IsAnswered : Verdict → Type 0
IsAnswered (verdict.Uncovered v) = ⊥
IsAnswered (verdict.Nodes s) = ⊥
IsAnswered (verdict.Clauses s) = ⊥
IsAnswered verdict.Memory = ⊥
IsAnswered _ = Unit {0}

-- a proper answer to a theorem that is not searched in its own mode
pub record IsDecidedOtherwise (w : WorldSeen) (bounds : Bounds) (thm : TheoremSeen) (v : Verdict) : Type 0 where
  pub own : thm.mode ≢ mode.Sat
  pub answered : IsAnswered v
  pub proper : IsProperVerdict w bounds thm v

-- such an answer, or the stall of this cause
abbrev pub IsOtherwise : WorldSeen → Bounds → TheoremSeen → StallCause → Verdict → Type 0
IsOtherwise w bounds thm c v = IsDecidedOtherwise w bounds thm v ⊎ IsStalled w thm c v
