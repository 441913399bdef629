-- When what one input tells is proper.
use Rattle.std.specs.Prelude.{◌≡◌, ◌≢◌, ℕ, Bool, List, Contains}
use Rattle.std.proofs.Common.{◌⊎◌}
use Rattle.gl_logic.specs.Object.{Object, nil}
use Rattle.gl_logic.specs.Evaluate.{HasValue}
use Rattle.gl_logic.specs.CellCounts.{constant_cells}
use Rattle.gl_logic.specs.WorldSeen.{WorldSeen}
use Rattle.shape_spec.specs.InputMeant.{input_meant}
use Rattle.shape_spec.specs.Theorems.{IsMet}
use Rattle.gl_logic.specs.IsTermOf.{IsTermOf}
use Rattle.lisp_eval.specs.Machines.{MachineSeen, Fits, AreFunctionsOf}
use Rattle.lisp_eval.specs.declared.fault.EvalFault.TheVariants as fault
use Rattle.shape_spec.specs.TheoremSeen.{TheoremSeen}
use Rattle.gl_decide.specs.Verdicts.{IsInputFor, Refutes}
use Rattle.gl_decide.specs.Scans.{HasCause}
use Rattle.gl_decide.specs.Placed.{input_cells}
use Rattle.gl_decide.specs.declared.trial.Trial.{Trial}
use Rattle.gl_decide.specs.declared.trial.Trial.TheVariants as trial

-- a machine that fits the world, with the theorem's memoized functions, and holds cells of the world's constants alone
pub record IsReady (w : WorldSeen) (thm : TheoremSeen) (m : MachineSeen) : Type 0 where
  pub fits : Fits w m
  pub functions : m.functions ≡ thm.memoized
  pub cells : (y : Object) → Contains m.arena.objects y → Contains (constant_cells w) y

-- and cells of an input
pub record HoldsInput (w : WorldSeen) (thm : TheoremSeen) (env : List (ℕ × Object)) (m : MachineSeen) : Type 0 where
  pub fits : Fits w m
  pub functions : m.functions ≡ thm.memoized
  pub cells : (y : Object) → Contains m.arena.objects y → Contains (input_cells env) y ⊎ Contains (constant_cells w) y

abbrev pub IsInputOf : TheoremSeen → List (ℕ × Object) → Type 0
IsInputOf thm env = (a : ℕ → Bool) × (env ≡ input_meant thm.bindings a)

abbrev pub IsProperTrial : WorldSeen → ℕ → ℕ → TheoremSeen → List (ℕ × Object) → Trial → Type 0
IsProperTrial w steps cells thm env trial.Unmet = HasValue w.definitions env thm.hyp nil
IsProperTrial w steps cells thm env trial.Passes = IsMet w.definitions thm.hyp env × IsMet w.definitions thm.concl env
IsProperTrial w steps cells thm env trial.Refutes = Refutes w thm env
IsProperTrial w steps cells thm env (trial.Stopped part f) = f ≢ fault.Memory → IsInputFor w thm part env × HasCause w steps cells thm part env f

-- the theorem's terms and memoized functions are of the world
pub record IsOfWorld (w : WorldSeen) (thm : TheoremSeen) : Type 0 where
  pub hyp : IsTermOf w.definitions thm.hyp
  pub concl : IsTermOf w.definitions thm.concl
  pub functions : AreFunctionsOf w thm.memoized
