-- The causes of the faults of a work.
use Rattle.std.proofs.Common.{◌≡◌, ◌∙◌, sym, subst, ℕ, Bool, List, Result, Err, IfErr, Some, IfSome, Vec, Global}
use Rattle.bfr_store.specs.declared.meaning.Meaning.{Ghosts}
use Rattle.gl_logic.specs.Assignments.{value_at}
use Rattle.gl_logic.specs.Object.{Object, Int, Character, Symbol, Text, Cons}
use Rattle.gl_logic.specs.PrimValue.{prim_value}
use Rattle.gl_logic.specs.Wide.{IsWideObject}
use Rattle.gl_logic.specs.WorldSeen.{WorldSeen}
use Rattle.gl_logic.specs.declared.ids.FnId.{FnId}
use Rattle.gl_logic.specs.declared.prim.Primitive.{Primitive}
use Rattle.int_prims.specs.Integers.{IsTooWide}
use Rattle.lisp_eval.specs.Machines.{MachineSeen}
use Rattle.lisp_eval.specs.declared.fault.EvalFault.{EvalFault}
use Rattle.sym_objects.specs.declared.sob.Sob.{Sob}
use Rattle.sym_objects.specs.Seen.{SobsSeen, IsFull}
use Rattle.sym_prims.specs.Applying.{HasCause, Leaves}
use Rattle.sym_prims.specs.declared.fault.SymFault.{SymFault}
use Rattle.sym_prims.specs.declared.fault.SymFault.TheVariants as prim
use Rattle.gl_interp.specs.Calls.{HasCallCause, HasEvalCause, values_under}
use Rattle.gl_interp.specs.Causes.{IsOnPath}
use Rattle.gl_interp.specs.Faults.{fault_from}
use Rattle.gl_interp.specs.Running.{IsWitness, IsWitnessed}
use Rattle.gl_interp.specs.TurnFaults.{HasMachineCause, HasTurnCause}
use Rattle.gl_interp.specs.declared.calls.CallFault.{CallFault}
use Rattle.gl_interp.specs.declared.calls.CallFault.TheVariants as call
use Rattle.gl_interp.specs.declared.envs.EnvId.{EnvId}
use Rattle.gl_interp.specs.declared.fault.GlFault.{GlFault}
use Rattle.gl_interp.specs.declared.fault.GlFault.TheVariants as fault
use Rattle.gl_interp.specs.declared.frame.Path.{Path}
use Rattle.gl_interp.specs.declared.frame.Work.{Work}
use Rattle.gl_interp.specs.declared.frame.Work.TheVariants as work
use Rattle.gl_interp.specs.declared.frame.Focus.TheVariants as focus

-- the path's assignment is one of the path
pub on_path : {B : Type 0} (g : Ghosts B) (old new : SobsSeen B) (path : Path) (found : List Bool) → IsWitnessed (g.truth_of old.store) (g.width_of old.store) path → Leaves g old new → g.live old.store path.edge → path.found ≡ Some found → IsOnPath g new path.edge found
on_path g old new path found w k live e =
    let is : IsWitness (g.truth_of old.store) (g.width_of old.store) path.edge found = subst (λ o. IfSome o (λ v. IsWitness (g.truth_of old.store) (g.width_of old.store) path.edge v)) e w in
    (is.count ∙ sym k.width, k.grows.store.same path.edge (value_at found) live ∙ is.reaches)

-- ---- what a call on constants answers
module _ {B : Type 0} (g : Ghosts B) (new : SobsSeen B) (w : WorldSeen) (m : MachineSeen) (f : ℕ) (xs : (ℕ → Bool) → List Object) (r : Result Sob CallFault) (h : IfErr r (λ c. (a : ℕ → Bool) → HasCallCause g new w m f (xs a) c)) (a : ℕ → Bool) where
  pub cause_full : (e : CallFault) → r ≡ Err e → e ≡ call.Full → IsFull g new
  cause_full e i j = subst (λ c. HasCallCause g new w m f (xs a) c) j (subst (λ q. IfErr q (λ c. (a : ℕ → Bool) → HasCallCause g new w m f (xs a) c)) i h a)

  pub cause_eval : (e : CallFault) (x : EvalFault) → r ≡ Err e → e ≡ call.Eval x → HasEvalCause w m f (xs a) x
  cause_eval e x i j = subst (λ c. HasCallCause g new w m f (xs a) c) j (subst (λ q. IfErr q (λ c. (a : ℕ → Bool) → HasCallCause g new w m f (xs a) c)) i h a)

-- ---- what a primitive answers
wide_object : (x : Object) → IsTooWide x → IsWideObject x
wide_object (Int z) h = h
wide_object (Character n) h = absurd h
wide_object (Symbol n) h = absurd h
wide_object (Text n) h = absurd h
wide_object (Cons x y) h = absurd h

module _ {B : Type 0} (g : Ghosts B) (old new : SobsSeen B) (w : WorldSeen) (m : MachineSeen) (path : Path) (args : Vec Sob Global) (env : EnvId) (n : ℕ) where
  prim_at : (p : Primitive) (f : SymFault) → HasCause g new path.edge (λ a. IsTooWide (prim_value p (values_under g old args.items a))) f → HasTurnCause g old new w m path (focus.Run (work.Prim p) args env n) (fault_from f)
  prim_at p prim.Full h = h
  prim_at p prim.Spent h = h
  prim_at p (prim.Wide a) h = ((h.0, h.1), wide_object (prim_value p (values_under g old args.items (value_at a))) h.2)
  prim_at p prim.Memory h = tt

  pub prim_cause : (k : Work) (p : Primitive) (xs : List Sob) (f : SymFault) (c : GlFault) → k ≡ work.Prim p → xs ≡ args.items → c ≡ fault_from f → HasCause g new path.edge (λ a. IsTooWide (prim_value p (values_under g old xs a))) f
      → HasTurnCause g old new w m path (focus.Run k args env n) c
  prim_cause k p xs f c kind same is h =
      let moved : HasCause g new path.edge (λ a. IsTooWide (prim_value p (values_under g old args.items a))) f = subst (λ ys. HasCause g new path.edge (λ a. IsTooWide (prim_value p (values_under g old ys a))) f) same h in
      subst (λ q. HasTurnCause g old new w m path (focus.Run q args env n) c) (sym kind)
      (subst (λ q. HasTurnCause g old new w m path (focus.Run (work.Prim p) args env n) q) (sym is) (prim_at p f moved))

  -- what the machine's refusal of a call says
  machine_at : (f : FnId) (c : GlFault) → HasMachineCause g old new w m path f.number args.items c → HasTurnCause g old new w m path (focus.Run (work.Call f) args env n) c
  machine_at f (fault.Clock a) h = absurd h
  machine_at f (fault.Wide a) h = h
  machine_at f (fault.Steps a) h = h
  machine_at f (fault.Cells a) h = h
  machine_at f fault.Full h = h
  machine_at f fault.Spent h = h
  machine_at f fault.Memory h = tt

  pub machine_cause : (k : Work) (f : FnId) (xs : List Sob) (c : GlFault) → k ≡ work.Call f → xs ≡ args.items → HasMachineCause g old new w m path f.number xs c → HasTurnCause g old new w m path (focus.Run k args env n) c
  machine_cause k f xs c kind same h =
      subst (λ q. HasTurnCause g old new w m path (focus.Run q args env n) c) (sym kind) (machine_at f c (subst (λ ys. HasMachineCause g old new w m path f.number ys c) same h))

  -- no definition may be opened any more
  pub clock_cause : (k : Work) (f : FnId) (a : List Bool) → k ≡ work.Call f → n ≡ 0 → IsOnPath g new path.edge a → HasTurnCause g old new w m path (focus.Run k args env n) (fault.Clock a)
  clock_cause k f a kind zero_clock on = subst (λ (q : Work). HasTurnCause g old new w m path (focus.Run q args env n) (fault.Clock a)) (sym kind) (on, zero_clock)
