-- From faults to decisions.
use Rattle.std.proofs.Common.{◌≡◌, ◌∙◌, ap, sym, subst, ℕ, Bool, true, List, None}
use Rattle.std.specs.List.{All, Contains}
use Rattle.bfr_store.specs.declared.edge.Edge.{Edge}
use Rattle.bfr_store.specs.declared.meaning.Meaning.{Ghosts}
use Rattle.gl_logic.specs.Assignments.{value_at}
use Rattle.gl_logic.specs.CellCounts.{constant_cells}
use Rattle.gl_logic.specs.Evaluate.{evaluate}
use Rattle.gl_logic.specs.IsTermOf.{IsTermOf}
use Rattle.gl_logic.specs.IsTotal.{IsTotal}
use Rattle.gl_logic.specs.Object.{Object}
use Rattle.gl_logic.specs.Wide.{IsWide}
use Rattle.gl_logic.specs.WorldSeen.{WorldSeen}
use Rattle.lisp_eval.specs.Answers.{IsDear, IsCrowded}
use Rattle.lisp_eval.specs.Machines.{MachineSeen}
use Rattle.shape_spec.specs.declared.theorem.Part.{Part}
use Rattle.shape_spec.specs.declared.theorem.Part.TheVariants.{Hyp}
use Rattle.shape_spec.specs.declared.theorem.Thm.{Thm}
use Rattle.sym_objects.specs.declared.sob.Sob.{Sob}
use Rattle.sym_objects.specs.Seen.{SobsSeen}
use Rattle.sym_prims.specs.Applying.{HasCause as HasStoreCause}
use Rattle.sym_prims.specs.declared.fault.SymFault.{SymFault}
use Rattle.sym_prims.specs.declared.fault.SymFault.TheVariants as prim
use Rattle.gl_interp.specs.Causes.{HasCause, HasInputCause, IsOnPath, Rests}
use Rattle.gl_interp.specs.Environments.{env_under}
use Rattle.gl_interp.specs.declared.fault.GlFault.{GlFault}
use Rattle.gl_interp.specs.declared.fault.GlFault.TheVariants as fault
use Rattle.gl_symbolic.specs.Decisions.{HasRunOut, IsNoWide, IsProper, IsReady, IsShown, IsUndecided, given_up_by, stopped_by}
use Rattle.gl_symbolic.specs.Theorems.{term_at, clock_at, input_under, IsOfPart}
use Rattle.gl_symbolic.specs.declared.decision.Decision.{Decision}
use Rattle.gl_symbolic.specs.declared.decision.Decision.TheVariants as decision
use Rattle.hons_arena.specs.Held.{Held}
use Rattle.gl_symbolic.proofs.Cells.{from_crowd, from_input}

-- ---- a machine that rests
pub ready_later : (w : WorldSeen) (thm : Thm) (old new : MachineSeen) → Rests old new → IsReady w thm old → IsReady w thm new
ready_later w thm old new r h = record {
  fits = r.fits w h.fits;
  functions = r.settings.functions ∙ h.functions;
  cells = subst (λ (os : List Object). All (λ y. Contains (constant_cells w) y) os) (ap (λ (a : Held). a.objects) (sym r.arena)) h.cells;
}

pub rests_then : (a b c : MachineSeen) → Rests a b → Rests b c → Rests a c
rests_then a b c h k = record {
  arena = k.arena ∙ h.arena;
  settings = record { limit = k.settings.limit ∙ h.settings.limit; steps = k.settings.steps ∙ h.settings.steps; functions = k.settings.functions ∙ h.settings.functions };
  fits = λ w f. k.fits w (h.fits w f);
}

-- what is said by the limits of the machine that came of another
pub proper_before : (w : WorldSeen) (thm : Thm) (old new : MachineSeen) (d : Decision) → Rests old new → IsProper w new.steps new.arena.limit thm d → IsProper w old.steps old.arena.limit thm d
proper_before w thm old new d r h =
    subst (λ n. IsProper w n old.arena.limit thm d) r.settings.steps (subst (λ n. IsProper w new.steps n thm d) r.settings.limit h)

-- ---- the input
module _ {B : Type 0} (g : Ghosts B) (s : SobsSeen B) (w : WorldSeen) (thm : Thm) (m : MachineSeen) where
  pub input_stop : (f : GlFault) → IsTotal w.definitions → IsTermOf w.definitions (term_at thm Hyp) → IsReady w thm m → HasInputCause g s thm.bindings m f → IsProper w m.steps m.arena.limit thm (stopped_by Hyp f)
  input_stop (fault.Cells a) total of r h = (h.0, from_input w (input_under thm (value_at a)) (term_at thm Hyp) m.arena.objects m.arena.limit r.cells total of h.1)
  input_stop fault.Full total of r h = tt
  input_stop fault.Memory total of r h = tt
  input_stop (fault.Clock a) total of r h = absurd h
  input_stop (fault.Wide a) total of r h = absurd h
  input_stop (fault.Steps a) total of r h = absurd h
  input_stop fault.Spent total of r h = absurd h

  pub input_out : (f : GlFault) → HasInputCause g s thm.bindings m f → HasRunOut g s (stopped_by Hyp f)
  input_out (fault.Cells a) h = tt
  input_out fault.Full h = h
  input_out fault.Memory h = tt
  input_out (fault.Clock a) h = absurd h
  input_out (fault.Wide a) h = absurd h
  input_out (fault.Steps a) h = absurd h
  input_out fault.Spent h = absurd h

-- ---- a part
module _ {B : Type 0} (g : Ghosts B) (old new : SobsSeen B) (w : WorldSeen) (thm : Thm) (m : MachineSeen) (part : Part) (env : List (ℕ × Sob)) (path : Edge) (f : GlFault)
    (cause : HasCause g old new (record { world = w; machine = m; clock = clock_at thm part; term = term_at thm part; env = env; path = path }) f) where
  pub part_out : HasRunOut g new (stopped_by part f)
  part_out = out f cause where
    out : (f : GlFault) → HasCause g old new (record { world = w; machine = m; clock = clock_at thm part; term = term_at thm part; env = env; path = path }) f → HasRunOut g new (stopped_by part f)
    out (fault.Clock a) h = tt
    out (fault.Wide a) h = tt
    out (fault.Steps a) h = tt
    out (fault.Cells a) h = tt
    out fault.Full h = h
    out fault.Spent h = h
    out fault.Memory h = tt

  pub part_stop : IsReady w thm m → ((a : List Bool) → IsOnPath g old path a → IsOfPart w thm part a) → ((a : ℕ → Bool) → g.truth_of old.store path a ≡ true → env_under g old env a ≡ input_under thm a) → IsProper w m.steps m.arena.limit thm (stopped_by part f)
  part_stop r of is = stop f cause where
    moved : (P : List (ℕ × Object) → Type 0) (a : List Bool) → IsOnPath g old path a → P (env_under g old env (value_at a)) → P (input_under thm (value_at a))
    moved P a p h = subst P (is (value_at a) p.1) h

    stop : (f : GlFault) → HasCause g old new (record { world = w; machine = m; clock = clock_at thm part; term = term_at thm part; env = env; path = path }) f → IsProper w m.steps m.arena.limit thm (stopped_by part f)
    stop (fault.Clock a) h = (of a h.0, moved (λ e. evaluate w.definitions (clock_at thm part) e (term_at thm part) ≡ None) a h.0 h.1)
    stop (fault.Wide a) h = (of a h.0, moved (λ e. IsWide w.definitions e (term_at thm part)) a h.0 h.1)
    stop (fault.Steps a) h = (of a h.0, subst (λ (fs : List ℕ). IsDear w fs (input_under thm (value_at a)) (term_at thm part) m.steps) r.functions (moved (λ e. IsDear w m.functions e (term_at thm part) m.steps) a h.0 h.1))
    stop (fault.Cells a) h = (of a h.0, from_crowd w (input_under thm (value_at a)) (term_at thm part) m.arena.objects m.arena.limit r.cells (moved (λ e. IsCrowded w e (term_at thm part) m.arena.objects m.arena.limit) a h.0 h.1))
    stop fault.Full h = tt
    stop fault.Spent h = tt
    stop fault.Memory h = tt

-- ---- a decision of the store
module _ {B : Type 0} (g : Ghosts B) (s : SobsSeen B) (e : Edge) where
  pub no_wide : (f : SymFault) → HasStoreCause g s e (λ a. ⊥) f → IsNoWide f
  no_wide prim.Full h = tt
  no_wide prim.Spent h = tt
  no_wide (prim.Wide a) h = absurd h.2
  no_wide prim.Memory h = tt

  pub given_up_out : (f : SymFault) → HasStoreCause g s e (λ a. ⊥) f → HasRunOut g s (given_up_by f)
  given_up_out prim.Full h = h
  given_up_out prim.Spent h = h
  given_up_out (prim.Wide a) h = tt
  given_up_out prim.Memory h = tt

pub given_up_proper : (w : WorldSeen) (steps cells : ℕ) (thm : Thm) (f : SymFault) → IsProper w steps cells thm (given_up_by f)
given_up_proper w steps cells thm prim.Full = tt
given_up_proper w steps cells thm prim.Spent = tt
given_up_proper w steps cells thm (prim.Wide a) = tt
given_up_proper w steps cells thm prim.Memory = tt

-- ---- what is not decided shows nothing
pub undecided_shown : (shown : Type 0) (d : Decision) → IsUndecided d → IsShown shown d
undecided_shown shown decision.Proved h = absurd h
undecided_shown shown decision.Vacuous h = absurd h
undecided_shown shown (decision.Refuted a) h = absurd h
undecided_shown shown (decision.Clock p a) h = tt
undecided_shown shown (decision.Width p a) h = tt
undecided_shown shown (decision.Steps p a) h = tt
undecided_shown shown (decision.Cells p a) h = tt
undecided_shown shown decision.Full h = tt
undecided_shown shown decision.Spent h = tt
undecided_shown shown decision.Memory h = tt
