-- The interpreter on its way.
use Rattle.std.specs.Prelude.{ℕ, ◌≡◌, ◌+◌, ◌⊎◌, Bool, true, List, Option, None}
use Rattle.bfr_store.specs.declared.meaning.Meaning.{Ghosts}
use Rattle.gl_logic.specs.IsTermOf.{IsTermOf}
use Rattle.gl_logic.specs.IsTotal.{IsTotal}
use Rattle.gl_logic.specs.Walk.{Walk, walk}
use Rattle.lisp_eval.specs.Machines.{MachineSeen}
use Rattle.sym_objects.specs.declared.sob.Sob.{Sob}
use Rattle.sym_objects.specs.Seen.{SobsSeen}
use Rattle.sym_prims.specs.Applying.{Leaves}
use Rattle.gl_interp.specs.declared.frame.Path.{Path}
use Rattle.gl_interp.specs.declared.frame.Frame.{Frame}
use Rattle.gl_interp.specs.declared.frame.Focus.{Focus}
use Rattle.gl_interp.specs.Causes.{Rests, Task}
use Rattle.gl_interp.specs.Environments.{env_under}
use Rattle.gl_interp.specs.Walking.{FocusMakes}
use Rattle.gl_interp.specs.Running.{at, AreTerms, Ready}

-- the walk of the whole under an assignment, with k added to the clock
abbrev pub whole_at : {B : Type 0} → Ghosts B → SobsSeen B → Task → ℕ → (ℕ → Bool) → Option Walk
whole_at g s t k a = walk t.world.definitions (t.clock + k) (env_under g s t.env a) t.term

pub record Running {B : Type 0} (g : Ghosts B) (old : SobsSeen B) (t : Task) (now : SobsSeen B) (machine : MachineSeen) (es : List (List (ℕ × Sob))) (onward : Path) (fs : List Frame) (f : Focus) : Type 0 where
  pub leaves : Leaves g old now
  pub rests : Rests t.machine machine
  pub total : IsTotal t.world.definitions
  pub is_term : IsTermOf t.world.definitions t.term
  pub start_live : g.live old.store t.path
  pub ready : Ready g now es t.path onward fs f
  pub terms : AreTerms t.world.definitions fs f
  pub makes : (k : ℕ) (a : ℕ → Bool) → g.truth_of old.store t.path a ≡ true → FocusMakes (at g t.world.definitions k now es a) fs (whole_at g old t k a) f ⊎ (whole_at g old t k a ≡ None)
