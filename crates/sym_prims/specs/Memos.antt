-- Answers that are kept.
use Rattle.std.specs.Prelude.{ℕ, Bool, List, Contains}
use Rattle.bfr_store.specs.declared.meaning.Meaning.{Ghosts}
use Rattle.gl_logic.specs.declared.prim.Primitive.{Primitive}
use Rattle.sym_objects.specs.declared.sob.Sob.{Sob}
use Rattle.sym_objects.specs.Seen.{SobsSeen, IsLive, stands_for}
use Rattle.sym_prims.specs.declared.frames.Task.{Task}
use Rattle.sym_prims.specs.Frames.{IsTask, IsValueOf}
use Rattle.sym_prims.specs.Keys.{task_at}
use Rattle.sym_prims.specs.declared.memo.Key.{Key}

-- an answer of an application: it stands for the value under each assignment that makes the path true
pub record IsAnswer {B : Type 0} (g : Ghosts B) (s : SobsSeen B) (p : Primitive) (t : Task) (r : Sob) : Type 0 where
  pub task : IsTask g s t
  pub live : IsLive s r
  pub right : (a : ℕ → Bool) → IsValueOf (λ e. g.truth_of s.store e a) (λ y. stands_for g s y a) p t (stands_for g s r a)

abbrev pub IsMemo : {B : Type 0} → Ghosts B → SobsSeen B → Primitive → List (Key × Sob) → Type 0
IsMemo g s p kept = (k : Key) (r : Sob) → Contains kept (k, r) → IsAnswer g s p (task_at k) r
