-- An application on its way.
use Rattle.std.proofs.Common.{◌≡◌, ℕ, ◌+◌, Bool, true, List, [], ◌∷◌, Result, Ok, Err, refl, ap, sym, ◌∙◌, inl, inr, ◌⊎◌, subst, arith}
use Rattle.std.specs.List.{Contains}
use Rattle.bfr_store.specs.declared.edge.Edge.{Edge}
use Rattle.bfr_store.specs.declared.meaning.Meaning.{Ghosts}
use Rattle.gl_logic.specs.Object.{Object}
use Rattle.gl_logic.specs.PrimValue.{prim_of}
use Rattle.gl_logic.specs.declared.prim.Primitive.{Primitive}
use Rattle.int_prims.specs.Integers.{IsTooWide}
use Rattle.sym_objects.specs.declared.sob.Sob.{Sob}
use Rattle.sym_objects.specs.Seen.{SobsSeen, IsLive, IsWhole, stands_for}
use Rattle.sym_prims.specs.declared.fault.SymFault.{SymFault}
use Rattle.sym_prims.specs.Applying.{Applies, HasCause, Leaves}
use Rattle.sym_prims.specs.Frames.{IsValueOf, IsTask, AreFrames, IsFocus, value_of, ComesIn, IsWithin, AreWithin, Steps, IsRightFor}
use Rattle.sym_prims.specs.Keys.{key_of, task_at}
use Rattle.sym_prims.specs.Puts.{IsPut}
use Rattle.sym_prims.specs.declared.memo.Key.{Key}
use Rattle.sym_prims.specs.Memos.{IsAnswer, IsMemo}
use Rattle.sym_prims.specs.declared.frames.Task.{Task}
use Rattle.sym_prims.specs.declared.frames.Frame.{Frame}
use Rattle.sym_prims.specs.declared.frames.Frame.TheVariants as frame
use Rattle.sym_prims.specs.declared.frames.Focus.{Focus}
use Rattle.sym_prims.specs.declared.frames.Focus.TheVariants as focus
use Rattle.sym_prims.proofs.Leaving.{leaves_none, leaves_then, cause_wider}
use Rattle.sym_prims.proofs.Stepping.{steps_give, task_kept, value_kept, path_kept}

pub record Running {B : Type 0} (g : Ghosts B) (p : Primitive) (task : Task) (start now : SobsSeen B) (fs : List Frame) (f : Focus) (kept : List (Key × Sob)) : Type 0 where
  pub leaves : Leaves g start now
  pub frames : AreFrames g now fs
  pub focus : IsFocus g now f
  pub comes : (a : ℕ → Bool) → ComesIn g now p (g.truth_of start.store task.path a) (value_of g start p task a) fs f a
  pub within : AreWithin g now p task.path (value_of g start p task) fs f
  pub memo : IsMemo g now p kept

module _ {B : Type 0} (g : Ghosts B) (p : Primitive) where
  pub memo_stays : (old new : SobsSeen B) → Leaves g old new → (kept : List (Key × Sob)) → IsMemo g old p kept → IsMemo g new p kept
  memo_stays old new l kept m k r c =
      let is = m k r c in
      record {
        task = task_kept g p old new l (task_at k) is.task;
        live = l.grows.stays r is.live;
        right = λ a h. l.grows.same r a is.live ∙ (is.right a (sym (path_kept g p old new l (task_at k) a is.task) ∙ h) ∙ sym (value_kept g p old new l (task_at k) a is.task));
      }

  pub memo_more : (s : SobsSeen B) (old new : List (Key × Sob)) (t : Task) (x : Sob) → IsMemo g s p old → IsAnswer g s p t x
      → IsPut old new (key_of t) x → IsMemo g s p new
  memo_more s old new t x m is d k r c = by (d k r c) where
    by : Contains old (k, r) ⊎ ((k ≡ key_of t) × (r ≡ x)) → IsAnswer g s p (task_at k) r
    by (inl h) = m k r h
    by (inr h) = subst (λ (q : Key × Sob). IsAnswer g s p (task_at q.0) q.1) (λ i. (sym h.0 i, sym h.1 i)) is

  pub running_start : (start : SobsSeen B) (task : Task) → IsWhole g start → IsTask g start task → Running g p task start start [] (focus.Apply task) []
  running_start start task w l = record {
    leaves = leaves_none g start w;
    frames = tt;
    focus = l;
    comes = λ a x v. v;
    within = (tt, λ a h. (h, λ wide. wide));
    memo = none;
  } where
    none : IsMemo g start p []
    none k r (i, h, e) = absurd (omega (arith, h))

  pub running_then : (task : Task) (start old new : SobsSeen B) (fs hs : List Frame) (f h : Focus) (kept more : List (Key × Sob)) → IsTask g start task → Running g p task start old fs f kept
      → Leaves g old new → Steps g p old new fs hs f h → IsMemo g new p more → Running g p task start new hs h more
  running_then task start old new fs hs f h kept more l r k s m = record {
    leaves = leaves_then g start old new r.leaves k;
    frames = s.frames;
    focus = s.focus;
    comes = λ a. s.makes a (g.truth_of start.store task.path a) (value_of g start p task a) (r.comes a);
    within = s.within task.path (value_of g start p task) (r.leaves.grows.store.stays task.path l.2) r.within;
    memo = m;
  }

  -- the whole's answer is there
  pub running_done : (task : Task) (start now : SobsSeen B) (x : Sob) (kept : List (Key × Sob)) → Running g p task start now [] (focus.Give x) kept → Applies g start now (Ok x) task.path (value_of g start p task)
  running_done task start now x kept r = record {
    leaves = r.leaves;
    live = r.focus;
    value = λ a h. r.comes a (stands_for g now x a) refl h;
    cause = tt;
  }

  -- a fault of an application that is looked at is one of the whole
  pub running_fault : (task next : Task) (start old new : SobsSeen B) (fs : List Frame) (kept : List (Key × Sob)) (e : SymFault) → IsTask g start task → Running g p task start old fs (focus.Apply next) kept
      → Leaves g old new → HasCause g new next.path (λ a. IsTooWide (value_of g old p next a)) e → Applies g start new (Err e) task.path (value_of g start p task)
  running_fault task next start old new fs kept e l r k h =
      let way = r.leaves.grows.store.stays task.path l.2 in
      let within = λ (a : ℕ → Bool) (t : g.truth_of new.store next.path a ≡ true). r.within.1 a (sym (path_kept g p old new k next a r.focus) ∙ t) in
      record {
        leaves = leaves_then g start old new r.leaves k;
        live = tt;
        value = tt;
        cause = cause_wider g new next.path task.path (λ a. IsTooWide (value_of g old p next a)) (λ a. IsTooWide (value_of g start p task a)) e
            (λ a t. k.grows.store.same task.path a way ∙ (within a t).0)
            (λ a t. (within a t).1) h;
      }

  -- and so is any other fault
  pub running_other : (task : Task) (start old new : SobsSeen B) (fs : List Frame) (f : Focus) (kept : List (Key × Sob)) (e : SymFault) → Running g p task start old fs f kept
      → Leaves g old new → ((c : Edge) → HasCause g new c (λ a. ⊥) e) → Applies g start new (Err e) task.path (value_of g start p task)
  running_other task start old new fs f kept e r k h = record {
    leaves = leaves_then g start old new r.leaves k;
    live = tt;
    value = tt;
    cause = cause_wider g new task.path task.path (λ a. ⊥) (λ a. IsTooWide (value_of g start p task a)) e (λ a t. t) (λ a t v. absurd v) (h task.path);
  }

  -- what a frame keeps is right
  pub right_for : (task : Task) (start now : SobsSeen B) (fr : Frame) (fs : List Frame) (x : Sob) (kept : List (Key × Sob)) → Running g p task start now (fr ∷ fs) (focus.Give x) kept → IsRightFor g now p fr x
  right_for task start now (frame.Second j t) fs x kept r = tt
  right_for task start now (frame.Last j y) fs x kept r = tt
  right_for task start now (frame.Keep t) fs x kept r = λ a. (r.comes a (stands_for g now x a) refl).0

  -- an answer that is kept
  pub steps_known : (s : SobsSeen B) (fs : List Frame) (t : Task) (kept : List (Key × Sob)) (k : Key) (r : Sob) → IsWhole g s → AreFrames g s fs → IsMemo g s p kept → k ≡ key_of t → Contains kept (k, r) → Steps g p s s fs fs (focus.Apply t) (focus.Give r)
  steps_known s fs t kept k r w l m e c =
      let is : IsAnswer g s p (task_at (key_of t)) r = subst (λ (q : Key). IsAnswer g s p (task_at q) r) e (m k r c) in
      steps_give g p s s (leaves_none g s w) fs t r l is.live is.right
