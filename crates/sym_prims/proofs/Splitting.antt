-- The steps of taking an application apart by a test.
use Rattle.std.proofs.Common.{◌≡◌, ℕ, Bool, true, false, not, ◌&&◌, List, [], ◌∷◌, Ok, refl, ap, sym, ◌∙◌, subst}
use Rattle.bfr_store.specs.declared.edge.Edge.{Edge}
use Rattle.bfr_store.specs.declared.meaning.Meaning.{Ghosts}
use Rattle.gl_logic.specs.declared.prim.Primitive.{Primitive}
use Rattle.sym_objects.specs.declared.sob.Sob.{Sob}
use Rattle.sym_objects.specs.Seen.{SobsSeen, IsLive, IsWhole}
use Rattle.sym_prims.specs.Applying.{Leaves, Tells}
use Rattle.sym_prims.specs.Frames.{AreBranches, AreFrames, IsTask, Steps}
use Rattle.sym_prims.specs.declared.frames.Task.{Task}
use Rattle.sym_prims.specs.declared.frames.Joining.TheVariants as joining
use Rattle.sym_prims.specs.declared.frames.Frame.{Frame}
use Rattle.sym_prims.specs.declared.frames.Frame.TheVariants as frame
use Rattle.sym_prims.specs.declared.frames.Focus.TheVariants as focus
use Rattle.sym_prims.proofs.Leaving.{leaves_of, leaves_then}
use Rattle.sym_prims.proofs.Visiting.{both_branches, only_other, only_then}

module _ {B : Type 0} (g : Ghosts B) (p : Primitive) (old : SobsSeen B) (fs : List Frame) (t then other : Task) (e : Edge)
    (l : AreFrames g old fs) (it : IsTask g old t) (le : g.live old.store e) (br : AreBranches g old p e t then other)
    (first second : SobsSeen B) (taken : Edge) (ty : Tells g old first (Ok taken) (λ a. g.truth_of old.store t.path a && g.truth_of old.store e a)) (k : Leaves g first second) where
  pub to_second : Leaves g old second
  to_second = leaves_then g old first second (leaves_of g old first ty.keeps) k

  pub split_other : ((a : ℕ → Bool) → g.truth_of first.store taken a ≡ false) → Steps g p old second fs fs (focus.Apply t) (focus.Apply other)
  split_other never = only_other g p old second to_second fs t then other e l it br (λ a. sym (ty.truth a) ∙ never a)

  module _ (third fourth : SobsSeen B) (refuted off : Edge) (same : third ≡ second) (lr : g.live second.store refuted) (tr : (a : ℕ → Bool) → g.truth_of second.store refuted a ≡ not (g.truth_of second.store e a))
      (tn : Tells g third fourth (Ok off) (λ a. g.truth_of third.store t.path a && g.truth_of third.store refuted a)) where
    told : Tells g second fourth (Ok off) (λ a. g.truth_of second.store t.path a && g.truth_of second.store refuted a)
    told = subst (λ (q : SobsSeen B). Tells g q fourth (Ok off) (λ a. g.truth_of q.store t.path a && g.truth_of q.store refuted a)) same tn

    pub to_fourth : Leaves g old fourth
    to_fourth = leaves_then g old second fourth to_second (leaves_of g second fourth told.keeps)

    no_is : (a : ℕ → Bool) → g.truth_of fourth.store off a ≡ (g.truth_of old.store t.path a && not (g.truth_of old.store e a))
    no_is a = told.truth a ∙ (λ i. to_second.grows.store.same t.path a it.2 i && (tr a ∙ ap not (to_second.grows.store.same e a le)) i)

    module _ (fifth : SobsSeen B) (q : Leaves g fourth fifth) where
      pub to_fifth : Leaves g old fifth
      to_fifth = leaves_then g old fourth fifth to_fourth q

      pub split_then : ((a : ℕ → Bool) → g.truth_of fourth.store off a ≡ false) → Steps g p old fifth fs fs (focus.Apply t) (focus.Apply then)
      split_then never = only_then g p old fifth to_fifth fs t then other e l it br (λ a. sym (no_is a) ∙ never a)

      pub split_both : Steps g p old fifth fs (frame.Second (joining.Choice e) (record other { path = off }) ∷ frame.Keep t ∷ fs) (focus.Apply t) (focus.Apply (record then { path = taken }))
      split_both =
          let later : Leaves g second fifth = leaves_then g second fourth fifth (leaves_of g second fourth told.keeps) q in
          let here : g.live second.store taken = k.grows.store.stays taken ty.live in
          both_branches g p old fifth to_fifth fs t then other e l it br taken off le (later.grows.store.stays taken here) (q.grows.store.stays off told.live)
          (λ a. later.grows.store.same taken a here ∙ (k.grows.store.same taken a ty.live ∙ ty.truth a))
          (λ a. q.grows.store.same off a told.live ∙ no_is a)
