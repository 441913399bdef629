-- The work list of an application.
use Rattle.std.proofs.Common.{◌≡◌, ℕ, zero, suc, ◌+◌, ◌*◌, ◌<◌, ◌≤◌, Bool, true, false, not, ◌&&◌, List, [], ◌∷◌, refl, ap, sym, ◌∙◌, arith, cond, subst}
use Rattle.bfr_store.specs.declared.edge.Edge.{Edge}
use Rattle.bfr_store.specs.declared.meaning.Meaning.{Ghosts}
use Rattle.gl_logic.specs.Object.{Object, Cons, boolean_object}
use Rattle.gl_logic.specs.ObjectEq.{object_eq, is_nil}
use Rattle.gl_logic.specs.PrimValue.{prim_of}
use Rattle.gl_logic.specs.declared.prim.Primitive.{Primitive}
use Rattle.int_prims.specs.Integers.{IsTooWide}
use Rattle.sym_objects.specs.declared.sob.Sob.{Sob}
use Rattle.sym_objects.specs.Seen.{SobsSeen, IsLive, stands_for}
use Rattle.sym_prims.specs.Applying.{Leaves}
use Rattle.sym_prims.specs.Frames.{both, joined, task_value, IsValueOf, Makes, IsOfFocus, Comes, EachTask, FocusTask, JoiningLive, TaskLive, FrameLive, FramesLive, FocusLive, weight, task_weight, frame_weight, frames_weight, focus_weight, IsTask, AreFrames, IsFocus, value_of, ComesIn, IsWithin, AreWithin, Steps, IsRightFor}
use Rattle.sym_prims.specs.declared.frames.Task.{Task}
use Rattle.sym_prims.specs.declared.frames.Joining.{Joining}
use Rattle.sym_prims.specs.declared.frames.Joining.TheVariants as joining
use Rattle.sym_prims.specs.declared.frames.Frame.{Frame}
use Rattle.sym_prims.specs.declared.frames.Frame.TheVariants as frame
use Rattle.sym_prims.specs.declared.frames.Focus.{Focus}
use Rattle.sym_prims.specs.declared.frames.Focus.TheVariants as focus

-- ---- weights
pub weight_some : (n : ℕ) → 8 ≤ weight n
unfolding weight
weight_some zero = omega arith
weight_some (suc n) = omega (arith, weight_some n)

pub weight_rises : (n k : ℕ) → n < k → 8 * weight n ≤ weight k
unfolding weight
weight_rises n zero h = absurd (omega (arith, h))
weight_rises zero (suc k) h = omega (arith, weight_some k)
weight_rises (suc n) (suc k) h = omega (arith, weight_rises n k (omega (arith, h)))

-- ---- the same frames over what was kept
joining_stays : (live new : Edge → Type 0) → ((c : Edge) → live c → new c) → (j : Joining) → JoiningLive live j → JoiningLive new j
joining_stays live new s (joining.Choice c) l = s c l
joining_stays live new s joining.Both l = tt

task_stays : (live new : Edge → Type 0) (is now : Sob → Type 0) → ((c : Edge) → live c → new c) → ((y : Sob) → is y → now y) → (t : Task) → TaskLive live is t → TaskLive new now t
task_stays live new is now s r t l = (r t.first l.0, r t.second l.1, s t.path l.2)

frames_stay : (live new : Edge → Type 0) (is now : Sob → Type 0) → ((c : Edge) → live c → new c) → ((y : Sob) → is y → now y) → (fs : List Frame) → FramesLive live is fs → FramesLive new now fs
frames_stay live new is now s r [] l = tt
frames_stay live new is now s r (frame.Second j t ∷ fs) l = ((joining_stays live new s j l.0.0, task_stays live new is now s r t l.0.1), frames_stay live new is now s r fs l.1)
frames_stay live new is now s r (frame.Last j v ∷ fs) l = ((joining_stays live new s j l.0.0, r v l.0.1), frames_stay live new is now s r fs l.1)
frames_stay live new is now s r (frame.Keep t ∷ fs) l = (task_stays live new is now s r t l.0, frames_stay live new is now s r fs l.1)

joined_same : (t u : Edge → Bool) (live : Edge → Type 0) → ((c : Edge) → live c → u c ≡ t c) → (j : Joining) → JoiningLive live j → (x y z w : Object) → x ≡ z → y ≡ w → joined t j x y ≡ joined u j z w
joined_same t u live e (joining.Choice c) l x y z w p q = λ i. cond (sym (e c l) i) (p i) (q i)
joined_same t u live e joining.Both l x y z w p q = λ i. both (p i) (q i)

module _ (t u : Edge → Bool) (f h : Sob → Object) (live : Edge → Type 0) (is : Sob → Type 0) (e : (c : Edge) → live c → u c ≡ t c) (k : (y : Sob) → is y → h y ≡ f y) (p : Primitive) where
  value_same : (v : Task) → TaskLive live is v → task_value h p v ≡ task_value f p v
  value_same v l = λ i. prim_of p (k v.first l.0 i) (k v.second l.1 i)

  value_on : (v : Task) (x y : Object) → TaskLive live is v → x ≡ y → IsValueOf t f p v x → IsValueOf u h p v y
  value_on v x y l q m = λ o. sym q ∙ (m (sym (e v.path l.2) ∙ o) ∙ sym (value_same v l))

  value_back : (v : Task) (x : Object) → TaskLive live is v → IsValueOf u h p v x → IsValueOf t f p v x
  value_back v x l m = λ o. m (e v.path l.2 ∙ o) ∙ value_same v l

  makes_same : (b : Bool) (answer : Object) (fs : List Frame) (x y : Object) → FramesLive live is fs → x ≡ y → Makes t f p b answer fs x → Makes u h p b answer fs y
  makes_same b answer [] x y l q m = λ o. sym q ∙ m o
  makes_same b answer (frame.Second j v ∷ fs) x y l q m =
      λ z w. makes_same b answer fs (joined t j x z) (joined u j y z) l.1 (joined_same t u live e j l.0.0 x z y z q refl) (m z (value_back v z l.0.1 w))
  makes_same b answer (frame.Last j r ∷ fs) x y l q m =
      makes_same b answer fs (joined t j (f r) x) (joined u j (h r) y) l.1 (joined_same t u live e j l.0.0 (f r) x (h r) y (sym (k r l.0.1)) q) m
  makes_same b answer (frame.Keep v ∷ fs) x y l q m = (value_on v x y l.0 q m.0, makes_same b answer fs x y l.1 q m.1)

each_task : (P Q : Task → Type 0) (live : Edge → Type 0) (is : Sob → Type 0) → ((t : Task) → TaskLive live is t → P t → Q t) → (fs : List Frame) → FramesLive live is fs → EachTask P fs → EachTask Q fs
each_task P Q live is s [] l m = tt
each_task P Q live is s (frame.Second j t ∷ fs) l m = (s t l.0.1 m.0, each_task P Q live is s fs l.1 m.1)
each_task P Q live is s (frame.Last j r ∷ fs) l m = each_task P Q live is s fs l.1 m
each_task P Q live is s (frame.Keep t ∷ fs) l m = each_task P Q live is s fs l.1 m

module _ {B : Type 0} (g : Ghosts B) (p : Primitive) (old new : SobsSeen B) (kept : Leaves g old new) where
  pub frames_kept : (fs : List Frame) → AreFrames g old fs → AreFrames g new fs
  frames_kept = frames_stay (g.live old.store) (g.live new.store) (IsLive old) (IsLive new) kept.grows.store.stays kept.grows.stays

  pub task_kept : (t : Task) → IsTask g old t → IsTask g new t
  task_kept = task_stays (g.live old.store) (g.live new.store) (IsLive old) (IsLive new) kept.grows.store.stays kept.grows.stays

  pub value_kept : (t : Task) (a : ℕ → Bool) → IsTask g old t → value_of g new p t a ≡ value_of g old p t a
  value_kept t a l = λ i. prim_of p (kept.grows.same t.first a l.0 i) (kept.grows.same t.second a l.1 i)

  pub path_kept : (t : Task) (a : ℕ → Bool) → IsTask g old t → g.truth_of new.store t.path a ≡ g.truth_of old.store t.path a
  path_kept t a l = kept.grows.store.same t.path a l.2

  makes_kept : (b : Bool) (answer : Object) (fs : List Frame) (a : ℕ → Bool) (x y : Object) → AreFrames g old fs → x ≡ y
      → Makes (λ c. g.truth_of old.store c a) (λ z. stands_for g old z a) p b answer fs x → Makes (λ c. g.truth_of new.store c a) (λ z. stands_for g new z a) p b answer fs y
  makes_kept b answer fs a x y l q m =
      makes_same (λ c. g.truth_of old.store c a) (λ c. g.truth_of new.store c a) (λ z. stands_for g old z a) (λ z. stands_for g new z a) (g.live old.store) (IsLive old)
      (λ c h. kept.grows.store.same c a h) (λ z h. kept.grows.same z a h) p b answer fs x y l q m

  within_kept : (path : Edge) (object : (ℕ → Bool) → Object) → g.live old.store path → (t : Task) → IsTask g old t → IsWithin g old p path object t → IsWithin g new p path object t
  within_kept path object l t it m = λ a h.
      let w = m a (sym (path_kept t a it) ∙ h) in
      (kept.grows.store.same path a l ∙ w.0, λ wide. w.1 (subst IsTooWide (value_kept t a it) wide))

  each_kept : (path : Edge) (object : (ℕ → Bool) → Object) → g.live old.store path → (fs : List Frame) → AreFrames g old fs → EachTask (IsWithin g old p path object) fs → EachTask (IsWithin g new p path object) fs
  each_kept path object l fs = each_task (IsWithin g old p path object) (IsWithin g new p path object) (g.live old.store) (IsLive old) (within_kept path object l) fs

  -- the answer is there
  pub steps_give : (fs : List Frame) (t : Task) (r : Sob) → AreFrames g old fs → IsLive new r → ((a : ℕ → Bool) → IsValueOf (λ c. g.truth_of old.store c a) (λ z. stands_for g old z a) p t (stands_for g new r a)) → Steps g p old new fs fs (focus.Apply t) (focus.Give r)
  steps_give fs t r l i m = record {
    frames = frames_kept fs l;
    focus = i;
    makes = λ a b answer k x q. makes_kept b answer fs a (stands_for g new r a) x l (sym q) (k (stands_for g new r a) (m a));
    within = λ path object lp w. (each_kept path object lp fs l w.0, tt);
    falls = omega (arith, weight_some (t.first.number + t.second.number));
  }

  -- one of two, where the other is not reached
  pub steps_apply : (fs : List Frame) (t u : Task) → AreFrames g old fs → IsTask g old t → IsTask g old u → u.path ≡ t.path → u.first.number + u.second.number < t.first.number + t.second.number
      → ((a : ℕ → Bool) → g.truth_of old.store t.path a ≡ true → value_of g old p t a ≡ value_of g old p u a) → Steps g p old new fs fs (focus.Apply t) (focus.Apply u)
  steps_apply fs t u l it iu same less m =
      let path = λ (a : ℕ → Bool). path_kept u a iu ∙ ap (λ e. g.truth_of old.store e a) same in
      record {
        frames = frames_kept fs l;
        focus = task_kept u iu;
        makes = λ a b answer k x v. makes_kept b answer fs a x x l refl (k x (λ h. v (path a ∙ h) ∙ (value_kept u a iu ∙ sym (m a h))));
        within = λ way object lp w. (
          each_kept way object lp fs l w.0,
          λ a h.
              let n = w.1 a (sym (path a) ∙ h) in
              (kept.grows.store.same way a lp ∙ n.0, λ wide. n.1 (subst IsTooWide (value_kept u a iu ∙ sym (m a (sym (path a) ∙ h))) wide)),
        );
        falls = omega (arith, weight_rises _ _ less, weight_some (u.first.number + u.second.number));
      }

  -- the answer is made of two
  pub steps_two : (fs : List Frame) (t u v : Task) (j : Joining) → AreFrames g old fs → IsTask g old t → IsTask g new u → IsTask g new v → JoiningLive (g.live new.store) j
      → u.first.number + u.second.number < t.first.number + t.second.number → v.first.number + v.second.number < t.first.number + t.second.number
      → ((a : ℕ → Bool) (x y : Object) → IsValueOf (λ c. g.truth_of new.store c a) (λ z. stands_for g new z a) p u x → IsValueOf (λ c. g.truth_of new.store c a) (λ z. stands_for g new z a) p v y
      → IsValueOf (λ c. g.truth_of old.store c a) (λ z. stands_for g old z a) p t (joined (λ c. g.truth_of new.store c a) j x y))
      → ((path : Edge) (object : (ℕ → Bool) → Object) → g.live old.store path → IsWithin g old p path object t → IsWithin g new p path object u × IsWithin g new p path object v)
      → Steps g p old new fs (frame.Second j v ∷ frame.Keep t ∷ fs) (focus.Apply t) (focus.Apply u)
  steps_two fs t u v j l it iu iv jl lu lv m n = record {
    frames = ((jl, iv), (task_kept t it, frames_kept fs l));
    focus = iu;
    makes = λ a b answer k x vx y vy.
        let both_right = m a x y vx vy in
        let z = joined (λ c. g.truth_of new.store c a) j x y in (
          value_on (λ c. g.truth_of old.store c a) (λ c. g.truth_of new.store c a) (λ w. stands_for g old w a) (λ w. stands_for g new w a) (g.live old.store) (IsLive old)
              (λ c h. kept.grows.store.same c a h) (λ w h. kept.grows.same w a h) p t z z it refl both_right,
          makes_kept b answer fs a z z l refl (k z both_right),
        );
    within = λ path object lp w. let q = n path object lp w.1 in ((q.1, each_kept path object lp fs l w.0), q.0);
    falls = omega (arith, weight_rises _ _ lu, weight_rises _ _ lv, weight_some (u.first.number + u.second.number), weight_some (v.first.number + v.second.number));
  }

  -- the first answer is there
  pub steps_second : (fs : List Frame) (t : Task) (j : Joining) (r : Sob) → AreFrames g old (frame.Second j t ∷ fs) → IsLive old r → Steps g p old new (frame.Second j t ∷ fs) (frame.Last j r ∷ fs) (focus.Give r) (focus.Apply t)
  steps_second fs t j r l ir = record {
    frames = ((joining_stays (g.live old.store) (g.live new.store) kept.grows.store.stays j l.0.0, kept.grows.stays r ir), frames_kept fs l.1);
    focus = task_kept t l.0.1;
    makes = λ a b answer k y v.
        makes_kept b answer fs a (joined (λ c. g.truth_of old.store c a) j (stands_for g old r a) y) (joined (λ c. g.truth_of new.store c a) j (stands_for g new r a) y) l.1
        (joined_same (λ c. g.truth_of old.store c a) (λ c. g.truth_of new.store c a) (g.live old.store) (λ c h. kept.grows.store.same c a h) j l.0.0 (stands_for g old r a) y (stands_for g new r a) y (sym (kept.grows.same r a ir)) refl)
        (k (stands_for g old r a) refl y
        (value_back (λ c. g.truth_of old.store c a) (λ c. g.truth_of new.store c a) (λ w. stands_for g old w a) (λ w. stands_for g new w a) (g.live old.store) (IsLive old)
        (λ c h. kept.grows.store.same c a h) (λ w h. kept.grows.same w a h) p t y l.0.1 v));
    within = λ path object lp w. (each_kept path object lp fs l.1 w.0.1, within_kept path object lp t l.0.1 w.0.0);
    falls = omega arith;
  }

  -- the second answer is there
  pub steps_last : (fs : List Frame) (j : Joining) (first x r : Sob) → AreFrames g old (frame.Last j first ∷ fs) → IsLive new r → ((a : ℕ → Bool) → stands_for g new r a ≡ joined (λ c. g.truth_of old.store c a) j (stands_for g old first a) (stands_for g old x a)) → Steps g p old new (frame.Last j first ∷ fs) fs (focus.Give x) (focus.Give r)
  steps_last fs j first x r l i m = record {
    frames = frames_kept fs l.1;
    focus = i;
    makes = λ a b answer k y q. makes_kept b answer fs a (joined (λ c. g.truth_of old.store c a) j (stands_for g old first a) (stands_for g old x a)) y l.1 (sym (m a) ∙ sym q) (k (stands_for g old x a) refl);
    within = λ path object lp w. (each_kept path object lp fs l.1 w.0, tt);
    falls = omega arith;
  }

  -- the answer is kept
  pub steps_keep : (fs : List Frame) (t : Task) (x : Sob) → AreFrames g old (frame.Keep t ∷ fs) → IsLive old x → Steps g p old new (frame.Keep t ∷ fs) fs (focus.Give x) (focus.Give x)
  steps_keep fs t x l ix = record {
    frames = frames_kept fs l.1;
    focus = kept.grows.stays x ix;
    makes = λ a b answer k y q. makes_kept b answer fs a (stands_for g old x a) y l.1 (sym (kept.grows.same x a ix) ∙ sym q) (k (stands_for g old x a) refl).1;
    within = λ path object lp w. (each_kept path object lp fs l.1 w.0, tt);
    falls = omega arith;
  }
