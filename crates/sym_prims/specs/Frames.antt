-- What is left of a primitive's application.
use Rattle.std.specs.Prelude.{ℕ, zero, suc, Bool, true, not, cond, ◌&&◌, ◌≡◌, ◌<◌, ◌+◌, ◌*◌, List, [], ◌∷◌}
use Rattle.bfr_store.specs.declared.edge.Edge.{Edge}
use Rattle.bfr_store.specs.declared.meaning.Meaning.{Ghosts}
use Rattle.gl_logic.specs.Object.{Object, boolean_object}
use Rattle.gl_logic.specs.ObjectEq.{is_nil}
use Rattle.gl_logic.specs.PrimValue.{prim_of}
use Rattle.gl_logic.specs.declared.prim.Primitive.{Primitive}
use Rattle.int_prims.specs.Integers.{IsTooWide}
use Rattle.sym_objects.specs.declared.sob.Sob.{Sob}
use Rattle.sym_objects.specs.Seen.{SobsSeen, IsLive, stands_for}
use Rattle.sym_prims.specs.Applying.{Leaves}
use Rattle.sym_prims.specs.declared.frames.Task.{Task}
use Rattle.sym_prims.specs.declared.nodes.Conses.{Conses}
use Rattle.sym_prims.specs.declared.frames.Joining.{Joining}
use Rattle.sym_prims.specs.declared.frames.Joining.TheVariants as joining
use Rattle.sym_prims.specs.declared.frames.Frame.{Frame}
use Rattle.sym_prims.specs.declared.frames.Frame.TheVariants as frame
use Rattle.sym_prims.specs.declared.frames.Focus.{Focus}
use Rattle.sym_prims.specs.declared.frames.Focus.TheVariants as focus

-- T where neither of two objects is NIL
abbrev pub both : Object → Object → Object
both x y = boolean_object (not (is_nil x) && not (is_nil y))

-- one object of two answers
abbrev pub joined : (Edge → Bool) → Joining → Object → Object → Object
joined truth (joining.Choice e) x y = cond (truth e) x y
joined truth joining.Both x y = both x y

-- ---- under one assignment, by the truths of the edges and the objects of the nodes
-- what an application gives
abbrev pub task_value : (Sob → Object) → Primitive → Task → Object
task_value of p t = prim_of p (of t.first) (of t.second)

-- where its path is true, x is what the application gives
abbrev pub IsValueOf : (Edge → Bool) → (Sob → Object) → Primitive → Task → Object → Type 0
IsValueOf truth of p t x = truth t.path ≡ true → x ≡ task_value of p t

-- the frames, the top one first, make of an object that comes one that is the answer where b holds
abbrev pub Makes : (Edge → Bool) → (Sob → Object) → Primitive → Bool → Object → List Frame → Object → Type 0
Makes truth of p b answer [] x = b ≡ true → x ≡ answer
Makes truth of p b answer (frame.Second j t ∷ fs) x = (y : Object) → IsValueOf truth of p t y → Makes truth of p b answer fs (joined truth j x y)
Makes truth of p b answer (frame.Last j r ∷ fs) x = Makes truth of p b answer fs (joined truth j (of r) x)
Makes truth of p b answer (frame.Keep t ∷ fs) x = IsValueOf truth of p t x × Makes truth of p b answer fs x

-- what may come of the focus
abbrev pub IsOfFocus : (Edge → Bool) → (Sob → Object) → Primitive → Focus → Object → Type 0
IsOfFocus truth of p (focus.Apply t) x = IsValueOf truth of p t x
IsOfFocus truth of p (focus.Give r) x = x ≡ of r

-- whatever comes of the focus, the frames make the answer of it
abbrev pub Comes : (Edge → Bool) → (Sob → Object) → Primitive → Bool → Object → List Frame → Focus → Type 0
Comes truth of p b answer fs f = (x : Object) → IsOfFocus truth of p f x → Makes truth of p b answer fs x

-- ---- what holds of each application that is left
abbrev pub EachTask : (Task → Type 0) → List Frame → Type 0
EachTask P [] = Unit {0}
EachTask P (frame.Second j t ∷ fs) = P t × EachTask P fs
EachTask P (_ ∷ fs) = EachTask P fs

abbrev pub FocusTask : (Task → Type 0) → Focus → Type 0
FocusTask P (focus.Apply t) = P t
FocusTask P (focus.Give r) = Unit {0}

-- ---- live
abbrev pub JoiningLive : (Edge → Type 0) → Joining → Type 0
JoiningLive live (joining.Choice e) = live e
JoiningLive live joining.Both = Unit {0}

abbrev pub TaskLive : (Edge → Type 0) → (Sob → Type 0) → Task → Type 0
TaskLive live is t = is t.first × is t.second × live t.path

abbrev pub FrameLive : (Edge → Type 0) → (Sob → Type 0) → Frame → Type 0
FrameLive live is (frame.Second j t) = JoiningLive live j × TaskLive live is t
FrameLive live is (frame.Last j r) = JoiningLive live j × is r
FrameLive live is (frame.Keep t) = TaskLive live is t

abbrev pub FramesLive : (Edge → Type 0) → (Sob → Type 0) → List Frame → Type 0
FramesLive live is [] = Unit {0}
FramesLive live is (f ∷ fs) = FrameLive live is f × FramesLive live is fs

abbrev pub FocusLive : (Edge → Type 0) → (Sob → Type 0) → Focus → Type 0
FocusLive live is (focus.Apply t) = TaskLive live is t
FocusLive live is (focus.Give r) = is r

-- ---- turns: an application is more than two of parts
unfoldable pub weight : ℕ → ℕ
weight zero = 8
weight (suc n) = 8 * weight n

abbrev pub task_weight : Task → ℕ
task_weight t = weight (t.first.number + t.second.number)

abbrev pub frame_weight : Frame → ℕ
frame_weight (frame.Second j t) = task_weight t + 2
frame_weight (frame.Last j r) = 1
frame_weight (frame.Keep t) = 1

abbrev pub frames_weight : List Frame → ℕ
frames_weight [] = 0
frames_weight (f ∷ fs) = frame_weight f + frames_weight fs

abbrev pub focus_weight : Focus → ℕ
focus_weight (focus.Apply t) = task_weight t
focus_weight (focus.Give r) = 0

-- ---- over a table
abbrev pub IsTask : {B : Type 0} → Ghosts B → SobsSeen B → Task → Type 0
IsTask g s t = TaskLive (g.live s.store) (IsLive s) t

abbrev pub AreFrames : {B : Type 0} → Ghosts B → SobsSeen B → List Frame → Type 0
AreFrames g s fs = FramesLive (g.live s.store) (IsLive s) fs

abbrev pub IsFocus : {B : Type 0} → Ghosts B → SobsSeen B → Focus → Type 0
IsFocus g s f = FocusLive (g.live s.store) (IsLive s) f

-- what an application gives under an assignment
abbrev pub value_of : {B : Type 0} → Ghosts B → SobsSeen B → Primitive → Task → (ℕ → Bool) → Object
value_of g s p t a = task_value (λ y. stands_for g s y a) p t

abbrev pub ComesIn : {B : Type 0} → Ghosts B → SobsSeen B → Primitive → Bool → Object → List Frame → Focus → (ℕ → Bool) → Type 0
ComesIn g s p b answer fs f a = Comes (λ e. g.truth_of s.store e a) (λ y. stands_for g s y a) p b answer fs f

-- the application's path is true only where the whole's is, and its value leaves 128 bits only where the whole's does
abbrev pub IsWithin : {B : Type 0} → Ghosts B → SobsSeen B → Primitive → Edge → ((ℕ → Bool) → Object) → Task → Type 0
IsWithin g s p path object t = (a : ℕ → Bool) → g.truth_of s.store t.path a ≡ true → (g.truth_of s.store path a ≡ true) × (IsTooWide (value_of g s p t a) → IsTooWide (object a))

abbrev pub AreWithin : {B : Type 0} → Ghosts B → SobsSeen B → Primitive → Edge → ((ℕ → Bool) → Object) → List Frame → Focus → Type 0
AreWithin g s p path object fs f = EachTask (IsWithin g s p path object) fs × FocusTask (IsWithin g s p path object) f

-- the frames make of what comes of the new focus what the old ones made of what came of the old one
pub record Steps {B : Type 0} (g : Ghosts B) (p : Primitive) (old new : SobsSeen B) (fs hs : List Frame) (f h : Focus) : Type 0 where
  pub frames : AreFrames g new hs
  pub focus : IsFocus g new h
  pub makes : (a : ℕ → Bool) (b : Bool) (answer : Object) → ComesIn g old p b answer fs f a → ComesIn g new p b answer hs h a
  pub within : (path : Edge) (object : (ℕ → Bool) → Object) → g.live old.store path → AreWithin g old p path object fs f → AreWithin g new p path object hs h
  pub falls : focus_weight h + frames_weight hs < focus_weight f + frames_weight fs

-- where a frame keeps what comes, that is the application's value under each assignment that makes its path true
abbrev pub IsRightFor : {B : Type 0} → Ghosts B → SobsSeen B → Primitive → Frame → Sob → Type 0
IsRightFor g s p (frame.Keep t) r = (a : ℕ → Bool) → IsValueOf (λ e. g.truth_of s.store e a) (λ y. stands_for g s y a) p t (stands_for g s r a)
IsRightFor g s p _ r = Unit {0}

-- ---- an application taken apart
-- an application is one of two by a test, both under its path and of smaller objects
pub record AreBranches {B : Type 0} (g : Ghosts B) (s : SobsSeen B) (p : Primitive) (test : Edge) (task then other : Task) : Type 0 where
  pub then_live : IsTask g s then
  pub other_live : IsTask g s other
  pub then_path : then.path ≡ task.path
  pub other_path : other.path ≡ task.path
  pub then_less : then.first.number + then.second.number < task.first.number + task.second.number
  pub other_less : other.first.number + other.second.number < task.first.number + task.second.number
  pub value : (a : ℕ → Bool) → value_of g s p task a ≡ cond (g.truth_of s.store test a) (value_of g s p then a) (value_of g s p other a)

-- the equality of the cars, and that of the cdrs
abbrev pub cars_of : Task → Conses → Task
cars_of t c = record { first = c.first_car; second = c.second_car; path = t.path }

abbrev pub cdrs_of : Task → Conses → Task
cdrs_of t c = record { first = c.first_cdr; second = c.second_cdr; path = t.path }
