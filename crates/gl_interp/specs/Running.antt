-- The interpreter's state.
use Rattle.std.specs.Prelude.{ℕ, ◌≡◌, ◌<◌, ◌≤◌, ◌⊎◌, Bool, true, not, ◌&&◌, List, [], ◌∷◌, length, get_or, Option, Some, None, IfSome, IsSome}
use Rattle.bfr_store.specs.declared.edge.Edge.{Edge}
use Rattle.bfr_store.specs.declared.meaning.Meaning.{Ghosts}
use Rattle.gl_logic.specs.Definition.{Definition}
use Rattle.gl_logic.specs.Walk.{Walk}
use Rattle.sym_objects.specs.declared.sob.Sob.{Sob}
use Rattle.sym_objects.specs.Seen.{SobsSeen, IsLive, IsWhole, stands_for}
use Rattle.gl_logic.specs.Assignments.{value_at}
use Rattle.gl_logic.specs.IsTermOf.{AreTermsOf, IsTermOf, arity_in}
use Rattle.gl_logic.specs.PrimValue.{prim_arity}
use Rattle.gl_logic.specs.TermOf.{term_of, terms_of}
use Rattle.gl_interp.specs.declared.frame.Path.{Path}
use Rattle.gl_interp.specs.declared.frame.Work.{Work}
use Rattle.gl_interp.specs.declared.frame.Work.TheVariants as work
use Rattle.gl_interp.specs.declared.frame.Frame.{Frame}
use Rattle.gl_interp.specs.declared.frame.Frame.TheVariants as frame
use Rattle.gl_interp.specs.declared.frame.Focus.{Focus}
use Rattle.gl_interp.specs.declared.frame.Focus.TheVariants as focus
use Rattle.gl_interp.specs.Envs.{AllBelow, EnvsBelow, EnvsKept}
use Rattle.gl_interp.specs.Environments.{objects_of}
use Rattle.gl_interp.specs.Walking.{At, FocusMakes, reached}

-- the interpreter under an assignment
abbrev pub at : {B : Type 0} → Ghosts B → List Definition → ℕ → SobsSeen B → List (List (ℕ × Sob)) → (ℕ → Bool) → At
at g ds k s envs a = record {
  definitions = ds;
  more = k;
  truth = λ e. g.truth_of s.store e a;
  of = λ x. stands_for g s x a;
  env = λ i. objects_of (λ x. stands_for g s x a) (get_or envs i []);
}

-- ---- live: edges, the first n nodes, the first m environments
abbrev pub FrameLive : (Edge → Type 0) → ℕ → ℕ → Frame → Type 0
FrameLive live n m (frame.Test a b env k) = env.number < m
FrameLive live n m (frame.Other c b env k saved rest) = live c × (env.number < m) × live saved × live rest.edge
FrameLive live n m (frame.Join c x saved) = live c × (x.number < n) × live saved.edge
FrameLive live n m (frame.Arguments w done ts env k) = AllBelow n done.items × (env.number < m) × (length done.items < length ts.now)

abbrev pub FramesLive : (Edge → Type 0) → ℕ → ℕ → List Frame → Type 0
FramesLive live n m [] = Unit {0}
FramesLive live n m (f ∷ fs) = FrameLive live n m f × FramesLive live n m fs

abbrev pub FocusLive : ℕ → ℕ → Focus → Type 0
FocusLive n m (focus.Visit t env k) = env.number < m
FocusLive n m (focus.Next w done ts env k) = AllBelow n done.items × (env.number < m) × (length done.items ≤ length ts.now)
FocusLive n m (focus.Run w args env k) = AllBelow n args.items × (env.number < m)
FocusLive n m (focus.Give x) = x.number < n

-- ---- paths
-- the edge is true where the path to the whole is and this is
pub record IsPath (truth : Edge → (ℕ → Bool) → Bool) (start : Edge) (here : (ℕ → Bool) → Bool) (path : Edge) : Type 0 where
  pub says : (a : ℕ → Bool) → truth path a ≡ (truth start a && here a)

-- the assignment has so many values, and makes the edge true
pub record IsWitness (truth : Edge → (ℕ → Bool) → Bool) (width : ℕ) (edge : Edge) (found : List Bool) : Type 0 where
  pub count : length found ≡ width
  pub reaches : truth edge (value_at found) ≡ true

-- the path's assignment, where one is known, is a witness of its edge
abbrev pub IsWitnessed : (Edge → (ℕ → Bool) → Bool) → ℕ → Path → Type 0
IsWitnessed truth width path = IfSome path.found (λ w. IsWitness truth width path.edge w)

abbrev pub reach : (Edge → (ℕ → Bool) → Bool) → List Frame → (ℕ → Bool) → Bool
reach truth fs a = reached (λ e. truth e a) fs

abbrev pub PathsRight : (Edge → (ℕ → Bool) → Bool) → ℕ → Edge → List Frame → Type 0
PathsRight truth width start [] = Unit {0}
PathsRight truth width start (frame.Other c b env k saved rest ∷ fs) = IsPath truth start (reach truth fs) saved × IsPath truth start (λ a. reach truth fs a && not (truth c a)) rest.edge × IsWitnessed truth width rest × PathsRight truth width start fs
PathsRight truth width start (frame.Join c x saved ∷ fs) = IsPath truth start (reach truth fs) saved.edge × IsWitnessed truth width saved × PathsRight truth width start fs
PathsRight truth width start (frame.Test a b env k ∷ fs) = PathsRight truth width start fs
PathsRight truth width start (frame.Arguments w done ts env k ∷ fs) = PathsRight truth width start fs

-- where no definition may be opened any more, the path of a call has an assignment
abbrev pub IsAsked : Work → ℕ → Path → Type 0
IsAsked (work.Call f) n path = n ≡ 0 → IsSome path.found
IsAsked w n path = Unit {0}

-- a live object is given
abbrev pub IsGiven : {B : Type 0} → SobsSeen B → Focus → Type 0
IsGiven s (focus.Give x) = IsLive s x
IsGiven s _ = ⊥

-- ---- the interpreter may take a turn
pub record Ready {B : Type 0} (g : Ghosts B) (s : SobsSeen B) (bindings : List (List (ℕ × Sob))) (start : Edge) (path : Path) (fs : List Frame) (f : Focus) : Type 0 where
  pub whole : IsWhole g s
  pub envs : EnvsBelow (length s.nodes) bindings
  pub some_env : 0 < length bindings
  pub start_live : g.live s.store start
  pub path_live : g.live s.store path.edge
  pub frames : FramesLive (g.live s.store) (length s.nodes) (length bindings) fs
  pub focus : FocusLive (length s.nodes) (length bindings) f
  pub is_path : IsPath (g.truth_of s.store) start (reach (g.truth_of s.store) fs) path.edge
  pub witnessed : IsWitnessed (g.truth_of s.store) (g.width_of s.store) path
  pub paths : PathsRight (g.truth_of s.store) (g.width_of s.store) start fs

-- a turn: the frames make what they made before
pub record Turn {B : Type 0} (g : Ghosts B) (ds : List Definition) (start : Edge) (old : SobsSeen B) (es : List (List (ℕ × Sob))) (fs : List Frame) (f : Focus) (new : SobsSeen B) (later : List (List (ℕ × Sob))) (onward : Path) (hs : List Frame) (h : Focus) : Type 0 where
  pub envs_kept : EnvsKept es later
  pub ready : Ready g new later start onward hs h
  pub makes : (k : ℕ) (a : ℕ → Bool) (whole : Option Walk) → g.truth_of old.store start a ≡ true → FocusMakes (at g ds k old es a) fs whole f → FocusMakes (at g ds k new later a) hs whole h

-- a turn that may take the value from elsewhere: the frames make what they made before, or there is no whole within the clock
pub record Turns {B : Type 0} (g : Ghosts B) (ds : List Definition) (start : Edge) (old : SobsSeen B) (es : List (List (ℕ × Sob))) (fs : List Frame) (f : Focus) (new : SobsSeen B) (later : List (List (ℕ × Sob))) (onward : Path) (hs : List Frame) (h : Focus) : Type 0 where
  pub envs_kept : EnvsKept es later
  pub ready : Ready g new later start onward hs h
  pub makes : (k : ℕ) (a : ℕ → Bool) (whole : Option Walk) → g.truth_of old.store start a ≡ true → FocusMakes (at g ds k old es a) fs whole f → FocusMakes (at g ds k new later a) hs whole h ⊎ (whole ≡ None)

-- ---- terms
-- what is done with so many arguments
abbrev pub IsWorkOf : List Definition → ℕ → Work → Type 0
IsWorkOf ds n (work.Prim p) = prim_arity p ≡ n
IsWorkOf ds n (work.Call f) = arity_in ds f.number ≡ Some n
IsWorkOf ds n (work.Let names b) = (length names.now ≡ n) × IsTermOf ds (term_of b.now)

abbrev pub IsFrameOf : List Definition → Frame → Type 0
IsFrameOf ds (frame.Test a b env k) = IsTermOf ds (term_of a.now) × IsTermOf ds (term_of b.now)
IsFrameOf ds (frame.Other c b env k saved rest) = IsTermOf ds (term_of b.now)
IsFrameOf ds (frame.Join c x saved) = Unit {0}
IsFrameOf ds (frame.Arguments w done ts env k) = IsWorkOf ds (length ts.now) w × AreTermsOf ds (terms_of ts.now)

abbrev pub AreFramesOf : List Definition → List Frame → Type 0
AreFramesOf ds [] = Unit {0}
AreFramesOf ds (f ∷ fs) = IsFrameOf ds f × AreFramesOf ds fs

abbrev pub IsFocusOf : List Definition → Focus → Type 0
IsFocusOf ds (focus.Visit t env k) = IsTermOf ds (term_of t.now)
IsFocusOf ds (focus.Next w done ts env k) = IsWorkOf ds (length ts.now) w × AreTermsOf ds (terms_of ts.now)
IsFocusOf ds (focus.Run w args env k) = IsWorkOf ds (length args.items) w
IsFocusOf ds (focus.Give x) = Unit {0}

-- all terms that are left to do are terms of the definitions
pub record AreTerms (ds : List Definition) (fs : List Frame) (f : Focus) : Type 0 where
  pub frames : AreFramesOf ds fs
  pub focus : IsFocusOf ds f
