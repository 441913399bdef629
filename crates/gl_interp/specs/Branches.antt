-- The branches of a test that a path reaches.
use Rattle.std.specs.Prelude.{ℕ, Bool, true, false, not, ◌&&◌, ◌≡◌}
use Rattle.bfr_store.specs.declared.edge.Edge.{Edge}
use Rattle.bfr_store.specs.declared.meaning.Meaning.{Ghosts}
use Rattle.sym_objects.specs.Seen.{SobsSeen}
use Rattle.gl_interp.specs.declared.frame.Path.{Path}
use Rattle.gl_interp.specs.declared.results.Branches.{Branches}
use Rattle.gl_interp.specs.declared.results.Branches.TheVariants as branches
use Rattle.gl_interp.specs.Running.{IsWitnessed}

-- a path's part: its edge is true where the path's edge is and this is
pub record IsPartOf {B : Type 0} (g : Ghosts B) (old new : SobsSeen B) (path : Edge) (side : (ℕ → Bool) → Bool) (onward : Path) : Type 0 where
  pub live : g.live new.store onward.edge
  pub says : (a : ℕ → Bool) → g.truth_of new.store onward.edge a ≡ (g.truth_of old.store path a && side a)
  pub is_witnessed : IsWitnessed (g.truth_of new.store) (g.width_of new.store) onward

-- an edge of a path's part: it is true where the path's edge is and this is
pub record IsPartEdge {B : Type 0} (g : Ghosts B) (old new : SobsSeen B) (path : Edge) (side : (ℕ → Bool) → Bool) (edge : Edge) : Type 0 where
  pub live : g.live new.store edge
  pub says : (a : ℕ → Bool) → g.truth_of new.store edge a ≡ (g.truth_of old.store path a && side a)

-- the same path: its edge is true where the path's edge was
pub record IsAgain {B : Type 0} (g : Ghosts B) (old new : SobsSeen B) (path onward : Path) : Type 0 where
  pub live : g.live new.store onward.edge
  pub says : (a : ℕ → Bool) → g.truth_of new.store onward.edge a ≡ g.truth_of old.store path.edge a
  pub is_witnessed : IsWitnessed (g.truth_of new.store) (g.width_of new.store) onward

-- no assignment makes both edges true
abbrev pub IsUnreached : {B : Type 0} → Ghosts B → SobsSeen B → Edge → Edge → Type 0
IsUnreached g s path test = (a : ℕ → Bool) → (g.truth_of s.store path a && g.truth_of s.store test a) ≡ false

-- the test is true, or false, wherever the path is; or both parts are reached
abbrev pub IsSplit : {B : Type 0} → Ghosts B → SobsSeen B → SobsSeen B → Edge → Edge → Branches → Type 0
IsSplit g old new path test branches.First = (a : ℕ → Bool) → g.truth_of old.store path a ≡ true → g.truth_of old.store test a ≡ true
IsSplit g old new path test branches.Second = (a : ℕ → Bool) → g.truth_of old.store path a ≡ true → g.truth_of old.store test a ≡ false
IsSplit g old new path test (branches.Both first second) = IsPartOf g old new path (g.truth_of old.store test) first × IsPartOf g old new path (λ a. not (g.truth_of old.store test a)) second
