-- What the steps of a decision leave and answer.
use Rattle.std.specs.Prelude.{◌≡◌, ℕ, Bool, true, false, not, List}
use Rattle.bfr_store.specs.declared.edge.Edge.{Edge}
use Rattle.bfr_store.specs.declared.meaning.Meaning.{Ghosts}
use Rattle.gl_logic.specs.Evaluate.{HasValue}
use Rattle.gl_logic.specs.Exp.{Exp}
use Rattle.gl_logic.specs.Object.{Object, nil}
use Rattle.gl_logic.specs.ObjectEq.{is_nil}
use Rattle.gl_logic.specs.WorldSeen.{WorldSeen}
use Rattle.shape_spec.specs.declared.theorem.Part.TheVariants.{Hyp, Concl}
use Rattle.shape_spec.specs.declared.theorem.Thm.{Thm}
use Rattle.sym_objects.specs.declared.sob.Sob.{Sob}
use Rattle.sym_objects.specs.Seen.{SobsSeen}
use Rattle.gl_interp.specs.Environments.{AreLive, env_under}
use Rattle.gl_symbolic.specs.Theorems.{term_at, input_under, Meets}

-- the term has a value, and this tells whether it is other than NIL
pub record IsTold (w : WorldSeen) (t : Exp) (env : List (ℕ × Object)) (met : Bool) : Type 0 where
  pub value : Object
  pub has : HasValue w.definitions env t value
  pub is : met ≡ not (is_nil value)

-- the edge tells, under each assignment of the path, whether the term's value is other than NIL
pub record IsCondition {B : Type 0} (g : Ghosts B) (old new : SobsSeen B) (w : WorldSeen) (t : Exp) (env : List (ℕ × Sob)) (path e : Edge) : Type 0 where
  pub live : g.live new.store e
  pub told : (a : ℕ → Bool) → g.truth_of old.store path a ≡ true → IsTold w t (env_under g old env a) (g.truth_of new.store e a)

-- the edge tells, under each assignment, whether its input meets the hypothesis
pub record IsHypothesis {B : Type 0} (g : Ghosts B) (s : SobsSeen B) (w : WorldSeen) (thm : Thm) (e : Edge) : Type 0 where
  pub live : g.live s.store e
  pub told : (a : ℕ → Bool) → IsTold w (term_at thm Hyp) (input_under thm a) (g.truth_of s.store e a)

-- the environment stands, under each assignment of the path, for its input
pub record StandsUnder {B : Type 0} (g : Ghosts B) (s : SobsSeen B) (thm : Thm) (path : Edge) (env : List (ℕ × Sob)) : Type 0 where
  pub live : AreLive s env
  pub input : (a : ℕ → Bool) → g.truth_of s.store path a ≡ true → env_under g s env a ≡ input_under thm a

-- the edge is true exactly under the assignments whose inputs meet the hypothesis and make the conclusion NIL
pub record IsRefutation {B : Type 0} (g : Ghosts B) (s : SobsSeen B) (w : WorldSeen) (thm : Thm) (e : Edge) : Type 0 where
  pub live : g.live s.store e
  pub meets : (a : ℕ → Bool) → g.truth_of s.store e a ≡ true → Meets w thm Hyp a
  pub fails : (a : ℕ → Bool) → g.truth_of s.store e a ≡ true → HasValue w.definitions (input_under thm a) (term_at thm Concl) nil
  pub holds : (a : ℕ → Bool) → g.truth_of s.store e a ≡ false → Meets w thm Hyp a → Meets w thm Concl a
