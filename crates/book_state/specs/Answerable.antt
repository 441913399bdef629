-- Events that can be answered.
use Rattle.std.specs.Prelude.{ℕ, ◌<◌, ◌≤◌, List, length, All}
use Rattle.gl_logic.specs.Definition.{Definition}
use Rattle.gl_logic.specs.Every.{Every}
use Rattle.gl_logic.specs.IsTermOf.{IsTermOf}
use Rattle.coverage.specs.Sound.{AllAreBound}
use Rattle.event_world.specs.EventSeen.{TheoremSeen, EventSeen, Defconst, Value, Assert, Memoize, Unmemoize, Theorem, Cases}
use Rattle.gl_cases.specs.Parts.{ParamSeen, IsByCases}

-- its terms and its functions are the world's, and the bindings have all variables of its terms
pub record IsReadyTheorem (definitions : List Definition) (thm : TheoremSeen) : Type 0 where
  pub hyp : IsTermOf definitions thm.hyp
  pub concl : IsTermOf definitions thm.concl
  pub functions : All (λ f. f < length definitions) thm.memoized
  pub bound : AllAreBound thm.hyp thm.concl thm.bindings

-- each part is ready, and the parts belong together
pub record IsReadyParam (definitions : List Definition) (thm : ParamSeen) : Type 0 where
  pub cover : IsReadyTheorem definitions thm.cover
  pub cases : Every (IsReadyTheorem definitions) thm.cases
  pub parts : IsByCases thm
  pub few : length thm.cases ≤ 64

-- the terms and the functions of an event are those of these definitions
abbrev pub IsOfDefinitions : List Definition → EventSeen → Type 0
IsOfDefinitions definitions (Value t) = IsTermOf definitions t
IsOfDefinitions definitions (Defconst name t) = IsTermOf definitions t
IsOfDefinitions definitions (Assert t) = IsTermOf definitions t
IsOfDefinitions definitions (Memoize f) = f < length definitions
IsOfDefinitions definitions (Unmemoize f) = f < length definitions
IsOfDefinitions definitions (Theorem thm) = IsReadyTheorem definitions thm
IsOfDefinitions definitions (Cases thm) = IsReadyParam definitions thm
IsOfDefinitions definitions _ = Unit {0}

-- and so are the functions whose calls are kept at its place
pub record IsAnswerable (definitions : List Definition) (memoized : List ℕ) (e : EventSeen) : Type 0 where
  pub functions : All (λ f. f < length definitions) memoized
  pub event : IsOfDefinitions definitions e
