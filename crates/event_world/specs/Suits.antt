-- What an accepted event is in its world.
use Rattle.std.specs.Prelude.{◌≡◌, ◌<◌, ◌≤◌, ℕ, true, false, eqb, List, [], ◌∷◌, ◌++◌, length}
use Rattle.std.specs.List.{list_any}
use Rattle.gl_logic.specs.Exp.{Exp}
use Rattle.gl_logic.specs.Every.{Every}
use Rattle.gl_logic.specs.Definition.{Definition}
use Rattle.gl_logic.specs.Ground.{ground}
use Rattle.gl_logic.specs.IsTermOf.{IsTermOf}
use Rattle.gl_logic.specs.IsAdmissible.{IsAdmissible}
use Rattle.gl_logic.specs.FreeVariables.{is_free_in}
use Rattle.gl_logic.specs.Named.{IsFree, AreDifferentNames, names_of}
use Rattle.gl_logic.specs.WorldSeen.{WorldSeen, IsClique, definition_names}
use Rattle.shape_spec.specs.Indices.{variables_of}
use Rattle.event_world.specs.EventSeen.{TheoremSeen, EventSeen, Defun, Defconst, Value, Assert, Memoize, Unmemoize, Theorem, Cases, Clique}
use Rattle.gl_cases.specs.Parts.{ParamSeen, IsByCases}

-- all ground definitions are there
abbrev pub HasAllGround : WorldSeen → Type 0
HasAllGround w = length ground ≤ length w.definitions

-- a term of the world without variables
pub record IsClosedTerm (w : WorldSeen) (t : Exp) : Type 0 where
  pub term : IsTermOf w.definitions t
  pub closed : (v : ℕ) → is_free_in t v ≡ false

-- no definition, no constant and no noted event has the name
pub record IsNewName (w : WorldSeen) (name : ℕ) : Type 0 where
  pub definition : IsFree (definition_names w.definitions) name
  pub constant : IsFree (names_of w.constants) name
  pub event : IsFree (names_of w.events) name

-- a definition that may be pushed and noted
pub record IsNewDefinition (w : WorldSeen) (d : Definition) : Type 0 where
  pub name : IsNewName w d.name
  pub formals : AreDifferentNames d.formals
  pub body : IsTermOf (w.definitions ++ d ∷ []) d.body
  pub admissible : IsAdmissible (length w.definitions) (d ∷ [])

-- definitions that may be pushed as a clique, and noted one after the other
pub record IsNewClique (w : WorldSeen) (ds : List Definition) : Type 0 where
  pub some : 0 < length ds
  pub names : Every (IsNewName w) (definition_names ds)
  pub different : AreDifferentNames (definition_names ds)
  pub clique : HasAllGround w → IsClique w.definitions ds

-- a theorem that may be noted and decided
pub record IsNewTheorem (w : WorldSeen) (thm : TheoremSeen) : Type 0 where
  pub name : IsNewName w thm.name
  pub hyp : IsTermOf w.definitions thm.hyp
  pub concl : IsTermOf w.definitions thm.concl
  pub hyp_bound : (v : ℕ) → is_free_in thm.hyp v ≡ true → list_any (eqb v) (variables_of thm.bindings) ≡ true
  pub concl_bound : (v : ℕ) → is_free_in thm.concl v ≡ true → list_any (eqb v) (variables_of thm.bindings) ≡ true

-- a theorem by cases that may be noted and decided
pub record IsNewParam (w : WorldSeen) (thm : ParamSeen) : Type 0 where
  pub cover : IsNewTheorem w thm.cover
  pub cases : Every (IsNewTheorem w) thm.cases
  pub parts : IsByCases thm
  pub few : length thm.cases ≤ 64

abbrev pub Suits : WorldSeen → EventSeen → Type 0
Suits w (Defun d) = IsNewDefinition w d
Suits w (Clique ds) = IsNewClique w ds
Suits w (Defconst name t) = IsNewName w name × IsClosedTerm w t
Suits w (Value t) = IsClosedTerm w t
Suits w (Assert t) = IsClosedTerm w t
Suits w (Memoize f) = f < length w.definitions
Suits w (Unmemoize f) = f < length w.definitions
Suits w (Theorem thm) = IsNewTheorem w thm
Suits w (Cases thm) = IsNewParam w thm
Suits w _ = Unit {0}
