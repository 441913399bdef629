-- Worlds.
use Rattle.std.specs.Prelude.{◌≡◌, ℕ, ◌+◌, List, [], ◌∷◌, ◌++◌, map, length, Some, slice_get, refl}
use Rattle.std.specs.Coded.{Coded, code_by, coded×, coded_ℕ, coded_list}
use Rattle.gl_logic.specs.Object.{Object, coded_object}
use Rattle.gl_logic.specs.Definition.{Definition, coded_definition}
use Rattle.gl_logic.specs.IsTermOf.{IsTermOf}
use Rattle.gl_logic.specs.IsGround.{IsGround}
use Rattle.gl_logic.specs.IsAdmissible.{IsAdmissible}
use Rattle.gl_logic.specs.Named.{AreDifferentNames}

-- the definitions in their order, how many members each clique of them has, the constants, and the accepted named events with their forms. A clique is a group of consecutive definitions that were added together
pub record WorldSeen : Type 0 where
  pub definitions : List Definition
  pub cliques : List ℕ
  pub constants : List (ℕ × Object)
  pub events : List (ℕ × Object)

abbrev pub definition_names : List Definition → List ℕ
definition_names definitions = map (λ d. d.name) definitions

-- what definition i of these is: its formals are different, its body is a term of them, and where there is a ground definition of its number it is that one but for names
pub record IsDefinitionOf (definitions : List Definition) (i : ℕ) (d : Definition) : Type 0 where
  pub formals : AreDifferentNames d.formals
  pub body : IsTermOf definitions d.body
  pub same_ground : IsGround i d

-- what a clique is behind the definitions before it: its members call those and one another, and each recursive call is a step
pub record IsClique (earlier members : List Definition) : Type 0 where
  pub each : (k : ℕ) (d : Definition) → slice_get members k ≡ Some d → IsDefinitionOf (earlier ++ members) (length earlier + k) d
  pub admissible : IsAdmissible (length earlier) members

-- ---- a world's definitions are cliques, one behind the other
abbrev pub AreCliques : List Definition → List (List Definition) → Type 0
AreCliques earlier [] = Unit {0}
AreCliques earlier (members ∷ groups) = IsClique earlier members × AreCliques (earlier ++ members) groups

abbrev pub all_members : List (List Definition) → List Definition
all_members [] = []
all_members (members ∷ groups) = members ++ all_members groups

pub record IsWorld (definitions : List Definition) (counts : List ℕ) : Type 0 where
  pub groups : List (List Definition)
  pub all : all_members groups ≡ definitions
  pub counted : map length groups ≡ counts
  pub cliques : AreCliques [] groups

-- ---- one more of each
abbrev pub with_clique : WorldSeen → List Definition → WorldSeen
with_clique w members = record w { definitions = w.definitions ++ members; cliques = w.cliques ++ length members ∷ [] }

abbrev pub with_definition : WorldSeen → Definition → WorldSeen
with_definition w d = with_clique w (d ∷ [])

abbrev pub with_constant : WorldSeen → ℕ → Object → WorldSeen
with_constant w name x = record w { constants = w.constants ++ (name, x) ∷ [] }

abbrev pub with_event : WorldSeen → ℕ → Object → WorldSeen
with_event w name form = record w { events = w.events ++ (name, form) ∷ [] }

-- ---- the code
abbrev pub coded_named : Coded (List (ℕ × Object))
coded_named = coded_list (coded× coded_ℕ coded_object)

abbrev pub coded_world : Coded WorldSeen
coded_world =
    code_by (List Definition × (List ℕ × (List (ℕ × Object) × List (ℕ × Object)))) (coded× (coded_list coded_definition) (coded× (coded_list coded_ℕ) (coded× coded_named coded_named))) (λ w. (w.definitions, (w.cliques, (w.constants, w.events)))) (λ p. record { definitions = p.0; cliques = p.1.0; constants = p.1.1.0; events = p.1.1.1 }) (λ _. refl)
