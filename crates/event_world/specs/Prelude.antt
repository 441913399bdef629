-- The world that every book begins with.
use Rattle.std.specs.Prelude.{◌≡◌, ℕ, List, [], length, None, Some, slice_get, Ok, IfSome, replicate}
use Rattle.gl_logic.specs.Definition.{Definition}
use Rattle.gl_logic.specs.IsGround.{AreGround}
use Rattle.gl_logic.specs.Named.{place_of}
use Rattle.gl_logic.specs.WorldSeen.{WorldSeen, definition_names}
use Rattle.admission.specs.Admitted.{verdict}
use Rattle.event_world.specs.Suits.{HasAllGround}
use Rattle.event_world.specs.PreludeTexts.{ground_names, ground_formals}
use Rattle.event_world.specs.PreludeForms.{AreSpelled}

-- the ground definitions under their names, each a clique of its own with the measure that admission answers, and nothing else
pub record IsPrelude (names : List (List ℕ)) (w : WorldSeen) : Type 0 where
  pub same_ground : AreGround w.definitions
  pub all : HasAllGround w
  pub count : length w.definitions ≡ 43
  pub named : (i : ℕ) (d : Definition) → slice_get w.definitions i ≡ Some d → slice_get names d.name ≡ slice_get ground_names i
  pub found : (i name : ℕ) (text : List ℕ) → slice_get ground_names i ≡ Some text → slice_get names name ≡ Some text → place_of (definition_names w.definitions) name ≡ Some i
  pub variables : (i : ℕ) (d : Definition) → slice_get w.definitions i ≡ Some d → IfSome (slice_get ground_formals i) (AreSpelled names d.formals)
  pub measured : (i : ℕ) (d : Definition) → slice_get w.definitions i ≡ Some d → verdict i d.formals d.body None ≡ Ok d.measure
  pub cliques : w.cliques ≡ replicate 43 1
  pub constants : w.constants ≡ []
  pub events : w.events ≡ []
