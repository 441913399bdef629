-- The table of texts that every book begins with.
use Rattle.std.specs.Prelude.{ℕ, List, [], ◌∷◌, fold}
use Rattle.gl_logic.specs.Names.{with_name, first_names}
use Rattle.event_world.specs.PreludeTexts.{ground_words}

-- a table with the empty text and the words of the ground definitions
abbrev pub with_ground_words : List (List ℕ) → List (List ℕ)
with_ground_words names = fold with_name names ([] ∷ ground_words)

-- NIL, T and the two marks, the empty text, and the words of the ground definitions
abbrev pub opening_names : List (List ℕ)
opening_names = with_ground_words first_names
