-- The parts of the ground definitions' texts, and a world that holds the first of them.
use Rattle.std.specs.Prelude.{◌≡◌, ℕ, List, [], ◌∷◌, length, get_or, Some, slice_get, Ok, IfSome, replicate, reverse, None}
use Rattle.gl_logic.specs.Object.{Object, Symbol}
use Rattle.gl_logic.specs.Lists.{elements_of}
use Rattle.gl_logic.specs.Exp.{Exp, Var}
use Rattle.gl_logic.specs.Definition.{Definition}
use Rattle.gl_logic.specs.Ground.{ground}
use Rattle.gl_logic.specs.IsGround.{AreGround}
use Rattle.gl_logic.specs.WorldSeen.{WorldSeen}
use Rattle.admission.specs.Admitted.{verdict}
use Rattle.event_world.specs.PreludeTexts.{ground_texts, ground_names, ground_formals}
use Rattle.event_world.specs.PreludeForms.{Source, Word, Pair, no_more, Spells, AreSpelled, forms_in}

abbrev pub first_of : Source → Source
first_of (Pair a d) = a
first_of _ = no_more

abbrev pub rest_of : Source → Source
rest_of (Pair a d) = d
rest_of _ = no_more

abbrev pub word_of : Source → List ℕ
word_of (Word w) = w
word_of _ = []

abbrev pub words_of : Source → List (List ℕ)
words_of (Pair (Word w) r) = w ∷ words_of r
words_of _ = []

-- ---- name, formals and body of a text
abbrev pub name_in : List ℕ → List ℕ
name_in text = word_of (first_of (forms_in text))

abbrev pub formals_in : List ℕ → List (List ℕ)
formals_in text = words_of (first_of (rest_of (forms_in text)))

abbrev pub body_in : List ℕ → Source
body_in text = first_of (rest_of (rest_of (forms_in text)))

-- the symbols among an object's elements
abbrev pub symbols_among : List Object → List ℕ
symbols_among [] = []
symbols_among (Symbol t ∷ xs) = t ∷ symbols_among xs
symbols_among (_ ∷ xs) = symbols_among xs

abbrev pub symbols_of : Object → List ℕ
symbols_of x = symbols_among (reverse (elements_of x))

-- the parts of definition k, in a table of texts
pub record IsNext (names : List (List ℕ)) (k name : ℕ) (formals : List ℕ) (form : Object) : Type 0 where
  pub text : List ℕ
  pub at : slice_get ground_texts k ≡ Some text
  pub spelled : slice_get names name ≡ Some (name_in text)
  pub variables : AreSpelled names formals (formals_in text)
  pub body : Spells names form (body_in text)

-- the body of definition k, with its formals as places
abbrev pub body_at : ℕ → Exp
body_at k = (get_or ground k (record { arity = 0; body = Var 0 })).body

-- ---- worlds of the first k ground definitions
pub record HoldsFirst (k : ℕ) (names : List (List ℕ)) (w : WorldSeen) : Type 0 where
  pub count : length w.definitions ≡ k
  pub same_ground : AreGround w.definitions
  pub named : (i : ℕ) (d : Definition) → slice_get w.definitions i ≡ Some d → slice_get names d.name ≡ slice_get ground_names i
  pub variables : (i : ℕ) (d : Definition) → slice_get w.definitions i ≡ Some d → IfSome (slice_get ground_formals i) (AreSpelled names d.formals)
  pub measured : (i : ℕ) (d : Definition) → slice_get w.definitions i ≡ Some d → verdict i d.formals d.body None ≡ Ok d.measure
  pub cliques : w.cliques ≡ replicate k 1
  pub constants : w.constants ≡ []
  pub events : w.events ≡ []
