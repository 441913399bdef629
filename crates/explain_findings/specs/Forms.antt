-- The words of forms.
use Rattle.std.specs.Prelude.{ℕ, List, [], Option, Some, None}
use Rattle.gl_logic.specs.Object.{Object, Symbol, Cons}
use Rattle.gl_logic.specs.Wording.{text_of}

-- the text of a symbol, and nothing of another object
abbrev pub word_of : List (List ℕ) → Object → List ℕ
word_of names (Symbol t) = text_of names t
word_of names _ = []

-- the word with which a form begins
abbrev pub head_of : List (List ℕ) → Object → List ℕ
head_of names (Cons k rest) = word_of names k
head_of names _ = []

-- the symbol behind the head of a form
abbrev pub name_in : Object → Option ℕ
name_in (Cons k (Cons (Symbol t) rest)) = Some t
name_in _ = None
