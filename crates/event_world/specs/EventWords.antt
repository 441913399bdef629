-- Heads of forms.
use Rattle.std.specs.Prelude.{ℕ, List, Option, Some, None}
use Rattle.gl_logic.specs.Object.{Object, Symbol, Cons}
use Rattle.gl_logic.specs.Wording.{text_of}

-- the text of the symbol at the head
abbrev pub word_of : List (List ℕ) → Object → Option (List ℕ)
word_of names (Cons (Symbol t) rest) = Some (text_of names t)
word_of names _ = None

-- what stands behind the head
abbrev pub behind_head : Object → Object
behind_head (Cons head rest) = rest
behind_head x = x
