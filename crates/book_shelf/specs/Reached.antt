-- The texts that a book may lead to.
use Rattle.std.specs.Prelude.{◌≡◌, ℕ, List, ◌∷◌, ◌++◌, Option, Some, IfSome}
use Rattle.gl_logic.specs.Names.{Extends}
use Rattle.sexp_reader.specs.declared.list.Form.{Form}
use Rattle.sexp_reader.specs.declared.ends.End.{End}
use Rattle.sexp_reader.specs.Reads.{Reads}
use Rattle.book_shelf.specs.Included.{included, text_named}

-- a form of the text with the first name includes the book whose text has the second. Its bytes are the shelf's, where that tells them
pub record Includes (holds : List ℕ → Option (List ℕ)) (outer inner : List ℕ) : Type 0 where
  pub bytes : List ℕ
  pub told : IfSome (holds outer) (λ text. bytes ≡ text)
  pub names : List (List ℕ)
  pub before : List Form
  pub form : Form
  pub after : List Form
  pub end : End
  pub reads : Reads names bytes (before ++ form ∷ after) end
  pub number : ℕ
  pub is : included names form.tree ≡ Some number
  pub named : inner ≡ text_named names number

-- a book's own text, those that it includes, those that these include, and so on
pub data Reached (holds : List ℕ → Option (List ℕ)) : List ℕ → List ℕ → Type 0 where
  own : (book : List ℕ) → Reached holds book book
  through : (book inner other : List ℕ) → Includes holds book inner → Reached holds inner other → Reached holds book other

-- each of them may be opened
abbrev pub MayLoad : (List ℕ → Type 0) → (List ℕ → Option (List ℕ)) → List ℕ → Type 0
MayLoad may holds book = (other : List ℕ) → Reached holds book other → may other

-- those that a form includes may, by each later table
abbrev pub MayFollow : (List ℕ → Type 0) → (List ℕ → Option (List ℕ)) → List (List ℕ) → Form → Type 0
MayFollow may holds table form = (names : List (List ℕ)) → Extends table names → (t : ℕ) → included names form.tree ≡ Some t → MayLoad may holds (text_named names t)
