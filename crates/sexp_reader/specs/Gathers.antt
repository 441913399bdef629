-- The texts that a table gathers where a text is read.
use Rattle.std.specs.Prelude.{◌≡◌, ◌⊎◌, ℕ, List, length, drop, Option, Some, None, All}
use Rattle.gl_logic.specs.Names.{with_name, Extends}
use Rattle.gl_logic.specs.Numbered.{IsNumbered}
use Rattle.sexp_reader.specs.declared.list.Form.{Form}
use Rattle.sexp_reader.specs.declared.ends.End.{End}
use Rattle.sexp_reader.specs.declared.lexeme.Lexeme.{Lexeme}
use Rattle.sexp_reader.specs.declared.lexeme.Lexeme.TheVariants as lexeme
use Rattle.sexp_reader.specs.declared.lexeme.Atom.TheVariants as atoms
use Rattle.sexp_reader.specs.declared.lexeme.Piece.{Piece}
use Rattle.sexp_reader.specs.declared.lexeme.Piece.TheVariants.{Part}
use Rattle.sexp_reader.specs.Pieces.{first_piece, count_of}
use Rattle.sexp_reader.specs.Grammar.{mark_text}
use Rattle.sexp_reader.specs.Reads.{Reads}

-- the text of a symbol, of a string, or of the symbol that a prefix stands for
abbrev pub text_of : Lexeme → Option (List ℕ)
text_of (lexeme.Prefix mark) = Some (mark_text mark)
text_of (lexeme.Atom (atoms.Symbol text)) = Some text
text_of (lexeme.Atom (atoms.String text)) = Some text
text_of what = None

-- the texts after this one was asked for, where there is one
abbrev pub with_text : List (List ℕ) → Option (List ℕ) → List (List ℕ)
with_text names None = names
with_text names (Some text) = with_name names text

-- the texts after a piece: that of a lexeme comes last where it is new
abbrev pub with_piece : List (List ℕ) → Piece → List (List ℕ)
with_piece names (Part count what) = with_text names (text_of what)
with_piece names piece = names

-- from a table on, the texts of the lexemes of these bytes come behind it one after the other, up to some place
pub data Gathers : List ℕ → List (List ℕ) → List (List ℕ) → Type 0 where
  stopped : (bytes : List ℕ) (names : List (List ℕ)) → Gathers bytes names names
  further : (bytes : List ℕ) (count : ℕ) (names later : List (List ℕ)) → count_of (first_piece bytes) ≡ Some count
      → Gathers (drop count bytes) (with_piece names (first_piece bytes)) later → Gathers bytes names later

-- each symbol and string of a text's forms has a number
abbrev pub Numbers : List (List ℕ) → List ℕ → Type 0
Numbers names bytes = (forms : List Form) (end : End) → Reads names bytes forms end → All (λ form. IsNumbered (length names) form.tree) forms

-- a table of a text, from a first one on: that one, behind it the texts of the lexemes as far as the forms need them, and then maybe others
pub record IsTableOf (bytes : List ℕ) (first names : List (List ℕ)) : Type 0 where
  pub front : List (List ℕ)
  pub gathers : Gathers bytes first front
  pub numbers : Numbers front bytes
  pub extends : Extends front names

-- ---- one lexeme, and one piece: its text was asked for, or nothing was
abbrev pub Adds : Option (List ℕ) → List (List ℕ) → List (List ℕ) → Type 0
Adds (Some text) old new = (new ≡ old) ⊎ (new ≡ with_name old text)
Adds None old new = new ≡ old

abbrev pub AddsPiece : Piece → List (List ℕ) → List (List ℕ) → Type 0
AddsPiece (Part count what) old new = Adds (text_of what) old new
AddsPiece piece old new = new ≡ old
