-- The forms that a text spells, and how it ends.
use Rattle.std.specs.Prelude.{◌≡◌, ℕ, Bool, true, false, List, [], ◌∷◌}
use Rattle.gl_logic.specs.Object.{Object}
use Rattle.sexp_reader.specs.declared.place.Place.{Place}
use Rattle.sexp_reader.specs.declared.list.Form.{Form}
use Rattle.sexp_reader.specs.declared.ends.ReadCode.{ReadCode}
use Rattle.sexp_reader.specs.declared.ends.End.{End}
use Rattle.sexp_reader.specs.declared.ends.End.TheVariants.{Clean, Bad}
use Rattle.sexp_reader.specs.declared.lexeme.Piece.{Piece}
use Rattle.sexp_reader.specs.declared.lexeme.Piece.TheVariants.{Ended, Gap}
use Rattle.sexp_reader.specs.Places.{first_place}
use Rattle.sexp_reader.specs.Pieces.{first_piece}
use Rattle.sexp_reader.specs.Grammar as grammar
use Rattle.sexp_reader.specs.Grammar.{Spot, past, Got, Fault, Gives}

abbrev pub form_at : Place → Object → Form
form_at place object = record { tree = object; line = place.line; column = place.column }

abbrev pub bad_at : Place → ReadCode → End
bad_at place code = Bad place.line place.column code

-- whether something stands here, and no gap
abbrev pub is_shown : Piece → Bool
is_shown Ended = false
is_shown (Gap count) = false
is_shown piece = true

-- a text from a spot on: gaps, forms with their places, and the end; or the first fault
pub data ReadsFrom (names : List (List ℕ)) : Spot → List Form → End → Type 0 where
  ended : (spot : Spot) → first_piece spot.bytes ≡ Ended → ReadsFrom names spot [] Clean
  gap : (spot : Spot) (count : ℕ) (forms : List Form) (end : End) → first_piece spot.bytes ≡ Gap count
      → ReadsFrom names (past spot count) forms end → ReadsFrom names spot forms end
  form : (spot next : Spot) (object : Object) (forms : List Form) (end : End) → is_shown (first_piece spot.bytes) ≡ true
      → Gives names grammar.Form 0 spot (Got object next) → ReadsFrom names next forms end → ReadsFrom names spot (form_at spot.place object ∷ forms) end
  fault : (spot : Spot) (place : Place) (code : ReadCode) → is_shown (first_piece spot.bytes) ≡ true
      → Gives names grammar.Form 0 spot (Fault place code) → ReadsFrom names spot [] (bad_at place code)

abbrev pub start : List ℕ → Spot
start bytes = record { place = first_place; bytes = bytes }

-- the forms of a text before its first fault, their symbols and strings numbered by a table of texts, and the text's end
abbrev pub Reads : List (List ℕ) → List ℕ → List Form → End → Type 0
Reads names bytes forms end = ReadsFrom names (start bytes) forms end
