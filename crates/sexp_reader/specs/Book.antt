-- What the refusal of a book that is too long says of its bytes.
use Rattle.std.specs.Prelude.{◌≡◌, ◌<◌, List, ℕ, length, take, Option, IfSome}
use Rattle.sexp_reader.specs.declared.book.ReadEnd.{ReadEnd}
use Rattle.sexp_reader.specs.declared.book.ReadEnd.TheVariants.{TooLong}
use Rattle.sexp_reader.specs.Places.{behind, first_place}

-- the text has more bytes than the limit, and the first of the others stands at this place
abbrev pub IsBeyond : ℕ → List ℕ → ℕ → ℕ → Type 0
IsBeyond limit text line column = (limit < length text) × (behind first_place (take limit text) ≡ record { line = line; column = column })

-- so it is of some text, which is the shelf's where that is told
abbrev pub IsLongAt : ℕ → Option (List ℕ) → ReadEnd → Type 0
IsLongAt limit told (TooLong line column) = (text : List ℕ) × IfSome told (λ bytes. text ≡ bytes) × IsBeyond limit text line column
IsLongAt limit told _ = Unit {0}
