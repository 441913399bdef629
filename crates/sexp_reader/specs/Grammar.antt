-- The grammar of forms, rule by rule.
use Rattle.std.specs.Prelude.{◌≡◌, ℕ, suc, ◌<◌, ◌==◌, nat_lt, Bool, true, false, if◌then◌else◌, List, [], ◌∷◌, take, drop, bytes_eq, codes, Option, Some, None}
use Rattle.std.specs.List.{position_or_len}
use Rattle.gl_logic.specs.Object.{Object, Int, Character, Symbol, Text, Cons, nil}
use Rattle.sexp_reader.specs.declared.place.Place.{Place}
use Rattle.sexp_reader.specs.declared.ends.ReadCode.{ReadCode}
use Rattle.sexp_reader.specs.declared.ends.ReadCode.TheVariants.{EndInside, StrayClose, BadDot, BadByte, TooDeep}
use Rattle.sexp_reader.specs.declared.flaw.Flaw.{Flaw}
use Rattle.sexp_reader.specs.declared.lexeme.Piece.{Piece}
use Rattle.sexp_reader.specs.declared.lexeme.Piece.TheVariants.{Ended, Torn, Gap, Part, Faulty}
use Rattle.sexp_reader.specs.declared.lexeme.Mark.{Mark}
use Rattle.sexp_reader.specs.declared.lexeme.Mark.TheVariants.{Quote, Backquote, Comma}
use Rattle.sexp_reader.specs.declared.lexeme.Lexeme.TheVariants as lexeme
use Rattle.sexp_reader.specs.declared.lexeme.Atom.{Atom}
use Rattle.sexp_reader.specs.declared.lexeme.Atom.TheVariants as atoms
use Rattle.sexp_reader.specs.Places.{behind}
use Rattle.sexp_reader.specs.Pieces.{first_piece}

-- ---- places
-- what is left of a text, and the place of its first byte
pub record Spot : Type 0 where
  pub place : Place
  pub bytes : List ℕ

-- so many bytes further on
abbrev pub past : Spot → ℕ → Spot
past spot count = record { place = behind spot.place (take count spot.bytes); bytes = drop count spot.bytes }

abbrev pub text_end : Spot → Place
text_end spot = behind spot.place spot.bytes

-- ---- objects
-- the number that a table of texts gives to a text
abbrev pub place_in : List (List ℕ) → List ℕ → ℕ
place_in names text = position_or_len (bytes_eq text) names

abbrev pub object_of : List (List ℕ) → Atom → Object
object_of names (atoms.Integer z) = Int z
object_of names (atoms.Character code) = Character code
object_of names (atoms.Symbol text) = Symbol (place_in names text)
object_of names (atoms.String text) = Text (place_in names text)

-- the symbol that a prefix stands for: QUOTE, or one of the two marks, which no token spells
abbrev pub mark_text : Mark → List ℕ
mark_text Quote = codes "QUOTE"
mark_text Backquote = 96 ∷ []
mark_text Comma = 44 ∷ []

-- ---- what reading gives: an object and what is behind it, or the first fault
pub data Outcome : Type 0 where
  Got : Object → Spot → Outcome
  Fault : Place → ReadCode → Outcome

-- a prefix and the form behind it are a list of two: the symbol, and the form
abbrev pub prefixed : ℕ → Object → Object
prefixed symbol object = Cons (Symbol symbol) (Cons object nil)

abbrev pub marked : ℕ → Outcome → Outcome
marked symbol (Got object spot) = Got (prefixed symbol object) spot
marked symbol (Fault place code) = Fault place code

-- an element in front of a list's rest
abbrev pub consed : Object → Outcome → Outcome
consed first (Got rest spot) = Got (Cons first rest) spot
consed first (Fault place code) = Fault place code

-- ---- what is looked for
pub data Goal : Type 0 where
  -- a form
  Form : Goal
  -- the rest of a list, and whether an element stands before it
  Rest : Bool → Goal
  -- what stands behind a dot
  Last : Goal
  -- the end of a list behind its dot and this object
  Closing : Object → Goal

-- whether a form is looked for in a list, where this is next
abbrev pub wants : Goal → Piece → Bool
wants Form piece = false
wants (Closing object) piece = false
wants goal (Gap count) = false
wants goal (Part count lexeme.Close) = false
wants (Rest true) (Part count lexeme.Dot) = false
wants goal piece = true

-- ---- faults
-- 1,000 parentheses and prefixes may stand round one
abbrev pub unless_deep : ℕ → Place → Option Flaw → Option Flaw
unless_deep around place flaw = if nat_lt around 1000 then flaw else Some (record { place = place; code = TooDeep })

-- where a form is looked for
abbrev pub form_flaw : ℕ → Spot → Piece → Option Flaw
form_flaw around spot Ended = Some (record { place = spot.place; code = EndInside })
form_flaw around spot Torn = Some (record { place = text_end spot; code = EndInside })
form_flaw around spot (Gap count) = None
form_flaw around spot (Faulty count code) = Some (record { place = (past spot count).place; code = code })
form_flaw around spot (Part count lexeme.Open) = unless_deep around spot.place None
form_flaw around spot (Part count lexeme.Close) = Some (record { place = spot.place; code = StrayClose })
form_flaw around spot (Part count lexeme.Dot) = Some (record { place = spot.place; code = BadDot })
form_flaw around spot (Part count (lexeme.Prefix mark)) = unless_deep around spot.place None
form_flaw around spot (Part count lexeme.Splice) = unless_deep around spot.place (Some (record { place = (past spot count).place; code = BadByte }))
form_flaw around spot (Part count (lexeme.Atom leaf)) = None

-- where only a closing parenthesis may stand. A fault at the very place of what stands there goes first
abbrev pub closing_flaw : ℕ → Spot → Piece → Option Flaw
closing_flaw around spot Ended = Some (record { place = spot.place; code = EndInside })
closing_flaw around spot Torn = Some (record { place = text_end spot; code = EndInside })
closing_flaw around spot (Gap count) = None
closing_flaw around spot (Faulty count code) = Some (record { place = spot.place; code = if count == 0 then code else BadDot })
closing_flaw around spot (Part count lexeme.Close) = None
closing_flaw around spot (Part count lexeme.Open) = unless_deep around spot.place (Some (record { place = spot.place; code = BadDot }))
closing_flaw around spot (Part count (lexeme.Prefix mark)) = unless_deep around spot.place (Some (record { place = spot.place; code = BadDot }))
closing_flaw around spot (Part count lexeme.Splice) = unless_deep around spot.place (Some (record { place = spot.place; code = BadDot }))
closing_flaw around spot (Part count other) = Some (record { place = spot.place; code = BadDot })

-- behind a dot a form must stand
abbrev pub last_flaw : Spot → Piece → Option Flaw
last_flaw spot (Part count lexeme.Close) = Some (record { place = spot.place; code = BadDot })
last_flaw spot piece = None

abbrev pub flaw_at : Goal → ℕ → Spot → Piece → Option Flaw
flaw_at Form around spot piece = form_flaw around spot piece
flaw_at (Rest some) around spot piece = None
flaw_at Last around spot piece = last_flaw spot piece
flaw_at (Closing object) around spot piece = closing_flaw around spot piece

-- ---- the rules
-- what is looked for, inside so many parentheses and prefixes, from this spot on, gives this outcome
pub data Gives (names : List (List ℕ)) : Goal → ℕ → Spot → Outcome → Type 0 where
  -- white space and comments stand anywhere
  gap : (goal : Goal) (around : ℕ) (spot : Spot) (count : ℕ) (outcome : Outcome) → first_piece spot.bytes ≡ Gap count
      → Gives names goal around (past spot count) outcome → Gives names goal around spot outcome
  -- a form is an atom, or a list, or a prefix and a form
  atom : (around : ℕ) (spot : Spot) (count : ℕ) (leaf : Atom) → first_piece spot.bytes ≡ Part count (lexeme.Atom leaf)
      → Gives names Form around spot (Got (object_of names leaf) (past spot count))
  list : (around : ℕ) (spot : Spot) (count : ℕ) (outcome : Outcome) → first_piece spot.bytes ≡ Part count lexeme.Open → around < 1000
      → Gives names (Rest false) (suc around) (past spot count) outcome → Gives names Form around spot outcome
  prefix : (around : ℕ) (spot : Spot) (count : ℕ) (mark : Mark) (outcome : Outcome) → first_piece spot.bytes ≡ Part count (lexeme.Prefix mark) → around < 1000
      → Gives names Form (suc around) (past spot count) outcome → Gives names Form around spot (marked (place_in names (mark_text mark)) outcome)
  -- the rest of a list is its end, or an element and the rest behind it
  empty : (some : Bool) (around : ℕ) (spot : Spot) (count : ℕ) → first_piece spot.bytes ≡ Part count lexeme.Close
      → Gives names (Rest some) around spot (Got nil (past spot count))
  element : (some : Bool) (around : ℕ) (spot next : Spot) (first : Object) (outcome : Outcome) → wants (Rest some) (first_piece spot.bytes) ≡ true
      → Gives names Form around spot (Got first next) → Gives names (Rest true) around next outcome → Gives names (Rest some) around spot (consed first outcome)
  -- or, behind an element, a dot, a form and the end
  dot : (around : ℕ) (spot : Spot) (count : ℕ) (outcome : Outcome) → first_piece spot.bytes ≡ Part count lexeme.Dot
      → Gives names Last around (past spot count) outcome → Gives names (Rest true) around spot outcome
  last : (around : ℕ) (spot next : Spot) (object : Object) (outcome : Outcome) → wants Last (first_piece spot.bytes) ≡ true
      → Gives names Form around spot (Got object next) → Gives names (Closing object) around next outcome → Gives names Last around spot outcome
  close : (around : ℕ) (spot : Spot) (count : ℕ) (object : Object) → first_piece spot.bytes ≡ Part count lexeme.Close
      → Gives names (Closing object) around spot (Got object (past spot count))
  -- a fault of what is next, and one inside an element
  flaw : (goal : Goal) (around : ℕ) (spot : Spot) (f : Flaw) → flaw_at goal around spot (first_piece spot.bytes) ≡ Some f
      → Gives names goal around spot (Fault f.place f.code)
  inner : (goal : Goal) (around : ℕ) (spot : Spot) (place : Place) (code : ReadCode) → wants goal (first_piece spot.bytes) ≡ true
      → Gives names Form around spot (Fault place code) → Gives names goal around spot (Fault place code)
