-- What the reader's stack makes of the text behind it: the words that the reader's own contracts use.
use Rattle.std.specs.Prelude.{◌≡◌, ℕ, suc, nat_lt, if◌then◌else◌, List, [], ◌∷◌, ◌++◌, length, reverse, Option, Some, None}
use Rattle.gl_logic.specs.Object.{Object, Cons, nil}
use Rattle.sexp_reader.specs.declared.place.Place.{Place}
use Rattle.sexp_reader.specs.declared.flaw.Flaw.{Flaw}
use Rattle.sexp_reader.specs.declared.list.Form.{Form}
use Rattle.sexp_reader.specs.declared.ends.End.{End}
use Rattle.sexp_reader.specs.declared.lexeme.Lexeme.{Lexeme}
use Rattle.sexp_reader.specs.declared.lexeme.Piece.{Piece}
use Rattle.sexp_reader.specs.declared.lexeme.Piece.TheVariants.{Ended, Part}
use Rattle.sexp_reader.specs.declared.stack.ListEnd.{ListEnd}
use Rattle.sexp_reader.specs.declared.stack.ListEnd.TheVariants.{Plain, Dotted, Tail}
use Rattle.sexp_reader.specs.declared.stack.OpenList.{OpenList}
use Rattle.sexp_reader.specs.declared.stack.Frame.{Frame}
use Rattle.sexp_reader.specs.declared.stack.Frame.TheVariants as frame
use Rattle.sexp_reader.specs.declared.stack.Stack.{Stack}
use Rattle.sexp_reader.specs.Pieces.{first_piece, count_of}
use Rattle.sexp_reader.specs.Grammar as grammar
use Rattle.sexp_reader.specs.Grammar.{Spot, past, Outcome, Got, Fault, prefixed, marked, Goal, Rest, Last, Closing, wants, form_flaw, flaw_at, Gives}
use Rattle.sexp_reader.specs.Reads.{form_at, bad_at, ReadsFrom}

-- ---- lists
-- objects in front of a list's rest
abbrev pub listed : List Object → Object → Object
listed [] rest = rest
listed (object ∷ objects) rest = Cons object (listed objects rest)

abbrev pub completed : List Object → Outcome → Outcome
completed objects (Got rest next) = Got (listed objects rest) next
completed objects (Fault place code) = Fault place code

abbrev pub tail_of : ListEnd → Object
tail_of (Tail object) = object
tail_of end = nil

-- an open list with one form more
abbrev pub taken : List Object → ListEnd → Object → List Object
taken objects Plain object = objects ++ object ∷ []
taken objects end object = objects

abbrev pub taken_end : ListEnd → Object → ListEnd
taken_end Plain object = Plain
taken_end end object = Tail object

-- ---- what is looked for inside a list, and inside a frame
abbrev pub goal_of : List Object → ListEnd → Goal
goal_of objects Plain = Rest (nat_lt 0 (length objects))
goal_of objects Dotted = Last
goal_of objects (Tail object) = Closing object

abbrev pub frame_goal : Frame → Goal
frame_goal (frame.List list) = goal_of list.elements.items list.end
frame_goal (frame.Prefix symbol) = grammar.Form

abbrev pub frame_wraps : Frame → Outcome → Outcome
frame_wraps (frame.List list) outcome = completed list.elements.items outcome
frame_wraps (frame.Prefix symbol) outcome = marked symbol.number outcome

-- ---- flaws
abbrev pub goal_flaw : Goal → ℕ → Spot → Piece → Option Flaw
goal_flaw goal around spot piece = if wants goal piece then form_flaw around spot piece else flaw_at goal around spot piece

abbrev pub list_flaw : OpenList → ℕ → Spot → Piece → Option Flaw
list_flaw list around spot piece = goal_flaw (goal_of list.elements.items list.end) around spot piece

abbrev pub inner_first : Stack → List Frame
inner_first stack = reverse stack.frames.items

abbrev pub flaw_in : List Frame → Spot → Piece → Option Flaw
flaw_in [] spot Ended = None
flaw_in [] spot piece = form_flaw 0 spot piece
flaw_in (f ∷ frames) spot piece = goal_flaw (frame_goal f) (suc (length frames)) spot piece

-- ---- the text behind
-- what comes of an outcome of a form inside these frames, the innermost first: the forms of the whole and its end, where
-- the form that is open begins at this place and these forms are done
abbrev pub Leads : List (List ℕ) → Place → List Form → Outcome → List Frame → List Form → End → Type 0
Leads names begin done (Fault place code) frames forms end = (forms ≡ done) × (end ≡ bad_at place code)
Leads names begin done (Got object next) [] forms end = (rest : List Form) × (forms ≡ done ++ form_at begin object ∷ rest) × ReadsFrom names next rest end
Leads names begin done (Got object next) (frame.Prefix symbol ∷ frames) forms end = Leads names begin done (Got (prefixed symbol.number object) next) frames forms end
Leads names begin done (Got object next) (frame.List list ∷ frames) forms end =
    (outcome : Outcome) × Gives names (goal_of (taken list.elements.items list.end object) (taken_end list.end object)) (suc (length frames)) next outcome
    × Leads names begin done (completed (taken list.elements.items list.end object) outcome) frames forms end

-- the same of a text that goes on at a spot inside these frames
abbrev pub GoesIn : List (List ℕ) → Place → List Form → List Frame → Spot → List Form → End → Type 0
GoesIn names begin done [] spot forms end = (rest : List Form) × (forms ≡ done ++ rest) × ReadsFrom names spot rest end
GoesIn names begin done (f ∷ frames) spot forms end =
    (outcome : Outcome) × Gives names (frame_goal f) (suc (length frames)) spot outcome × Leads names begin done (frame_wraps f outcome) frames forms end

abbrev pub Goes : List (List ℕ) → Stack → Spot → List Form → End → Type 0
Goes names stack spot forms end = GoesIn names stack.begin stack.forms (inner_first stack) spot forms end

-- what the new stack makes of the text behind a lexeme, the old one makes of the text from the lexeme on
abbrev pub Follows : List (List ℕ) → Stack → Place → Lexeme → Stack → Type 0
Follows names old place what new =
    (spot : Spot) (count : ℕ) (forms : List Form) (end : End) → spot.place ≡ place → first_piece spot.bytes ≡ Part count what → Goes names new (past spot count) forms end → Goes names old spot forms end

-- where a form begins that may stand inside these frames
abbrev pub begun : Place → Place → List Frame → Place
begun place begin [] = place
begun place begin (f ∷ frames) = begin

abbrev pub CanStandIn : List Frame → Lexeme → Type 0
CanStandIn frames what = (spot : Spot) (count : ℕ) → flaw_in frames spot (Part count what) ≡ None

abbrev pub CanStand : Stack → Lexeme → Type 0
CanStand stack what = CanStandIn (inner_first stack) what

-- ---- any piece
abbrev pub MayStand : List Frame → Piece → Type 0
MayStand frames (Part count what) = CanStandIn frames what
MayStand frames piece = Unit {0}

-- what the new stack makes of the text behind a piece, the old one makes of the text from the piece on
abbrev pub FollowsPiece : List (List ℕ) → Stack → Place → Piece → Stack → Type 0
FollowsPiece names old place piece new =
    (spot : Spot) (count : ℕ) (forms : List Form) (end : End) → spot.place ≡ place → first_piece spot.bytes ≡ piece → count_of piece ≡ Some count → Goes names new (past spot count) forms end → Goes names old spot forms end
