-- The transcript of a text, and of a book with the books that it includes.
use Rattle.gl_decide.specs.Bounds.{Bounds}
use Rattle.gl_decide.specs.Stalls.{StallSeen}
use Rattle.std.specs.Prelude.{◌≡◌, ◌⊎◌, ℕ, ◌-◌, ◌≤◌, Bool, false, cond, List, [], ◌∷◌, ◌++◌, length, take, get_or, map, Option, IfSome}
use Rattle.std.specs.List.{concat}
use Rattle.gl_logic.specs.Every.{Every}
use Rattle.gl_logic.specs.Names.{IsTable, Extends, with_name}
use Rattle.gl_base.specs.Outside.{Grows}
use Rattle.gl_base.specs.declared.status.Status.{Status}
use Rattle.gl_base.specs.declared.status.Status.TheVariants as status
use Rattle.sexp_reader.specs.declared.list.Form.{Form}
use Rattle.sexp_reader.specs.declared.ends.End.{End}
use Rattle.sexp_reader.specs.Book.{IsBeyond}
use Rattle.sexp_reader.specs.Gathers.{IsTableOf}
use Rattle.book_shelf.specs.declared.finish.Finish.{Finish}
use Rattle.book_shelf.specs.declared.item.Item.{Item}
use Rattle.book_shelf.specs.declared.item.Item.TheVariants as item
use Rattle.book_shelf.specs.Listed.{Listing, finish_of}
use Rattle.book_shelf.specs.Flat.{Lists, Book, most_bytes}
use Rattle.book_shelf.specs.NumberedItems.{IsNumberedItem}
use Rattle.book_state.specs.Reading.{IsReadBy}
use Rattle.event_world.specs.NextState.{BookState}
use Rattle.event_world.specs.OpeningNames.{opening_names}
use Rattle.gl_book.specs.Entry.{Entry, Refused, stalls_in}
use Rattle.gl_book.specs.Lines.{transcript_lines, status_of}
use Rattle.gl_book.specs.Walk.{Walk}
use Rattle.book_state.specs.States.{IsFirstState}
use Rattle.gl_book.specs.declared.refusal.Refusal.{Refusal}
use Rattle.gl_book.specs.declared.refusal.RefusalCode.TheVariants as code

-- ---- texts
abbrev pub long_refusal : ℕ → ℕ → Refusal
long_refusal line column = record { line = line; column = column; code = code.TooLong }

-- what comes of a text: it is too long, or its forms are walked
pub data ComesOf (names : List (List ℕ)) (bounds : Bounds) (bytes : List ℕ) : List Entry → Type 0 where
  long : (line column : ℕ) → IsBeyond most_bytes bytes line column → ComesOf names bounds bytes (Refused (long_refusal line column) ∷ [])
  short : (forms : List Form) (end : End) (first : BookState) (entries : List Entry) → length bytes ≤ most_bytes → IsReadBy names bytes forms end
      → IsFirstState names first → Walk names bounds first (map item.Form forms) (finish_of end) entries → ComesOf names bounds bytes entries

-- ---- books of a shelf
-- what comes of a list of forms and books, whose symbols, strings and names a table of texts numbers. The table has the empty text
pub record ComesOfList (names : List (List ℕ)) (bounds : Bounds) (items : List Item) (end : Finish) (entries : List Entry) : Type 0 where
  pub table : IsTable names
  pub empty : with_name names [] ≡ names
  pub numbered : Every (IsNumberedItem (length names)) items
  pub first : BookState
  pub begins : IsFirstState names first
  pub walk : Walk names bounds first items end entries

-- what comes of a book of a shelf: the list of it and of the books that it includes is walked, by a table of its own text
pub record ComesOfBook (names : List (List ℕ)) (bounds : Bounds) (shelf : List ℕ → List ℕ) (name : List ℕ) (entries : List Entry) : Type 0 where
  pub list : Listing
  pub lists : Lists names shelf [] [] (Book name) list
  pub opens : length (shelf name) ≤ most_bytes → IsTableOf (shelf name) opening_names names
  pub comes : ComesOfList names bounds list.items list.finish entries

-- ---- transcripts
-- which lines, stalls and status belong together
abbrev pub Telling : Type 1
Telling = List (List ℕ) → List StallSeen → Status → Type 0

-- those of the entries that come of something: the lines, the stalls of those that tell of nodes and clauses, in order, and the status
abbrev pub TellsOf : (List (List ℕ) → List Entry → Type 0) → Telling
TellsOf comes lines stalls s =
    (names : List (List ℕ)) × (entries : List Entry) × comes names entries × (lines ≡ transcript_lines names entries) × (stalls ≡ stalls_in entries) × (s ≡ status_of entries)

-- by the limits of the run: of a text
abbrev pub IsTranscript : Bounds → List ℕ → Telling
IsTranscript bounds bytes lines stalls s = TellsOf (λ names entries. ComesOf names bounds bytes entries) lines stalls s

-- of a list of forms and books, by a table that begins with this one
abbrev pub IsListTranscript : Bounds → List (List ℕ) → List Item → Finish → Telling
IsListTranscript bounds table items end lines stalls s = TellsOf (λ names entries. Extends table names × ComesOfList names bounds items end entries) lines stalls s

-- of a book of a shelf
abbrev pub IsBookTranscript : Bounds → (List ℕ → List ℕ) → List ℕ → Telling
IsBookTranscript bounds shelf name lines stalls s = TellsOf (λ names entries. ComesOfBook names bounds shelf name entries) lines stalls s

-- ---- what is written
-- all lines, or the last one alone
abbrev pub told : Bool → List (List ℕ) → List ℕ
told last_only lines = cond last_only (get_or lines (length lines - 1) []) (concat lines)

-- lines that belong to this status were written, and their stalls were added to those before
abbrev pub WritesAll : Telling → Bool → Option (List ℕ) → Option (List ℕ) → List StallSeen → List StallSeen → Status → Type 0
WritesAll tells last_only old new before after s =
    (lines : List (List ℕ)) × (stalls : List StallSeen) × tells lines stalls s × Grows old new (told last_only lines) × (after ≡ before ++ stalls)

-- the front of some was written, and a front of their stalls was added
abbrev pub WritesSome : Telling → Bool → Option (List ℕ) → Option (List ℕ) → List StallSeen → List StallSeen → Type 0
WritesSome tells last_only old new before after =
    (lines : List (List ℕ)) × (stalls : List StallSeen) × (s : Status) × (n : ℕ) × (m : ℕ) × tells lines stalls s × Grows old new (take n (told last_only lines)) × (after ≡ before ++ take m stalls)

-- what a run has written when it ends with a status, and the stalls before and after: fronts alone where a write failed or memory was refused
abbrev pub Ends : Telling → Bool → Option (List ℕ) → Option (List ℕ) → List StallSeen → List StallSeen → Status → Type 0
Ends tells last_only old new before after status.ReadFault = ⊥
Ends tells last_only old new before after status.Usage = ⊥
Ends tells last_only old new before after status.WriteFault = WritesSome tells last_only old new before after
Ends tells last_only old new before after status.NoMemory = WritesSome tells last_only old new before after
Ends tells last_only old new before after s = WritesAll tells last_only old new before after s

-- the same, where memory may also be refused before there is anything to tell
abbrev pub EndsOrNothing : Telling → Option (List ℕ) → Option (List ℕ) → List StallSeen → List StallSeen → Status → Type 0
EndsOrNothing tells old new before after status.NoMemory = ((new ≡ old) × (after ≡ before)) ⊎ WritesSome tells false old new before after
EndsOrNothing tells old new before after s = Ends tells false old new before after s

-- ---- over a text
-- a transcript with this status was written
abbrev pub WritesTranscript : Bounds → List ℕ → Bool → Option (List ℕ) → Option (List ℕ) → List StallSeen → List StallSeen → Status → Type 0
WritesTranscript bounds bytes last_only old new before after s = WritesAll (IsTranscript bounds bytes) last_only old new before after s

-- the front of one was written
abbrev pub WritesFront : Bounds → List ℕ → Bool → Option (List ℕ) → Option (List ℕ) → List StallSeen → List StallSeen → Type 0
WritesFront bounds bytes last_only old new before after = WritesSome (IsTranscript bounds bytes) last_only old new before after

abbrev pub EndsWith : Bounds → List ℕ → Bool → Option (List ℕ) → Option (List ℕ) → List StallSeen → List StallSeen → Status → Type 0
EndsWith bounds bytes last_only old new before after s = Ends (IsTranscript bounds bytes) last_only old new before after s

-- ---- over a list, and over a book of a shelf
abbrev pub EndsWithList : Bounds → List (List ℕ) → List Item → Finish → Option (List ℕ) → Option (List ℕ) → List StallSeen → List StallSeen → Status → Type 0
EndsWithList bounds table items end old new before after s = EndsOrNothing (IsListTranscript bounds table items end) old new before after s

abbrev pub EndsWithBook : Bounds → (List ℕ → List ℕ) → List ℕ → Option (List ℕ) → Option (List ℕ) → List StallSeen → List StallSeen → Status → Type 0
EndsWithBook bounds shelf name old new before after s = EndsOrNothing (IsBookTranscript bounds shelf name) old new before after s

-- what a run has written of a book of a shelf that may not tell its texts: what it writes of some texts, which are the shelf's where it tells
pub record WritesBook (bounds : Bounds) (holds : List ℕ → Option (List ℕ)) (name : List ℕ) (old new : Option (List ℕ)) (before after : List StallSeen) (s : Status) : Type 0 where
  pub shelf : List ℕ → List ℕ
  pub told : (other : List ℕ) → IfSome (holds other) (λ bytes. shelf other ≡ bytes)
  pub written : EndsWithBook bounds shelf name old new before after s
