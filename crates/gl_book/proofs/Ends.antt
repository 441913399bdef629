-- What a run has written, by how it ended.
use Rattle.gl_decide.specs.Bounds.{Bounds}
use Rattle.gl_decide.specs.Stalls.{StallSeen}
use Rattle.std.proofs.Common.{◌≡◌, ◌≤◌, sym, subst, refl, ◌∙◌, ℕ, List, [], ◌∷◌, append-nil, take, map, length, Bool, true, false, cond, Option, Some, None, inl, inr, arith}
use Rattle.std.specs.Prelude.{OnOk, OnErr, IfOk, IfSome, Result, Ok, Err, nat_lt, ◌||◌}
use Rattle.std.specs.List.{list_any}
use Rattle.std.proofs.lemmas.Bool.{cases_Bool, ltb-true, ltb-false}
use Rattle.gl_base.specs.Outside.{Grows, Rose}
use Rattle.gl_logic.specs.Every.{Every}
use Rattle.gl_logic.specs.Names.{IsTable, Extends, with_name}
use Rattle.gl_base.specs.declared.status.Status.{Status}
use Rattle.gl_base.specs.declared.status.Status.TheVariants as status
use Rattle.sexp_reader.specs.declared.list.Form.{Form}
use Rattle.sexp_reader.specs.declared.ends.End.{End}
use Rattle.sexp_reader.specs.Book.{IsBeyond}
use Rattle.sexp_reader.specs.Places.{behind, first_place}
use Rattle.book_shelf.specs.declared.finish.Finish.{Finish}
use Rattle.book_shelf.specs.declared.item.Item.{Item}
use Rattle.book_shelf.specs.declared.item.Item.TheVariants as item
use Rattle.book_shelf.specs.declared.library.Library.{Library}
use Rattle.book_shelf.specs.declared.item.Mark.TheVariants as mark
use Rattle.book_shelf.specs.Listed.{finish_of}
use Rattle.book_shelf.specs.Flat.{IsFlat, most_bytes}
use Rattle.book_shelf.specs.NumberedItems.{IsNumberedItem}
use Rattle.book_shelf.proofs.Later.{longer, numbered_later}
use Rattle.event_world.specs.NextState.{BookState}
use Rattle.gl_book.specs.Walk.{Walk}
use Rattle.book_state.specs.States.{IsFirstState}
use Rattle.event_world.specs.OpeningNames.{opening_names}
use Rattle.sexp_reader.specs.Gathers.{IsTableOf}
use Rattle.sexp_reader.proofs.Tabled.{table as gathered, table_gathers, table_numbers}
use Rattle.gl_logic.proofs.GrownTables.{extends_same, extends_then}
use Rattle.book_state.proofs.FirstStates.{opening, first_reading}
use Rattle.gl_book.specs.Entry.{Entry, Refused, stalls_in}
use Rattle.gl_book.specs.Lines.{transcript_lines, status_of, counts_of, is_refusal}
use Rattle.gl_book.specs.Transcript.{long_refusal, long, short, Telling, IsTranscript, IsListTranscript, IsBookTranscript, WritesAll, WritesSome, Ends, EndsOrNothing, WritesFront, EndsWith, EndsWithList, WritesBook}
use Rattle.book_state.specs.Reading.{IsReadBy}
use Rattle.gl_book.specs.Stops.{IsCounted, IsReported, EndsBy, EndsReported, status_from, closing_lines, WritesLines, WritesLinesFront, WritesWalk, WritesWalkFront}
use Rattle.gl_book.specs.declared.counts.Counts.{Counts}
use Rattle.gl_book.specs.declared.stop.Stop.{Stop}
use Rattle.gl_book.specs.declared.stop.Stop.TheVariants.{Write, Memory}
use Rattle.gl_book.proofs.Told.{grows_nothing}
use Rattle.gl_book.proofs.Onward.{some_walk}

-- ---- a run that ends in some way ends with its status
module _ (tells : Telling) (last : Bool) (old new : Option (List ℕ)) (before after : List StallSeen) where
  ends_well : (s : Status) → IsReported s → WritesAll tells last old new before after s → Ends tells last old new before after s
  ends_well status.Good r h = h
  ends_well status.Refuted r h = h
  ends_well status.BookRefused r h = h
  ends_well status.Undecided r h = h
  ends_well status.ReadFault r h = absurd r
  ends_well status.WriteFault r h = absurd r
  ends_well status.NoMemory r h = absurd r
  ends_well status.Usage r h = absurd r

  pub ends_by : (run : Result Status Stop) → EndsBy tells last old new before after run → IfOk run IsReported → Ends tells last old new before after (status_from run)
  ends_by (Ok s) h r = ends_well s r h
  ends_by (Err Write) h r = h
  ends_by (Err Memory) h r = h

module _ (bounds : Bounds) (text : List ℕ) (last : Bool) (old new : Option (List ℕ)) (before after : List StallSeen) where
  pub ends_with : (run : Result Status Stop) → EndsReported (IsTranscript bounds text) last old new before after run → EndsWith bounds text last old new before after (status_from run)
  ends_with run h = ends_by (IsTranscript bounds text) last old new before after run h.ends h.reported

-- where memory may be refused before there is anything to tell
module _ (tells : Telling) (old new : Option (List ℕ)) (before after : List StallSeen) where
  or_nothing : (s : Status) → Ends tells false old new before after s → EndsOrNothing tells old new before after s
  or_nothing status.Good h = h
  or_nothing status.Refuted h = h
  or_nothing status.BookRefused h = h
  or_nothing status.Undecided h = h
  or_nothing status.ReadFault h = h
  or_nothing status.WriteFault h = h
  or_nothing status.NoMemory h = inr h
  or_nothing status.Usage h = h

  pub ends_or_nothing : (run : Result Status Stop) → EndsReported tells false old new before after run → EndsOrNothing tells old new before after (status_from run)
  ends_or_nothing run h = or_nothing (status_from run) (ends_by tells false old new before after run h.ends h.reported)

  -- what is told by one is told by another
  module _ (others : Telling) (also : (lines : List (List ℕ)) (stalls : List StallSeen) (s : Status) → tells lines stalls s → others lines stalls s) where
    all_also : (s : Status) → WritesAll tells false old new before after s → WritesAll others false old new before after s
    all_also s h = (h.0, h.1, also h.0 h.1 s h.2, h.3, h.4)

    some_also : WritesSome tells false old new before after → WritesSome others false old new before after
    some_also h = (h.0, h.1, h.2, h.3, h.4, also h.0 h.1 h.2 h.5, h.6, h.7)

    pub ends_also : (s : Status) → EndsOrNothing tells old new before after s → EndsOrNothing others old new before after s
    ends_also status.Good h = all_also status.Good h
    ends_also status.Refuted h = all_also status.Refuted h
    ends_also status.BookRefused h = all_also status.BookRefused h
    ends_also status.Undecided h = all_also status.Undecided h
    ends_also status.ReadFault h = h
    ends_also status.WriteFault h = some_also h
    ends_also status.NoMemory (inl none) = inl none
    ends_also status.NoMemory (inr h) = inr (some_also h)
    ends_also status.Usage h = h

-- ---- the sink's count, and the statuses that do not come
pub rises : (run : Result Status Stop) → IfOk run IsReported → (before now : ℕ) → IsCounted before now run → status_from run ≡ status.WriteFault → Rose before now
rises (Ok s) h before now c e = absurd (subst IsReported e h)
rises (Err Write) h before now c e = c
rises (Err Memory) h before now c e = absurd cc

pub stays : (run : Result Status Stop) → IfOk run IsReported → (before now : ℕ) → IsCounted before now run → (status_from run ≡ status.WriteFault → ⊥) → now ≡ before
stays (Ok s) h before now c e = c
stays (Err Write) h before now c e = absurd (e refl)
stays (Err Memory) h before now c e = c

pub never_read_fault : (run : Result Status Stop) → IfOk run IsReported → status_from run ≡ status.ReadFault → ⊥
never_read_fault (Ok s) h e = subst IsReported e h
never_read_fault (Err Write) h e = cc
never_read_fault (Err Memory) h e = cc

pub never_usage : (run : Result Status Stop) → IfOk run IsReported → status_from run ≡ status.Usage → ⊥
never_usage (Ok s) h e = subst IsReported e h
never_usage (Err Write) h e = cc
never_usage (Err Memory) h e = cc

-- ---- a status of entries is one that a transcript gives
reported_by : (a b c : Bool) → IsReported (cond a status.BookRefused (cond b status.Refuted (cond c status.Undecided status.Good)))
reported_by true b c = tt
reported_by false true c = tt
reported_by false false true = tt
reported_by false false false = tt

reported : (entries : List Entry) → IsReported (status_of entries)
reported entries = reported_by (list_any is_refusal entries) (nat_lt 0 (counts_of entries).refuted || nat_lt 0 (counts_of entries).failed) (nat_lt 0 (counts_of entries).undecided)

-- ---- a list that is walked, and whose walks tell
module _ (tells : Telling) (last : Bool) (old new : Option (List ℕ)) (before after : List StallSeen) (names : List (List ℕ)) (bounds : Bounds) (book : Library) (first : BookState)
    (told_by : (entries : List Entry) (s : Status) → Walk names bounds first book.items book.finish entries → s ≡ status_of entries → tells (transcript_lines names entries) (stalls_in entries) s) where
  walk_reported : (run : Result Status Stop) → IfOk run (WritesWalk names bounds first book last old new before after) → IfOk run IsReported
  walk_reported (Ok s) w = subst IsReported (sym w.4) (reported w.0)
  walk_reported (Err stop) w = tt

  walk_ends : (run : Result Status Stop) → IfOk run (WritesWalk names bounds first book last old new before after) → OnErr run (WritesWalkFront names bounds first book last old new before after) → EndsBy tells last old new before after run
  walk_ends (Ok s) w f = (transcript_lines names w.0, stalls_in w.0, told_by w.0 s w.1 w.4, w.2, w.3)
  walk_ends (Err stop) h w = (transcript_lines names w.0, stalls_in w.0, status_of w.0, w.2.0, w.3.0, told_by w.0 (status_of w.0) w.1 refl, w.2.1, w.3.1)

  pub walked : (run : Result Status Stop) → IfOk run (WritesWalk names bounds first book last old new before after) → OnErr run (WritesWalkFront names bounds first book last old new before after) → EndsReported tells last old new before after run
  walked run ok front = record { ends = walk_ends run ok front; reported = walk_reported run ok }

-- the forms of a text
pub text_told : (bounds : Bounds) (text : List ℕ) (names : List (List ℕ)) (forms : List Form) (end : End) (book : Library) → book.items ≡ map item.Form forms → book.finish ≡ finish_of end → length text ≤ most_bytes → IsReadBy names text forms end
    → (first : BookState) → IsFirstState names first → (entries : List Entry) (s : Status) → Walk names bounds first book.items book.finish entries → s ≡ status_of entries → IsTranscript bounds text (transcript_lines names entries) (stalls_in entries) s
text_told bounds text names forms end book items finish within read first begins entries s w is =
    let same : Walk names bounds first (map item.Form forms) (finish_of end) entries = subst (λ (f : Finish). Walk names bounds first (map item.Form forms) f entries) finish (subst (λ (xs : List Item). Walk names bounds first xs book.finish entries) items w) in
    (names, entries, short forms end first entries within read begins same, refl, refl, is)

-- ---- a list of books
module _ (bounds : Bounds) (names : List (List ℕ)) (book : Library) (first : BookState) (is_table : IsTable names) (empty : with_name names [] ≡ names) (numbered : Every (IsNumberedItem (length names)) book.items) (begins : IsFirstState names first) where
  pub list_told : (entries : List Entry) (s : Status) → Walk names bounds first book.items book.finish entries → s ≡ status_of entries → IsListTranscript bounds names book.items book.finish (transcript_lines names entries) (stalls_in entries) s
  list_told entries s w is = (names, entries, (extends_same names, record { table = is_table; empty = empty; numbered = numbered; first = first; begins = begins; walk = w }), refl, refl, is)

-- by a table with which that of the list begins
pub list_later : (bounds : Bounds) (table names : List (List ℕ)) (items : List Item) (end : Finish) (old new : Option (List ℕ)) (before after : List StallSeen) (s : Status) → Extends table names → EndsWithList bounds names items end old new before after s → EndsWithList bounds table items end old new before after s
list_later bounds table names items end old new before after s grown h =
    ends_also (IsListTranscript bounds names items end) old new before after (IsListTranscript bounds table items end) (λ lines stalls s t. (t.0, t.1, (extends_then table names t.0 grown t.2.0, t.2.1), t.3, t.4, t.5)) s h

-- each item has its texts in each later table
item_later : (n m : ℕ) → n ≤ m → (x : Item) → IsNumberedItem n x → IsNumberedItem m x
item_later n m h (item.Form form) k = numbered_later n m h form.tree k
item_later n m h (item.Mark (mark.Book t)) k = omega (arith, h, k)
item_later n m h (item.Mark (mark.End t)) k = omega (arith, h, k)
item_later n m h (item.Mark (mark.Same t)) k = omega (arith, h, k)

items_later : (n m : ℕ) → n ≤ m → (items : List Item) → Every (IsNumberedItem n) items → Every (IsNumberedItem m) items
items_later n m h [] k = tt
items_later n m h (x ∷ xs) k = (item_later n m h x k.0, items_later n m h xs k.1)

pub items_grown : (names new : List (List ℕ)) → Extends names new → (items : List Item) → Every (IsNumberedItem (length names)) items → Every (IsNumberedItem (length new)) items
items_grown names new grown items k = items_later (length names) (length new) (longer names new grown) items k

-- ---- a text that is too long has no stall
module _ (bounds : Bounds) (text : List ℕ) (last : Bool) (old new : Option (List ℕ)) (stalls : List StallSeen) where
  module _ (line column : ℕ) (beyond : IsBeyond most_bytes text line column) where
    abbrev only : List Entry
    only = Refused (long_refusal line column) ∷ []

    abbrev alone : List (List ℕ)
    alone = closing_lines (counts_of []) (Some (long_refusal line column))

    long_front : WritesLinesFront last alone old new → WritesFront bounds text last old new stalls stalls
    long_front w = (alone, [], status.BookRefused, w.0, 0, ([], only, long line column beyond, refl, refl, refl), w.1, sym (append-nil stalls))

    pub too_long : (run : Result Status Stop) (counts : Counts) → counts ≡ counts_of [] → OnOk run (WritesLines last (closing_lines counts (Some (long_refusal line column))) old new) → IfOk run (λ s. s ≡ status.BookRefused)
        → OnErr run (WritesLinesFront last (closing_lines counts (Some (long_refusal line column))) old new) → EndsBy (IsTranscript bounds text) last old new stalls stalls run
    too_long (Ok s) counts none w e f = (alone, [], ([], only, long line column beyond, refl, refl, e), subst (λ c. WritesLines last (closing_lines c (Some (long_refusal line column))) old new) none w, sym (append-nil stalls))
    too_long (Err stop) counts none w e f = long_front (subst (λ c. WritesLinesFront last (closing_lines c (Some (long_refusal line column))) old new) none f)

pub refused_reported : (run : Result Status Stop) → IfOk run (λ s. s ≡ status.BookRefused) → IfOk run IsReported
refused_reported (Ok s) e = subst IsReported (sym e) tt
refused_reported (Err stop) e = tt

-- ---- books of a shelf
-- a list that stands for a book of a shelf
pub of_list : (bounds : Bounds) (opened table : List (List ℕ)) (holds : List ℕ → Option (List ℕ)) (name : List ℕ) (items : List Item) (end : Finish) (old new : Option (List ℕ)) (before after : List StallSeen) (s : Status) → opened ≡ opening_names
    → IsFlat opened table holds name items end → EndsWithList bounds table items end old new before after s → WritesBook bounds holds name old new before after s
of_list bounds opened table holds name items end old new before after s is flat w =
    let opens : (names : List (List ℕ)) → Extends table names → length (flat.shelf name) ≤ most_bytes → IsTableOf (flat.shelf name) opening_names names = λ names grown few.
    let t = subst (λ first. IsTableOf (flat.shelf name) first table) is (flat.begins few) in
    record { front = t.front; gathers = t.gathers; numbers = t.numbers; extends = extends_then t.front table names t.extends grown } in
    record {
      shelf = flat.shelf;
      told = flat.told;
      written = ends_also (IsListTranscript bounds table items end) old new before after (IsBookTranscript bounds flat.shelf name)
          (λ lines stalls s t. (t.0, t.1, record { list = record { items = items; taken = flat.taken; finish = end }; lists = flat.lists t.0 t.2.0; opens = opens t.0 t.2.0; comes = t.2.1 }, t.3, t.4, t.5)) s w;
    }

-- ---- each text has a transcript, and nothing is the front of it
pub some_transcript : (bounds : Bounds) (text : List ℕ) → (lines : List (List ℕ)) × (stalls : List StallSeen) × (s : Status) × IsTranscript bounds text lines stalls s
some_transcript bounds text = elim (cases_Bool (nat_lt most_bytes (length text))) [
  | inl e ↦
      let place = behind first_place (take most_bytes text) in
      let entries : List Entry = Refused (long_refusal place.line place.column) ∷ [] in
      (transcript_lines [] entries, [], status_of entries, ([], entries, long place.line place.column (ltb-true most_bytes (length text) e, refl), refl, refl, refl))
  | inr e ↦
      let names = gathered opening_names opening.table text in
      let first = first_reading names text (table_gathers opening_names opening.table text) (table_numbers opening_names opening.table text) in
      let walk = some_walk names bounds (finish_of first.end) first.state (map item.Form first.forms) first.can in
      (transcript_lines names walk.0, stalls_in walk.0, status_of walk.0, (names, walk.0, short first.forms first.end first.state walk.0 (ltb-false most_bytes (length text) e) first.read first.begins walk.1, refl, refl, refl))
]

module _ (bounds : Bounds) where
  pub nothing_written : (text : List ℕ) (last : Bool) (old new : Option (List ℕ)) (before after : List StallSeen) → old ≡ new → before ≡ after → WritesFront bounds text last old new before after
  nothing_written text last old new before after e none =
      let t = some_transcript bounds text in
      (t.0, t.1, t.2, 0, 0, t.3, subst (λ (o : Option (List ℕ)). Grows old o []) e (grows_nothing old), sym none ∙ sym (append-nil before))

  pub of_no_memory : (holds : List ℕ → Option (List ℕ)) (name : List ℕ) (old new : Option (List ℕ)) (before after : List StallSeen) → old ≡ new → before ≡ after → WritesBook bounds holds name old new before after status.NoMemory
  of_no_memory holds name old new before after e none = record { shelf = λ other. or_empty (holds other); told = λ other. is_told (holds other); written = inl (sym e, sym none) }
    where
      or_empty : Option (List ℕ) → List ℕ
      or_empty None = []
      or_empty (Some bytes) = bytes

      is_told : (o : Option (List ℕ)) → IfSome o (λ bytes. or_empty o ≡ bytes)
      is_told None = tt
      is_told (Some bytes) = refl
