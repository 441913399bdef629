-- What is written of a walk, and what a run that stops has done to the sink.
use Rattle.gl_decide.specs.Bounds.{Bounds}
use Rattle.std.specs.Prelude.{◌≡◌, ℕ, ◌+◌, ◌-◌, ◌^◌, ◌<◌, Bool, cond, List, [], ◌∷◌, ◌++◌, take, Option, Some, None, Result, Ok, Err, IfOk, MatchResult}
use Rattle.std.specs.List.{concat}
use Rattle.gl_base.specs.Outside.{Grows, Rose}
use Rattle.gl_base.specs.declared.status.Status.{Status}
use Rattle.gl_base.specs.declared.status.Status.TheVariants as status
use Rattle.book_shelf.specs.declared.finish.Finish.{Finish}
use Rattle.book_shelf.specs.declared.finish.Finish.TheVariants as finish
use Rattle.book_shelf.specs.declared.library.Library.{Library}
use Rattle.gl_decide.specs.Stalls.{StallSeen}
use Rattle.event_world.specs.NextState.{BookState}
use Rattle.gl_book.specs.Entry.{Entry, Refused, stalls_in}
use Rattle.gl_book.specs.Lines.{refused_line, is_proved, is_vacuous, is_refuted, is_undecided, is_failed, done_line, status_by, transcript_lines, status_of}
use Rattle.gl_book.specs.Walk.{Walk, end_refusal}
use Rattle.gl_book.specs.Transcript.{Telling, told, WritesAll, WritesSome}
use Rattle.gl_book.specs.declared.answer.Answer.{Answer}
use Rattle.gl_book.specs.declared.counts.Counts.{Counts}
use Rattle.gl_book.specs.declared.refusal.Refusal.{Refusal}
use Rattle.gl_book.specs.declared.stop.Stop.{Stop}
use Rattle.gl_book.specs.declared.stop.Stop.TheVariants.{Write, Memory}

-- ---- the sink's count of faults
abbrev pub HasRisen : ℕ → ℕ → Stop → Type 0
HasRisen before now Write = Rose before now
HasRisen before now Memory = now ≡ before

-- the count rose where a write stopped the run, and nowhere else
abbrev pub IsCounted : {T : Type 0} → ℕ → ℕ → Result T Stop → Type 0
IsCounted before now result = MatchResult result (λ _. now ≡ before) (HasRisen before now)

-- ---- counts
abbrev pub one_more : Bool → ℕ → ℕ
one_more b n = cond b (n + 1) n

abbrev pub counts_with : Counts → Answer → Counts
counts_with c a = record { proved = one_more (is_proved a) c.proved; vacuous = one_more (is_vacuous a) c.vacuous; refuted = one_more (is_refuted a) c.refuted; undecided = one_more (is_undecided a) c.undecided; failed = one_more (is_failed a) c.failed }

abbrev pub HasRoom : Counts → Type 0
HasRoom c = (c.proved < 2 ^ 64 - 1) × (c.vacuous < 2 ^ 64 - 1) × (c.refuted < 2 ^ 64 - 1) × (c.undecided < 2 ^ 64 - 1) × (c.failed < 2 ^ 64 - 1)

-- ---- the end of a transcript
abbrev pub refusal_of : Finish → Option Refusal
refusal_of finish.Clean = None
refusal_of (finish.Refused line column fault) = Some (end_refusal line column fault)

abbrev pub closing_lines : Counts → Option Refusal → List (List ℕ)
closing_lines counts None = done_line counts ∷ []
closing_lines counts (Some r) = refused_line r ∷ done_line counts ∷ []

abbrev pub closing_status : Counts → Option Refusal → Status
closing_status counts None = status_by counts
closing_status counts (Some r) = status.BookRefused

-- the entries that end a book
abbrev pub closing : Option Refusal → List Entry
closing None = []
closing (Some r) = Refused r ∷ []

-- ---- a walk
-- what these lines tell was written, or the front of it
abbrev pub WritesLines : Bool → List (List ℕ) → Option (List ℕ) → Option (List ℕ) → Type 0
WritesLines last_only lines old new = Grows old new (told last_only lines)

abbrev pub WritesLinesFront : Bool → List (List ℕ) → Option (List ℕ) → Option (List ℕ) → Type 0
WritesLinesFront last_only lines old new = (n : ℕ) × Grows old new (take n (told last_only lines))

-- stalls were added to those before, or the front of them
abbrev pub Keeps : List StallSeen → List StallSeen → List StallSeen → Type 0
Keeps stalls before after = after ≡ before ++ stalls

abbrev pub KeepsFront : List StallSeen → List StallSeen → List StallSeen → Type 0
KeepsFront stalls before after = (m : ℕ) × (after ≡ before ++ take m stalls)

abbrev pub KeepsStalls : List Entry → List StallSeen → List StallSeen → Type 0
KeepsStalls entries before after = Keeps (stalls_in entries) before after

abbrev pub KeepsStallsFront : List Entry → List StallSeen → List StallSeen → Type 0
KeepsStallsFront entries before after = KeepsFront (stalls_in entries) before after

abbrev pub WritesWalk : List (List ℕ) → Bounds → BookState → Library → Bool → Option (List ℕ) → Option (List ℕ) → List StallSeen → List StallSeen → Status → Type 0
WritesWalk names bounds first book last_only old new before after s =
    (entries : List Entry) × Walk names bounds first book.items book.finish entries × WritesLines last_only (transcript_lines names entries) old new × KeepsStalls entries before after × (s ≡ status_of entries)

abbrev pub WritesWalkFront : List (List ℕ) → Bounds → BookState → Library → Bool → Option (List ℕ) → Option (List ℕ) → List StallSeen → List StallSeen → Type 0
WritesWalkFront names bounds first book last_only old new before after =
    (entries : List Entry) × Walk names bounds first book.items book.finish entries × WritesLinesFront last_only (transcript_lines names entries) old new × KeepsStallsFront entries before after

-- lines before the last one: all of them, or none where the last one alone is told
abbrev pub told_before : Bool → List (List ℕ) → List ℕ
told_before last_only lines = cond last_only [] (concat lines)

-- they were written, or the front of them
abbrev pub WritesBefore : Bool → List (List ℕ) → Option (List ℕ) → Option (List ℕ) → Type 0
WritesBefore last_only lines old new = Grows old new (told_before last_only lines)

abbrev pub WritesBeforeFront : Bool → List (List ℕ) → Option (List ℕ) → Option (List ℕ) → Type 0
WritesBeforeFront last_only lines old new = (n : ℕ) × Grows old new (take n (told_before last_only lines))

-- ---- a run
abbrev pub status_from : Result Status Stop → Status
status_from (Ok s) = s
status_from (Err Write) = status.WriteFault
status_from (Err Memory) = status.NoMemory

-- a status that a transcript gives
abbrev pub IsReported : Status → Type 0
IsReported status.ReadFault = ⊥
IsReported status.WriteFault = ⊥
IsReported status.NoMemory = ⊥
IsReported status.Usage = ⊥
IsReported s = Unit {0}

-- what a run has written, by how it ends: a status that a transcript gives, or a stop
abbrev pub EndsBy : Telling → Bool → Option (List ℕ) → Option (List ℕ) → List StallSeen → List StallSeen → Result Status Stop → Type 0
EndsBy tells last_only old new before after (Ok s) = WritesAll tells last_only old new before after s
EndsBy tells last_only old new before after (Err stop) = WritesSome tells last_only old new before after

-- the same, where that status is one that a transcript gives
pub record EndsReported (tells : Telling) (last_only : Bool) (old new : Option (List ℕ)) (before after : List StallSeen) (run : Result Status Stop) : Type 0 where
  pub ends : EndsBy tells last_only old new before after run
  pub reported : IfOk run IsReported
