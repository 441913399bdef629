-- What a run over a shelf and a sink has written.
use Rattle.std.specs.Prelude.{◌≡◌, ◌≢◌, ◌⊎◌, ℕ, true, List, Option, Some, None, IsNone, IfNone, IfSome}
use Rattle.gl_base.specs.declared.status.Status.{Status}
use Rattle.gl_base.specs.declared.status.Status.TheVariants as status
use Rattle.gl_base.specs.Outside.{Rose, Grows, GrowsByFront}
use Rattle.book_shelf.specs.Reached.{Reached}
use Rattle.gl_decide.specs.Bounds.{Bounds}
use Rattle.gl_decide.specs.Stalls.{StallSeen}
use Rattle.gl_book.specs.Generated.{generated}
use Rattle.gl_book.specs.Transcript.{EndsWith, WritesBook}
use Rattle.gl_words.specs.Usage.{usage_line}
use Rattle.gl_words.specs.Words.{Source, Book, Generated, Command, Order, Transcript, Proof, Judge}
use Rattle.gl.specs.Judging.{WritesLine}
use Rattle.gl.specs.Proving.{WritesProof}

-- the transcript of the book with the books that it includes, or the last line of that of the generator's text, with the stalls before and after; fronts where a write
-- failed or memory was refused
abbrev pub WritesFrom : Source → Bounds → (List ℕ → Option (List ℕ)) → Option (List ℕ) → Option (List ℕ) → List StallSeen → List StallSeen → Status → Type 0
WritesFrom (Book name) bounds holds old new before after s = WritesBook bounds holds name old new before after s
WritesFrom (Generated n) bounds holds old new before after s = EndsWith bounds (generated n) true old new before after s

-- the texts that an order is about: a book's own and those that are included from there, a book's own alone for a proof of it, and the two of a judgement
abbrev pub IsOfSource : Source → (List ℕ → Option (List ℕ)) → List ℕ → Type 0
IsOfSource (Book name) holds other = Reached holds name other
IsOfSource (Generated n) holds other = ⊥

abbrev pub IsOfOrder : Order → (List ℕ → Option (List ℕ)) → List ℕ → Type 0
IsOfOrder (Transcript command) holds other = IsOfSource command.source holds other
IsOfOrder (Proof bounds name part) holds other = other ≡ name
IsOfOrder (Judge workers cnf log) holds other = (other ≡ cnf) ⊎ (other ≡ log)

-- those that words ask for: none where they ask for nothing
abbrev pub IsAsked : Option Order → (List ℕ → Option (List ℕ)) → List ℕ → Type 0
IsAsked None holds other = ⊥
IsAsked (Some order) holds other = IsOfOrder order holds other

-- a text that was asked for could not be read: by these counts of the shelf's faults one of its calls failed, which open no other
pub record IsUnread (order : Option Order) (holds : List ℕ → Option (List ℕ)) (before now : ℕ) : Type 0 where
  pub name : List ℕ
  pub asked : IsAsked order holds name
  pub failed : Rose before now

-- each of them may be opened
abbrev pub MayRun : (List ℕ → Type 0) → (List ℕ → Option (List ℕ)) → Option Order → Type 0
MayRun may holds order = (other : List ℕ) → IsAsked order holds other → may other

-- a transcript of a command's book, a text of a proof, the line of a judgement with no stall
abbrev pub WritesOrder : Order → (List ℕ → Option (List ℕ)) → Option (List ℕ) → Option (List ℕ) → List StallSeen → List StallSeen → Status → Type 0
WritesOrder (Transcript command) holds old new before after s = WritesFrom command.source command.bounds holds old new before after s
WritesOrder (Proof bounds name part) holds old new before after s = WritesProof bounds part holds name old new before after s
WritesOrder (Judge workers cnf log) holds old new before after s = WritesLine holds cnf log old new s × (after ≡ before)

-- all of it, of a run with these words: the texts that are told, the bytes and the stalls before and after, and the status
pub record HasRun (order : Option Order) (holds : List ℕ → Option (List ℕ)) (old new : Option (List ℕ)) (before after : List StallSeen) (s : Status) : Type 0 where
  -- the words ask for nothing
  pub usage : s ≡ status.Usage → IsNone order
  pub no_command : IfNone order ((s ≡ status.Usage) ⊎ (s ≡ status.WriteFault) ⊎ (s ≡ status.NoMemory))
  pub usage_told : s ≡ status.Usage → Grows old new usage_line
  pub usage_front : IfNone order (s ≡ status.WriteFault → GrowsByFront old new usage_line)
  pub usage_memory : IfNone order (s ≡ status.NoMemory → new ≡ old)
  pub unstalled : IfNone order (after ≡ before)
  -- they ask for something
  pub written : IfSome order (λ asked. s ≢ status.ReadFault → WritesOrder asked holds old new before after s)
  -- a text could not be read
  pub unwritten : s ≡ status.ReadFault → new ≡ old
  pub none_added : s ≡ status.ReadFault → after ≡ before
