use Rattle.std.proofs.Common.{◌≡◌, refl, inr, true, map, string_bytes, ℕ, List, Option, Some, None}
use Rattle.std.specs.Prelude.{IfNone, IfSome}
use Rattle.gl_base.specs.declared.status.Status.TheVariants as status
use Rattle.gl_decide.specs.Bounds.{Bounds}
use Rattle.gl_decide.specs.Stalls.{StallSeen}
use Rattle.gl_book.specs.Generated.{generated}
use Rattle.gl_book.proofs.Ends.{nothing_written, of_no_memory}
use Rattle.gl_words.specs.Words.{Source, Book, Generated, Command, Order, Transcript, Proof, Judge, order_of}
use Rattle.gl.specs.Runs.{WritesFrom, WritesOrder}
use Rattle.gl.proofs.ProofTold.{unwritten}
use Rattle.gl.proofs.run.run.Goals as goal

none_known : {A P : Type 0} (o : Option A) → P → IfNone o P
none_known None p = p
none_known (Some x) p = tt

from_nothing : (s : Source) (bounds : Bounds) (holds : List ℕ → Option (List ℕ)) (old : Option (List ℕ)) (stalls : List StallSeen) → WritesFrom s bounds holds old old stalls stalls status.NoMemory
from_nothing (Book name) bounds holds old stalls = of_no_memory bounds holds name old old stalls stalls refl refl
from_nothing (Generated n) bounds holds old stalls = nothing_written bounds (generated n) true old old stalls stalls refl refl

from_order : (o : Order) (holds : List ℕ → Option (List ℕ)) (old : Option (List ℕ)) (stalls : List StallSeen) → WritesOrder o holds old old stalls stalls status.NoMemory
from_order (Transcript command) holds old stalls = from_nothing command.source command.bounds holds old stalls
from_order (Proof bounds name part) holds old stalls = unwritten bounds part holds name old stalls
from_order (Judge workers cnf log) holds old stalls = (refl, refl)

if_any : {A : Type 0} (P : A → Type 0) (o : Option A) → ((x : A) → P x) → IfSome o P
if_any P None f = tt
if_any P (Some x) f = f x

pub returns-in-Err-clause-no_command : goal.returns-in-Err-clause-no_command
returns-in-Err-clause-no_command g c = none_known (order_of (map string_bytes c.args.words.now)) (inr (inr refl))

pub returns-in-Err-clause-usage_front : goal.returns-in-Err-clause-usage_front
returns-in-Err-clause-usage_front g c = none_known (order_of (map string_bytes c.args.words.now)) (λ e. absurd cc)

pub returns-in-Err-clause-usage_memory : goal.returns-in-Err-clause-usage_memory
returns-in-Err-clause-usage_memory g c = none_known (order_of (map string_bytes c.args.words.now)) (λ e. refl)

pub returns-in-Err-clause-unread : goal.returns-in-Err-clause-unread
returns-in-Err-clause-unread g c = none_known (order_of (map string_bytes c.args.words.now)) refl

pub returns-in-Err-clause-unstalled : goal.returns-in-Err-clause-unstalled
returns-in-Err-clause-unstalled g c = none_known (order_of (map string_bytes c.args.words.now)) refl

pub returns-in-Err-clause-written : goal.returns-in-Err-clause-written
returns-in-Err-clause-written g c =
    if_any _ (order_of (map string_bytes c.args.words.now)) (λ order e. from_order order (g.S.Shelf.holds c.args.shelf.now) (g.K.Sink.written c.args.out.now.sink) c.args.out.now.stalls)
