-- What a value of the program asks for.
use Rattle.std.specs.Prelude.{◌≤◌}
use Rattle.gl_decide.specs.Bounds.{bounds_of}
use Rattle.gl_words.specs.Words.{Source, Book, Generated, Command, Order, Transcript, Proof, Judge}
use Rattle.gl_words.specs.declared.words.Source.{Source as GivenSource}
use Rattle.gl_words.specs.declared.words.Source.TheVariants as given
use Rattle.gl_words.specs.declared.words.Command.{Command as GivenCommand}
use Rattle.gl_words.specs.declared.orders.Order.{Order as GivenOrder}
use Rattle.gl_words.specs.declared.orders.Order.TheVariants as asked

abbrev pub source_seen : GivenSource → Source
source_seen (given.Book name) = Book name.now
source_seen (given.Generated n) = Generated n

abbrev pub command_seen : GivenCommand → Command
command_seen command = record { workers = command.limits.workers; bounds = bounds_of command.limits; source = source_seen command.source }

abbrev pub order_seen : GivenOrder → Order
order_seen (asked.Transcript command) = Transcript (command_seen command)
order_seen (asked.Proof proof) = Proof (bounds_of proof.limits) proof.name.now proof.part
order_seen (asked.Judge pair) = Judge pair.workers pair.cnf.now pair.log.now

-- as many theorems as the generator gives
abbrev pub IsFew : GivenSource → Type 0
IsFew (given.Book name) = Unit {0}
IsFew (given.Generated n) = n ≤ 10000

-- as many theorems, or workers, as there may be
abbrev pub IsWithin : GivenOrder → Type 0
IsWithin (asked.Transcript command) = IsFew command.source
IsWithin (asked.Proof proof) = Unit {0}
IsWithin (asked.Judge pair) = (1 ≤ pair.workers) × (pair.workers ≤ 8)
