use Rattle.std.proofs.Common.{◌≡◌, length}
use Rattle.gl_book.proofs.Gathered.{Taking}
use Rattle.gl_book.proofs.gather.next_verdicts.Given as goal

abbrev pub invariant-loop : goal.invariant-loop
invariant-loop l = record {
  taking : Taking l.count l.fn.given.items l.counter l.verdicts.items l.given.items;
  many : length l.verdicts.items ≡ l.counter;
}
