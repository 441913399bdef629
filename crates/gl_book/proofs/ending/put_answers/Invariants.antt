use Rattle.std.proofs.Common.{◌≡◌, ◌≤◌, ◌++◌, length, take, drop}
use Rattle.std.specs.List.{flat_map}
use Rattle.std.specs.Vec.Iter.{into_iter_items, into_iter_len}
use Rattle.gl_base.specs.Outside.{Grows}
use Rattle.gl_book.specs.Courses.{counts_after, phase_lines}
use Rattle.gl_book.specs.Entry.{stalls_of}
use Rattle.gl_book.specs.Phases.{jobs_of}
use Rattle.gl_book.specs.Stops.{told_before}
use Rattle.gl_book.proofs.ending.put_answers.Given as goal

abbrev pub invariant-loop-answer : goal.invariant-loop-answer
invariant-loop-answer g l = record {
  counted : into_iter_len l.answer-iterator ≡ length (into_iter_items l.answer-iterator);
  within : l.i ≤ length l.fn.answers.items;
  rest : into_iter_items l.answer-iterator ≡ drop l.i l.fn.answers.items;
  faults : g.O.Observer.faults l.out ≡ g.O.Observer.faults l.fn.out;
  writes : Grows (g.O.Observer.written l.fn.out) (g.O.Observer.written l.out) (told_before l.run.last_only (phase_lines l.texts (take l.i (jobs_of l.waiting)) (take l.i l.fn.answers.items)));
  keeps : g.O.Observer.stalls l.out ≡ g.O.Observer.stalls l.fn.out ++ flat_map stalls_of (take l.i l.fn.answers.items);
  counts : l.counts ≡ counts_after l.fn.start (take l.i l.fn.answers.items);
}
