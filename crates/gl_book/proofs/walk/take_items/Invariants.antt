use Rattle.std.proofs.Common.{◌≡◌}
use Rattle.gl_decide.specs.Bounds.{bounds_of}
use Rattle.gl_book.specs.Courses.{Stands, course_from, place_at}
use Rattle.gl_book.proofs.walk.take_items.Given as goal

abbrev pub invariant-loop-i : goal.invariant-loop-i
invariant-loop-i g l = record {
  faults : g.O.Observer.faults l.out ≡ g.O.Observer.faults l.fn.out;
  texts : l.texts ≡ l.fn.texts;
  stands :
      Stands l.fn.texts (bounds_of l.run.limits.now) l.run.last_only (course_from l.book (place_at l.fn.progress (g.O.Observer.written l.fn.out) (g.O.Observer.stalls l.fn.out))) l.i
      (place_at l.progress (g.O.Observer.written l.out) (g.O.Observer.stalls l.out));
}
