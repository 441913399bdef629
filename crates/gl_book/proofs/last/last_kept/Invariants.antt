use Rattle.std.proofs.Common.{◌≡◌}
use Rattle.book_shelf.specs.declared.finish.Finish.TheVariants.{Clean}
use Rattle.gl_decide.specs.Bounds.{bounds_of}
use Rattle.gl_book.proofs.Lasts.{HasCome}
use Rattle.gl_book.proofs.last.last_kept.Given as goal

abbrev pub invariant-loop-i : goal.invariant-loop-i
invariant-loop-i l = record {
  texts : l.texts ≡ l.fn.texts;
  come : HasCome l.fn.texts (bounds_of l.limits) l.fn.state l.forms Clean l.i l.state l.last;
}
