use Rattle.gl_book.specs.Phases.{jobs_of}
use Rattle.gl_book.proofs.Gathered.{Gathering}
use Rattle.gl_book.proofs.gather.gather.Given as goal

abbrev pub invariant-loop-i : goal.invariant-loop-i
invariant-loop-i l = Gathering (jobs_of l.waiting) l.fn.answers.items l.i l.gathered.items l.given.items
