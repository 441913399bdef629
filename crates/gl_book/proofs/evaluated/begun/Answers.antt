use Rattle.std.proofs.Common.{sym, subst, ℕ}
use Rattle.gl_logic.specs.TermOf.{term_of}
use Rattle.lisp_eval.specs.MachineCalls.{RefusesForCells}
use Rattle.gl_decide.specs.Bounds.{bounds_of}
use Rattle.gl_book.specs.Answers.{LacksValue}
use Rattle.gl_book.specs.declared.answer.Cause.{Cause}
use Rattle.gl_book.proofs.Refusals.{not_begun}
use Rattle.gl_book.proofs.evaluated.begun.Goals as goal

pub returns-in-Err-clause-cause : goal.returns-in-Err-clause-cause
returns-in-Err-clause-cause c =
    let bounds = bounds_of c.args.limits.now in
    let w = c.args.world.now in
    let t = term_of c.args.term.now in
    let refuses : RefusesForCells w bounds.cells c.begin.result = subst (λ (k : ℕ). RefusesForCells w k c.begin.result) c.in-Ok.ensures.cells c.begin.ensures.cells in
    subst (λ (k : Cause). LacksValue bounds w c.args.memoized.now t k) (sym c.cause_of.ensures) (not_begun bounds w c.args.memoized.now t c.count-count.ensures.total c.requires.term c.in-Err.fault c.begin.result c.in-Err.is refuses)
