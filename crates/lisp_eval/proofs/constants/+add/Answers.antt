use Rattle.gl_logic.proofs.CellCounts.{constants_next}
use Rattle.lisp_eval.proofs.PlacedConstants.{behind_more}
use Rattle.lisp_eval.proofs.constants.+add.Goals as goal

pub add_all-loop-term-preserved : goal.add_all-loop-term-preserved
add_all-loop-term-preserved t c =
    behind_more _ _ _ _ _ _ c.loop-term.invariant c.in_ok-add.ensures (constants_next c.args.terms.now c.loop-term.term-index c.term-item.result c.loop-term-test.true c.term-item.is)
