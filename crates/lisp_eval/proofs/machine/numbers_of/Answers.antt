use Rattle.std.proofs.Common.{◌∙◌, ap, sym, ◌++◌, ◌∷◌, []}
use Rattle.gl_logic.proofs.CellCounts.{take_next}
use Rattle.lisp_eval.proofs.machine.numbers_of.Goals as goal

pub loop-i-preserved : goal.loop-i-preserved
loop-i-preserved c =
    c.in_ok-push.ensures.items ∙ (ap (λ zs. zs ++ c.at.result.now.number ∷ []) c.loop-i.invariant ∙ sym (take_next c.args.memoized.now c.loop-i.i c.at.result.now.number c.at.ensures))
