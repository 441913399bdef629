use Rattle.gl_logic.specs.TermOf.{term_of}
use Rattle.lisp_eval.proofs.StateTurns.{Stands, turns_left}
use Rattle.lisp_eval.proofs.run.take_turns.Given as goal

abbrev pub invariant-loop-focus : goal.invariant-loop-focus
invariant-loop-focus l = Stands l.setting.world.now l.setting.functions.now l.fn.env.value.items (term_of l.term) l.limit l.fn.arena l.left l.focus l.frames.items l.arena l.alists l.memos

abbrev pub decreases-loop-focus : goal.decreases-loop-focus
decreases-loop-focus l = turns_left l.left l.focus l.frames.items
