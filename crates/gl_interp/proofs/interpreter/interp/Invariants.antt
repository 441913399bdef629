use Rattle.gl_logic.specs.TermOf.{term_of}
use Rattle.gl_interp.specs.TurnsLeft.{turns_left}
use Rattle.gl_interp.specs.Whole.{Running}
use Rattle.gl_interp.proofs.interpreter.interp.Given as goal

abbrev pub invariant-loop-focus : goal.invariant-loop-focus
invariant-loop-focus g l =
    Running g.B.Meaning l.fn.objs (record { world = l.world; machine = l.fn.machine; clock = l.fn.clock; term = term_of l.fn.term; env = l.fn.env; path = l.fn.path }) l.objs l.machine l.envs l.onward l.frames l.focus

abbrev pub decreases-loop-focus : goal.decreases-loop-focus
decreases-loop-focus g l = turns_left l.world.definitions l.frames l.focus
