use Rattle.gl_logic.specs.TermOf.{term_of}
use Rattle.fast_alists.specs.Tables.{Agree}
use Rattle.hons_arena.specs.Held.{IsWhole}
use Rattle.lisp_eval.specs.Frameless.{GoesInto}
use Rattle.lisp_eval.specs.Sights.{Sees, Adds}
use Rattle.lisp_eval.specs.States.{env_of}
use Rattle.lisp_eval.proofs.frameless.advance.Given as goal

abbrev pub invariant-loop-step : goal.invariant-loop-step
invariant-loop-step l = record {
  whole : IsWhole l.arena;
  agree : Agree l.arena.objects l.alists;
  adds : Adds (Sees l.setting.world.now.definitions l.setting.functions.now (env_of l.fn.arena.objects l.fn.env.value.items) (term_of l.fn.term)) l.fn.arena l.arena;
  into : GoesInto l.setting.world.now.definitions l.setting.functions.now (env_of l.fn.arena.objects l.fn.env.value.items) (term_of l.fn.term) l.fn.left l.arena.objects l.here.items (term_of l.inner) l.rest;
}

abbrev pub decreases-loop-step : goal.decreases-loop-step
decreases-loop-step l = l.rest
