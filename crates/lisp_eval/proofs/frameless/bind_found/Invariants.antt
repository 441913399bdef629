use Rattle.std.proofs.Common.{◌-◌, ◌≤◌, length}
use Rattle.fast_alists.specs.Tables.{Agree}
use Rattle.hons_arena.specs.Held.{IsWhole}
use Rattle.lisp_eval.specs.Answers.{HasGrown}
use Rattle.lisp_eval.specs.Directs.{scope_env}
use Rattle.lisp_eval.proofs.NextBound.{BindsBehind}
use Rattle.lisp_eval.proofs.frameless.bind_found.Given as goal

abbrev pub invariant-loop-to : goal.invariant-loop-to
invariant-loop-to l = record {
  whole : IsWhole l.arena;
  grown : HasGrown l.fn.arena.objects l.arena.objects;
  agree : Agree l.arena.objects l.alists;
  within : l.from ≤ length l.terms;
  behind : BindsBehind l.setting.world.now.definitions l.setting.functions.now (scope_env l.fn.arena.objects l.scope) l.names l.terms l.fn.left l.fn.arena l.fn.next.items l.arena l.rest l.next.items l.from;
}

abbrev pub decreases-loop-to : goal.decreases-loop-to
decreases-loop-to l = length l.terms - l.from
