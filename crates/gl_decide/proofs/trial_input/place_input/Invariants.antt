use Rattle.std.proofs.Common.{◌≡◌, take}
use Rattle.std.specs.List.{All}
use Rattle.gl_logic.specs.WorldSeen.{WorldSeen}
use Rattle.hons_arena.specs.Held.{IsWhole}
use Rattle.lisp_eval.specs.Answers.{IsLiveBinding}
use Rattle.lisp_eval.specs.MachineCalls.{KeepsSettings}
use Rattle.lisp_eval.specs.Machines.{Fits}
use Rattle.lisp_eval.specs.States.{env_of}
use Rattle.gl_decide.specs.Placed.{AddsCellsOfInput}
use Rattle.gl_decide.proofs.trial_input.place_input.Given as goal

abbrev pub invariant-loop-i : goal.invariant-loop-i
invariant-loop-i l = record {
  live : All (IsLiveBinding l.machine.arena.objects) l.env;
  stands : env_of l.machine.arena.objects l.env ≡ take l.i l.input;
  adds : AddsCellsOfInput l.input l.fn.machine.arena.objects l.machine.arena.objects;
  whole : IsWhole l.machine.arena;
  settings : KeepsSettings l.fn.machine l.machine;
  memos : l.machine.memos ≡ l.fn.machine.memos;
  fits : (w : WorldSeen) → Fits w l.fn.machine → Fits w l.machine;
}
