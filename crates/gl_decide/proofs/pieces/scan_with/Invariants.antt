use Rattle.std.proofs.Common.{◌≡◌, true}
use Rattle.std.specs.Prelude.{◌↔◌}
use Rattle.shape_spec.specs.TheoremSeen.{theorem_seen}
use Rattle.gl_decide.specs.Scans.{NoneRefutes, SomeMeets}
use Rattle.gl_decide.specs.Trials.{IsReady}
use Rattle.gl_decide.proofs.pieces.scan_with.Given as goal

abbrev pub invariant-loop-number : goal.invariant-loop-number
invariant-loop-number l = record {
  ready : IsReady l.world (theorem_seen l.thm) l.machine;
  limit : l.machine.arena.limit ≡ l.fn.machine.arena.limit;
  steps : l.machine.steps ≡ l.fn.machine.steps;
  none : NoneRefutes l.world (theorem_seen l.thm) l.first l.number;
  some : (l.met ≡ true) ↔ SomeMeets l.world (theorem_seen l.thm) l.first l.number;
}
