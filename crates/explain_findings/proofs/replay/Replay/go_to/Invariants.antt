use Rattle.std.proofs.Common.{◌≡◌, ◌≤◌, ◌-◌, [], take, drop}
use Rattle.gl_logic.specs.Names.{with_name}
use Rattle.explain_findings.specs.Replayed.{IsBehind}
use Rattle.explain_findings.proofs.replay.Replay.go_to.Given as goal

abbrev pub invariant-loop-item : goal.invariant-loop-item
invariant-loop-item o l = record {
  empty : with_name l.texts [] ≡ l.texts;
  next : l.self-inside.next ≡ l.item;
  forward : l.fn.self.next ≤ l.item;
  behind : IsBehind l.texts (take (l.item - l.fn.self.next) (drop l.fn.self.next l.library.items)) l.fn.self.state l.self-inside.state;
}
