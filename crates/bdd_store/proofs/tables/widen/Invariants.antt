use Rattle.std.proofs.Common.{◌≡◌, ◌≤◌, ◌<◌, List, length, vec_capacity}
use Rattle.bdd_store.specs.declared.node.Node.{Node}
use Rattle.bdd_store.specs.Inside.{AreAnswers}
use Rattle.bdd_store.proofs.tables.widen.Given as goal

abbrev pub invariant-loop-place : goal.invariant-loop-place
invariant-loop-place l = record {
  len : length l.entries.items ≡ l.count;
  answers : (nodes : List Node) → 0 < length nodes → AreAnswers nodes l.fn.entries.items → AreAnswers nodes l.entries.items;
  room : vec_capacity l.fn.entries ≤ vec_capacity l.entries;
}
