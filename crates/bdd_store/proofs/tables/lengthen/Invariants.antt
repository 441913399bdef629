use Rattle.std.proofs.Common.{◌≡◌, ◌≤◌, ◌<◌, List, length, vec_capacity}
use Rattle.bdd_store.specs.declared.node.Node.{Node}
use Rattle.bdd_store.specs.Inside.{AreAnswers}
use Rattle.bdd_store.proofs.tables.lengthen.Given as goal

abbrev pub invariant-loop : goal.invariant-loop
invariant-loop l = record {
  len : length l.entries.items ≡ l.counter;
  answers : (nodes : List Node) → 0 < length nodes → AreAnswers nodes l.fn.entries.items → AreAnswers nodes l.entries.items;
  room : vec_capacity l.fn.entries ≤ vec_capacity l.entries;
}
