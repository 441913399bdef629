use Rattle.bfr_store.specs.Keeps.{Keeps}
use Rattle.bdd_store.specs.contracts.bits.BddMeaning.TheImpl as diagrams
use Rattle.bdd_param.specs.Merged.{IsMerged}
use Rattle.bdd_param.proofs.merge.merged.Given as goal

abbrev pub invariant-loop-k : goal.invariant-loop-k
invariant-loop-k l = record {
  keeps : Keeps diagrams.ghosts l.fn.store l.store;
  merged : IsMerged l.fn.store l.store l.test l.high l.low l.edges l.k;
}
