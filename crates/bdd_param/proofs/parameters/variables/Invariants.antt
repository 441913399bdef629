use Rattle.std.proofs.Common.{◌≤◌, max}
use Rattle.bfr_store.specs.Keeps.{Grows}
use Rattle.bdd_store.specs.contracts.bits.BddMeaning.TheImpl as diagrams
use Rattle.bdd_param.specs.Kept.{AreVariables}
use Rattle.bdd_param.proofs.parameters.variables.Given as goal

abbrev pub invariant-loop-k : goal.invariant-loop-k
invariant-loop-k l = record {
  grows : Grows diagrams.ghosts l.fn.store l.store;
  wide : l.fn.store.width ≤ l.store.width;
  width : l.store.width ≤ max l.fn.store.width l.k;
  variables : AreVariables l.store l.k l.edges;
}
