use Rattle.gl_logic.specs.Assignments.{value_at}
use Rattle.sym_prims.specs.Applying.{Leaves}
use Rattle.gl_symbolic.proofs.Parameters.{IsRead}
use Rattle.gl_symbolic.proofs.parametrised.through.Given as goal

abbrev pub invariant-loop-k : goal.invariant-loop-k
invariant-loop-k g l = record {
  leaves : Leaves g.B.Meaning l.fn.objs l.objs;
  read : IsRead (λ e. g.B.Meaning.truth_of l.fn.objs.store e (value_at l.a)) l.edges l.found l.k;
}
