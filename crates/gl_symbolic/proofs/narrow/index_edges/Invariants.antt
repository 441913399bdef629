use Rattle.std.proofs.Common.{◌≡◌, length}
use Rattle.sym_prims.specs.Applying.{Leaves}
use Rattle.gl_symbolic.specs.Narrowing.{IsNarrowed}
use Rattle.gl_symbolic.proofs.narrow.index_edges.Given as goal

abbrev pub invariant-loop-k : goal.invariant-loop-k
invariant-loop-k g l = record {
  leaves : Leaves g.B.Meaning l.fn.objs l.objs;
  narrowed : IsNarrowed g.B.Meaning l.objs l.fn.hyp l.edges.items;
  count : length l.edges.items ≡ l.k;
}
