use Rattle.std.proofs.Common.{◌≡◌, ◌+◌, false}
use Rattle.cnf_rup.specs.Books.{holds_empty}
use Rattle.sat_core.specs.Decisions.{IsBookOf}
use Rattle.sat_core.proofs.Books.{IsLeft}
use Rattle.sat_core.proofs.decide.search_for.Given as goal

abbrev pub invariant-loop-learned : goal.invariant-loop-learned
invariant-loop-learned l = record {
  graph : l.aig ≡ l.fn.aig;
  out : l.out ≡ l.fn.out;
  book : IsBookOf l.fn.aig.nodes l.e l.book l._learned;
  none : holds_empty l.book.entries ≡ false;
  budget : IsLeft l.fn.left l.book l.left l.free;
  taken : l._learned + (l.left + l.free) ≡ l.fn.left + 1000000;
}
