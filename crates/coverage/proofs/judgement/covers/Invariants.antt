use Rattle.std.proofs.Common.{◌≡◌, drop}
use Rattle.gl_logic.specs.TermOf.{term_of}
use Rattle.coverage.specs.Covered.{first_uncovered}
use Rattle.coverage.proofs.judgement.covers.Given as goal

abbrev pub invariant-loop-i : goal.invariant-loop-i
invariant-loop-i l = record {
  rest : first_uncovered (term_of l.hyp) (term_of l.concl) (drop l.i l.bindings) ≡ first_uncovered (term_of l.hyp) (term_of l.concl) l.bindings;
}
