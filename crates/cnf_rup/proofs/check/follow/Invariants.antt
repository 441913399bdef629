use Rattle.std.proofs.Common.{◌≡◌, ◌≤◌, ◌+◌, drop}
use Rattle.cnf_rup.specs.Shown.{stop}
use Rattle.cnf_rup.specs.Books.{clauses_of}
use Rattle.cnf_rup.proofs.check.follow.Given as goal

abbrev pub invariant-loop-hint : goal.invariant-loop-hint
invariant-loop-hint l = record {
  rest : stop (clauses_of l.entries) l.trail.literals l.place (drop l.hint-index l.hints) ≡ stop (clauses_of l.entries) l.fn.trail.literals 0 l.hints;
  place : l.place + l.trail.unset ≤ l.trail.room;
  room : l.trail.room ≡ l.fn.trail.room;
}
