use Rattle.std.proofs.Common.{◌≡◌, ℕ, ◌<◌, ◌/◌, ◌^◌, length}
use Rattle.gl_logic.specs.Assignments.{value_at}
use Rattle.shape_spec.specs.InputMeant.{assignment_numbered}
use Rattle.shape_spec.proofs.numbers.set_number.Given as goal

abbrev pub invariant-loop-k : goal.invariant-loop-k
invariant-loop-k l = record {
  width : length l.a ≡ l.width;
  rest : l.rest ≡ l.number / 2 ^ l.k;
  done : (j : ℕ) → j < l.k → value_at l.a j ≡ assignment_numbered l.number j;
}
