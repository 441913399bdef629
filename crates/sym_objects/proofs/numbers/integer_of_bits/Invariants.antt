use Rattle.std.proofs.Common.{◌≡◌, ◌<◌, ℕ, Bool, length}
use Rattle.sym_objects.proofs.Halves.{from_place}
use Rattle.sym_objects.proofs.numbers.integer_of_bits.Given as goal

abbrev pub invariant-loop-k : goal.invariant-loop-k
invariant-loop-k g l = record {
  value : (a : ℕ → Bool) → from_place (λ e. g.B.Meaning.truth_of l.objs.store e a) l.bits l.k ≡ l.value;
  within : l.k < length l.bits;
}
