use Rattle.std.proofs.Common.{◌≡◌, ℕ, Bool, length}
use Rattle.gl_logic.specs.TwosComplement.{bits_of}
use Rattle.sym_bits.specs.Integers.{AllLive, bits_under}
use Rattle.sym_prims.proofs.constants.bits_of_constant.Given as goal

abbrev pub invariant-loop-k : goal.invariant-loop-k
invariant-loop-k g l = record {
  live : AllLive g.B.Meaning l.store l.bits;
  width : length l.bits ≡ l.k;
  value : (x : ℕ → Bool) → bits_under g.B.Meaning l.store l.bits x ≡ bits_of l.k l.fn.i;
}
