use Rattle.std.proofs.Common.{◌≡◌, ◌≤◌, length}
use Rattle.sym_bits.specs.Columns.{shifted}
use Rattle.sym_bits.specs.Integers.{AllLive, bits_under}
use Rattle.sym_bits.specs.Gates.{GateLive, gate_integer}
use Rattle.sym_bits.specs.Calls.{Stands}
use Rattle.sym_bits.proofs.bitwise.bit_by_bit.Given as goal

abbrev pub invariant-loop-k : goal.invariant-loop-k
invariant-loop-k g l = record {
  gate : GateLive (g.B.Meaning.live l.store) l.gate;
  a : AllLive g.B.Meaning l.store l.a;
  b : AllLive g.B.Meaning l.store l.b;
  count : length l.digits ≡ l.k;
  value : Stands g.B.Meaning l.fn.store l.store l.digits
      (λ x. gate_integer (λ e. g.B.Meaning.truth_of l.fn.store e x) l.gate (shifted (bits_under g.B.Meaning l.fn.store l.a x) l.k) (shifted (bits_under g.B.Meaning l.fn.store l.b x) l.k))
      (λ x. gate_integer (λ e. g.B.Meaning.truth_of l.fn.store e x) l.gate (shifted (bits_under g.B.Meaning l.fn.store l.a x) 0) (shifted (bits_under g.B.Meaning l.fn.store l.b x) 0));
}
