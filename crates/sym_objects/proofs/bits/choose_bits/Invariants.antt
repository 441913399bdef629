use Rattle.std.proofs.Common.{◌≡◌, length}
use Rattle.sym_objects.proofs.Chosen.{AreChosen}
use Rattle.sym_objects.proofs.bits.choose_bits.Given as goal

abbrev pub invariant-loop-k : goal.invariant-loop-k
invariant-loop-k g l = record {
  chosen : AreChosen g.B.Meaning l.test l.a l.b l.fn.objs l.objs l.bits;
  len : length l.bits ≡ l.k;
}
