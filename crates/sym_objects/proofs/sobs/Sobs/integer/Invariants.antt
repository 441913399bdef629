use Rattle.std.proofs.Common.{◌≡◌, ◌<◌, length, drop}
use Rattle.sym_objects.specs.Bits.{trimmed}
use Rattle.sym_objects.specs.Integers.{AreBitsOf}
use Rattle.sym_objects.specs.Keeps.{Keeps}
use Rattle.sym_objects.specs.Seen.{IsLive, bits_in}
use Rattle.sym_objects.proofs.sobs.Sobs.integer.Given as goal

abbrev pub invariant-loop-k : goal.invariant-loop-k
invariant-loop-k g l = record {
  keeps : Keeps g.B.Meaning l.fn.self l.self;
  live : IsLive l.self l.rest;
  bits : AreBitsOf g.B.Meaning l.self l.rest (bits_in l.self.nodes l.rest);
  is : bits_in l.self.nodes l.rest ≡ trimmed (drop l.k l.bits);
  store : l.self.store ≡ l.fn.self.store;
  within : l.k < length l.bits;
}
