use Rattle.std.proofs.Common.{◌≡◌, ◌≤◌, ◌<◌, ◌++◌, length, IfSome}
use Rattle.sym_objects.specs.declared.sob.Sob.{Sob}
use Rattle.sym_objects.specs.Integers.{bits_behind}
use Rattle.sym_objects.specs.Seen.{bits_in}
use Rattle.sym_objects.proofs.BitsOf.{turns_left}
use Rattle.sym_objects.proofs.sobs.Sobs.bits_of.Given as goal

abbrev pub invariant-loop-rest : goal.invariant-loop-rest
invariant-loop-rest g l = record {
  are : l.bits ++ bits_behind (bits_in l.self.nodes) l.rest ≡ bits_in l.self.nodes l.fn.s;
  rest : IfSome l.rest (λ (r : Sob). (r.number < length l.self.nodes) × (1 ≤ length (bits_in l.self.nodes r)));
  most : length (bits_in l.self.nodes l.fn.s) ≤ 128;
}

abbrev pub decreases-loop-rest : goal.decreases-loop-rest
decreases-loop-rest g l = turns_left l.rest
