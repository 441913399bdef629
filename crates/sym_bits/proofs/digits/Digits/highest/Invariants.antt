use Rattle.std.proofs.Common.{◌≡◌, ◌≤◌, Bool, map, length, take}
use Rattle.bfr_store.specs.declared.edge.Edge.{Edge}
use Rattle.sym_bits.specs.Columns.{onto, sign_value}
use Rattle.sym_bits.proofs.digits.Digits.highest.Given as goal

abbrev pub invariant-loop-len : goal.invariant-loop-len
invariant-loop-len l = record {
  most : l.len ≤ length l.self;
  value : (truth : Edge → Bool) → onto (map truth (take l.len l.self)) (sign_value (truth l.sign)) ≡ onto (map truth l.self) (sign_value (truth l.sign));
}

abbrev pub decreases-loop-len : goal.decreases-loop-len
decreases-loop-len l = l.len
