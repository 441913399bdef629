use Rattle.std.proofs.Common.{rules, ◌∙◌, ap, pos}
use Rattle.std.proofs.lemmas.Int.{to_z-of_z}
use Rattle.std.specs.Int.{w128}
use Rattle.std.specs.Prelude.{int_lt}
use Rattle.int_prims.proofs.FarBits.{far_bit}
use Rattle.int_prims.proofs.bits.bit.Goals as goal

pub returns-then-place-gt127 : goal.returns-then-place-gt127
returns-then-place-gt127 c = ap (λ z. int_lt z (pos 0)) (to_z-of_z w128 c.args.a c.ranges.a) ∙ far_bit c.args.place c.args.a c.ranges.a (search rules)
