use Rattle.std.proofs.Common.{◌≡◌, ℕ, Bool, ◌∙◌}
use Rattle.std.proofs.Math.Facts.{to_z-of_z}
use Rattle.std.specs.Int.{w128}
use Rattle.sym_prims.proofs.Leaving.{makes_same}
use Rattle.sym_prims.proofs.numbers.integer_of.Goals as goal

pub returns-clause-makes : goal.returns-clause-makes
returns-clause-makes g c =
    makes_same g.B.Meaning c.args.objs.now c.constant_bits-bits.new.objs c.integer.new.self c.integer.result c.constant_bits-bits.result c.args.i c.constant_bits-bits.ensures.same c.integer.ensures.makes (λ a. c.constant_bits-bits.ensures.value a ∙ to_z-of_z {w = w128} {z = c.args.i} c.ranges.i)
