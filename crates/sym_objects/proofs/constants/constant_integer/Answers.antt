use Rattle.std.proofs.Common.{rules, ◌≡◌, ◌∙◌, ap, map}
use mir.Val.{to_z, of_z}
use mir.Syntax.{w128}
use Rattle.gl_logic.specs.Object.{Int}
use Rattle.gl_logic.specs.TwosComplement.{integer_of}
use Rattle.sym_objects.proofs.FromArena.{makes_as}
use Rattle.sym_objects.proofs.constants.constant_integer.Goals as goal

pub returns-clause-makes : goal.returns-clause-makes
returns-clause-makes g c =
    let bits = c.bits_of_integer-bits in
    let is : to_z w128 (of_z w128 c.args.i) ≡ c.args.i = search rules in
    makes_as g.B.Meaning c.args.objs.now c.integer.new.self c.integer.result (λ a. Int (integer_of (map (λ e. g.B.Meaning.truth_of c.args.objs.now.store e a) bits.result))) (λ a. Int c.args.i)
    (λ a. ap Int (bits.ensures.value a ∙ is)) c.integer.ensures.makes
