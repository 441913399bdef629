use Rattle.std.proofs.Common.{◌∙◌, ap, ℕ, Bool, List, map}
use Rattle.bfr_store.specs.declared.edge.Edge.{Edge}
use Rattle.gl_logic.specs.Object.{Int}
use Rattle.gl_logic.specs.TwosComplement.{integer_of}
use Rattle.shape_spec.specs.ShapeSeen.{Integer}
use Rattle.gl_interp.proofs.ShapeObjects.{all_bits_live, bits_hold, object_of_makes}
use Rattle.gl_interp.proofs.shapes.integer_over.Goals as goal

pub integer-requires-clause-edges : goal.integer-requires-clause-edges
integer-requires-clause-edges g c = all_bits_live g.B.Meaning c.args.objs.now c.args.b.now c.args.edges.now c.requires.count c.requires.edges c.args.indices.now c.bits_of-bits.result c.requires.among c.bits_of-bits.ensures

pub returns-clause-object : goal.returns-clause-object
returns-clause-object g c =
    let m = g.B.Meaning in
    let old = c.args.objs.now in
    object_of_makes m old c.args.b.now c.args.edges.now c.requires.count c.requires.edges c.integer.new.self c.integer.result (λ (a : ℕ → Bool). Int (integer_of (map (λ e. m.truth_of old.store e a) c.bits_of-bits.result))) (Integer c.args.indices.now)
    (λ a. ap (λ (bs : List Bool). Int (integer_of bs)) (ap (λ (es : List Edge). map (λ e. m.truth_of old.store e a) es) c.bits_of-bits.ensures ∙ bits_hold m old c.args.b.now c.args.edges.now c.requires.count c.requires.edges a c.args.indices.now c.requires.among)) c.integer.ensures.makes
