use Rattle.std.proofs.Common.{◌∙◌, ap, sym, subst, ℕ, Bool}
use Rattle.bfr_store.specs.declared.edge.Edge.{Edge}
use Rattle.gl_logic.specs.Object.{boolean_object}
use Rattle.shape_spec.specs.ShapeSeen.{Boolean}
use Rattle.gl_interp.proofs.ShapeObjects.{edge_holds, edge_live, object_of_makes}
use Rattle.gl_interp.proofs.shapes.boolean_over.Goals as goal

pub boolean-requires-clause-edge : goal.boolean-requires-clause-edge
boolean-requires-clause-edge g c = subst (λ (e : Edge). g.B.Meaning.live c.args.objs.now.store e) (sym c.edge_of-edge.ensures) (edge_live g.B.Meaning c.args.objs.now c.args.b.now c.args.edges.now c.requires.count c.requires.edges c.args.index c.requires.among)

pub returns-clause-object : goal.returns-clause-object
returns-clause-object g c =
    let m = g.B.Meaning in
    let old = c.args.objs.now in
    object_of_makes m old c.args.b.now c.args.edges.now c.requires.count c.requires.edges c.boolean.new.self c.boolean.result (λ (a : ℕ → Bool). boolean_object (m.truth_of old.store c.edge_of-edge.result a)) (Boolean c.args.index)
    (λ a. ap boolean_object (ap (λ (e : Edge). m.truth_of old.store e a) c.edge_of-edge.ensures ∙ edge_holds m old c.args.b.now c.args.edges.now c.requires.count c.requires.edges c.args.index (record { number = 0 }) a c.requires.among)) c.boolean.ensures.makes
