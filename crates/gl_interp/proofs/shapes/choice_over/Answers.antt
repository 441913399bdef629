use Rattle.std.proofs.Common.{◌∙◌, ap, sym, subst, ℕ, Bool, cond}
use Rattle.bfr_store.specs.declared.edge.Edge.{Edge}
use Rattle.sym_objects.specs.Seen.{stands_for}
use Rattle.gl_interp.specs.Shapes.{holds_over}
use Rattle.gl_interp.proofs.ShapeObjects.{edge_holds, edge_live, makes_same}
use Rattle.gl_interp.proofs.shapes.choice_over.Goals as goal

pub merge-requires-clause-test : goal.merge-requires-clause-test
merge-requires-clause-test g c = subst (λ (e : Edge). g.B.Meaning.live c.args.objs.now.store e) (sym c.edge_of-edge.ensures) (edge_live g.B.Meaning c.args.objs.now c.args.b.now c.args.edges.now c.requires.count c.requires.edges c.args.index c.requires.among)

pub returns-clause-makes : goal.returns-clause-makes
returns-clause-makes g c =
    let m = g.B.Meaning in
    let old = c.args.objs.now in
    makes_same m old c.args.b.now c.args.edges.now c.requires.count c.requires.edges c.merge.new.self c.merge.result
    (λ (a : ℕ → Bool). cond (m.truth_of old.store c.edge_of-edge.result a) (stands_for m old c.args.x a) (stands_for m old c.args.y a))
    (λ (a : ℕ → Bool). cond (holds_over m old.store c.args.b.now c.args.edges.now a c.args.index) (stands_for m old c.args.x a) (stands_for m old c.args.y a))
    (λ a. ap (λ (t : Bool). cond t (stands_for m old c.args.x a) (stands_for m old c.args.y a)) (ap (λ (e : Edge). m.truth_of old.store e a) c.edge_of-edge.ensures ∙ edge_holds m old c.args.b.now c.args.edges.now c.requires.count c.requires.edges c.args.index (record { number = 0 }) a c.requires.among)) c.merge.ensures.makes
