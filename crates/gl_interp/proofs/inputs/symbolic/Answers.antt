use Rattle.std.proofs.Common.{◌≡◌, ◌+◌, refl, subst, sym, arith, List}
use Rattle.std.proofs.lemmas.Result.{IfOk-weaker}
use Rattle.bfr_store.specs.declared.edge.Edge.{Edge}
use Rattle.shape_spec.specs.Indices.{width_of}
use Rattle.gl_interp.specs.Causes.{StandsFor, StandsOver}
use Rattle.gl_interp.proofs.InputParts.{AreVariables, stands_for_variables, variables_more}
use Rattle.gl_interp.proofs.inputs.symbolic.Goals as goal

pub loop-k-preserved : goal.loop-k-preserved
loop-k-preserved g c =
    let v = c.in_ok-edge.ensures in
    variables_more g.B.Meaning c.args.objs.now c.loop-k.objs c.variable.new.objs c.loop-k.edges.items c.push.new.self.items c.in_ok-edge.edge c.loop-k.k (c.loop-k.k + 1) c.loop-k.invariant refl v.grows v.width v.live v.truth c.in_ok-push.ensures.items

pub returns-clause-stands : goal.returns-clause-stands
returns-clause-stands g c =
    let m = g.B.Meaning in
    let old = c.args.objs.now in
    let mid = c.loop-k.objs in
    let new = c.symbolic_over.new.objs in
    let b = c.args.b.now in
    let es = c.as_slice.result.now in
    let v = subst (λ (xs : List Edge). AreVariables m old mid xs c.loop-k.k) (sym c.as_slice.ensures.value) c.loop-k.invariant in
    let all : c.loop-k.k ≡ width_of b = omega (arith, c.loop-k-test.false, c.loop-k.auto.k-end, c.bit_count-k-end.ensures.count) in
    IfOk-weaker c.symbolic_over.result (StandsOver m mid new b es) (StandsFor m new b) (λ env p. stands_for_variables m old mid new b es c.loop-k.k env v all c.symbolic_over.ensures.keeps p) c.symbolic_over.ensures.stands
