use Rattle.std.proofs.Common.{◌≡◌, ◌∙◌, sym, subst, ap, ℕ, Bool, List, true, false, map}
use Rattle.std.specs.List.{All}
use Rattle.bfr_store.specs.declared.edge.Edge.{Edge}
use Rattle.sym_objects.specs.Keeps.{Grows}
use Rattle.shape_spec.specs.Indices.{width_of}
use Rattle.gl_symbolic.specs.Decisions.{HasRunOut, IsProper, stopped_by}
use Rattle.gl_symbolic.specs.Parameters.{Parametrises, StandsAt, moved_by}
use Rattle.gl_symbolic.specs.Steps.{IsHypothesis}
use Rattle.shape_spec.specs.declared.theorem.Part.TheVariants.{Concl}
use Rattle.gl_symbolic.proofs.Parameters.{moved_stop, moved_out, cause_width, out_moved, parametrises_later, tells_conclusion, truths_same}
use Rattle.gl_symbolic.proofs.parametrised.conclude_at.Goals as goal

pub condition-requires-clause-reaches : goal.condition-requires-clause-reaches
condition-requires-clause-reaches g c =
    ((λ k. false), ap (λ s. g.B.Meaning.truth_of s.store c.constant_edge-always.result (λ k. false)) c.constant_edge-always.ensures.same ∙ c.constant_edge-always.ensures.truth (λ k. false))

pub refute_at-requires-clause-vector : goal.refute_at-requires-clause-vector
refute_at-requires-clause-vector g c =
    let m = g.B.Meaning in
    let s = c.args.objs.now in
    let mid = c.condition.new.objs in
    parametrises_later m s mid (subst (λ o. Grows m o mid) c.constant_edge-always.ensures.same c.in-Ok.ensures.leaves.grows) c.args.hyp (width_of c.args.thm.now.bindings) c.args.edges.now c.requires.hyp.live c.requires.vector

pub refute_at-requires-clause-concl : goal.refute_at-requires-clause-concl
refute_at-requires-clause-concl g c =
    let m = g.B.Meaning in
    let s = c.args.objs.now in
    let here = c.constant_edge-always.new.objs in
    let mid = c.condition.new.objs in
    let thm = c.args.thm.now in
    let back : s ≡ here = sym c.constant_edge-always.ensures.same in
    tells_conclusion m here mid c.args.world.now thm c.args.edges.now c.args.env.now c.constant_edge-always.result c.in-Ok.concl c.in-Ok.ensures.leaves.grows
    (subst (λ o. All (m.live o.store) c.args.edges.now) back c.requires.vector.live)
    (subst (λ o. StandsAt m o thm c.args.edges.now c.args.env.now) back c.requires.input)
    (λ a. ap (λ o. m.truth_of o.store c.constant_edge-always.result a) (sym back) ∙ c.constant_edge-always.ensures.truth a) c.in-Ok.ensures.edge

pub moved-requires-clause-width : goal.moved-requires-clause-width
moved-requires-clause-width g c =
    let m = g.B.Meaning in
    let s = c.args.objs.now in
    let w = c.args.world.now in
    let thm = c.args.thm.now in
    let machine = c.args.machine.now in
    let here = c.constant_edge-always.new.objs in
    let mid = c.condition.new.objs in
    let edges = c.args.edges.now in
    let back : s ≡ here = sym c.constant_edge-always.ensures.same in
    let vector = subst (λ o. Parametrises m o c.args.hyp (width_of thm.bindings) edges) back c.requires.vector in
    let hypothesis = subst (λ o. IsHypothesis m o w thm c.args.hyp) back c.requires.hyp in
    let stands = subst (λ o. StandsAt m o thm edges c.args.env.now) back c.requires.input in
    cause_width m here mid w thm machine c.args.env.now c.constant_edge-always.result c.args.hyp edges hypothesis vector stands c.requires.ready (m.width_of mid.store) (sym c.in-Err.ensures.leaves.width) c.in-Err.fault c.in-Err.ensures.cause

pub returns-in-Ok-moved-clause-proper : goal.returns-in-Ok-moved-clause-proper
returns-in-Ok-moved-clause-proper g c =
    let m = g.B.Meaning in
    let s = c.args.objs.now in
    let w = c.args.world.now in
    let thm = c.args.thm.now in
    let machine = c.args.machine.now in
    let here = c.constant_edge-always.new.objs in
    let mid = c.condition.new.objs in
    let edges = c.args.edges.now in
    let back : s ≡ here = sym c.constant_edge-always.ensures.same in
    let vector = subst (λ o. Parametrises m o c.args.hyp (width_of thm.bindings) edges) back c.requires.vector in
    let bits : (λ (a : ℕ → Bool). map (λ e. m.truth_of mid.store e a) edges) ≡ (λ (a : ℕ → Bool). map (λ e. m.truth_of here.store e a) edges) = λ i a. truths_same m here mid c.in-Err.ensures.leaves.grows edges a vector.live i in
    let stop = moved_stop m here mid w thm machine c.args.env.now c.constant_edge-always.result c.args.hyp edges
    (subst (λ o. IsHypothesis m o w thm c.args.hyp) back c.requires.hyp) vector (subst (λ o. StandsAt m o thm edges c.args.env.now) back c.requires.input) c.requires.ready c.in-Err.fault c.in-Err.ensures.cause in
    subst (λ d. IsProper w machine.steps machine.arena.limit thm d) (sym (c.stopped.ensures.by ∙ ap (stopped_by Concl) (c.in-Ok-moved.ensures.moved ∙ ap (λ (v : (ℕ → Bool) → List Bool). moved_by v c.in-Err.fault) bits))) stop

pub returns-in-Ok-moved-clause-run_out : goal.returns-in-Ok-moved-clause-run_out
returns-in-Ok-moved-clause-run_out g c =
    let m = g.B.Meaning in
    let s = c.args.objs.now in
    let w = c.args.world.now in
    let thm = c.args.thm.now in
    let machine = c.args.machine.now in
    let here = c.constant_edge-always.new.objs in
    let mid = c.condition.new.objs in
    let edges = c.args.edges.now in
    let back : s ≡ here = sym c.constant_edge-always.ensures.same in
    let vector = subst (λ o. Parametrises m o c.args.hyp (width_of thm.bindings) edges) back c.requires.vector in
    let hypothesis = subst (λ o. IsHypothesis m o w thm c.args.hyp) back c.requires.hyp in
    let stands = subst (λ o. StandsAt m o thm edges c.args.env.now) back c.requires.input in
    let old_bits : (ℕ → Bool) → List Bool = λ a. map (λ e. m.truth_of here.store e a) edges in
    let bits : (λ (a : ℕ → Bool). map (λ e. m.truth_of mid.store e a) edges) ≡ old_bits = λ i a. truths_same m here mid c.in-Err.ensures.leaves.grows edges a vector.live i in
    let out = moved_out m here mid w thm machine c.args.env.now c.constant_edge-always.result c.args.hyp edges hypothesis vector stands c.requires.ready c.in-Err.fault c.in-Err.ensures.cause in
    subst (λ d. HasRunOut m c.moved.new.objs d) (sym (c.stopped.ensures.by ∙ ap (stopped_by Concl) (c.in-Ok-moved.ensures.moved ∙ ap (λ (v : (ℕ → Bool) → List Bool). moved_by v c.in-Err.fault) bits)))
    (out_moved m mid c.moved.new.objs old_bits c.in-Err.fault c.in-Ok-moved.ensures.still out)

pub returns-in-Ok-clause-proper : goal.returns-in-Ok-clause-proper
returns-in-Ok-clause-proper g c = c.refute_at.ensures.proper c.args.machine.now.steps c.args.machine.now.arena.limit
