use Rattle.std.proofs.Common.{◌≡◌, ◌∙◌, sym, subst, ap, ℕ, Bool, not, ◌&&◌}
use Rattle.shape_spec.specs.declared.theorem.Part.TheVariants.{Concl}
use Rattle.gl_symbolic.specs.Decisions.{IsProper, stopped_by}
use Rattle.gl_symbolic.proofs.Running.{of_concl, refutation_made}
use Rattle.gl_symbolic.proofs.Stopped.{part_stop}
use Rattle.gl_symbolic.proofs.runs.refutation.Goals as goal

pub returns-in-Err-clause-proper : goal.returns-in-Err-clause-proper
returns-in-Err-clause-proper g c =
    let w = c.args.world.now in
    let thm = c.args.thm.now in
    let m = c.args.machine.now in
    let old = c.args.objs.now in
    let stop : IsProper w m.steps m.arena.limit thm (stopped_by Concl c.in-Err.fault) =
    part_stop g.B.Meaning old c.condition.new.objs w thm m Concl c.args.env.now c.args.hyp c.in-Err.fault c.in-Err.ensures.cause c.requires.ready (λ a p. of_concl g.B.Meaning old w thm c.args.hyp a c.requires.width c.requires.hyp p) c.requires.input.input in
    subst (λ d. IsProper w m.steps m.arena.limit thm d) (sym c.stopped.ensures.by) stop

pub returns-in-Ok-conjunction-clause-edge : goal.returns-in-Ok-conjunction-clause-edge
returns-in-Ok-conjunction-clause-edge g c =
    let m = g.B.Meaning in
    let old = c.args.objs.now in
    let mid = c.condition.new.objs in
    let here = c.complement-fails.new.objs in
    let fails = c.complement-fails.result in
    let hyp = c.args.hyp in
    let concl = c.in-Ok.concl in
    let tells = c.in-Ok-conjunction.ensures.tells in
    let same = c.complement-fails.ensures.same in
    let truth : (a : ℕ → Bool) → m.truth_of c.conjunction.new.objs.store c.in-Ok-conjunction.edge a ≡ (m.truth_of old.store hyp a && not (m.truth_of mid.store concl a)) = λ a.
    tells.truth a
    ∙ (ap (λ s. m.truth_of s.store hyp a && m.truth_of s.store fails a) same
    ∙ (ap (λ b. b && m.truth_of mid.store fails a) (c.condition.ensures.leaves.grows.store.same hyp a c.requires.hyp.live)
    ∙ ap (λ b. m.truth_of old.store hyp a && b) (c.complement-fails.ensures.truth a))) in
    refutation_made m old mid c.conjunction.new.objs c.args.world.now c.args.thm.now c.args.env.now hyp concl c.in-Ok-conjunction.edge c.requires.hyp c.requires.input c.in-Ok.ensures.edge tells.live truth
