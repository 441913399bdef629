use Rattle.bdd_store.specs.contracts.bits.BddMeaning.TheImpl as diagrams
use Rattle.sat_core.specs.contracts.store.AigSatMeaning.TheImpl as search_graphs
use Rattle.std.proofs.Common.{arith, inr}
use Rattle.gl_decide.specs.Answered.{IsCoveredIn}
use Rattle.gl_decide.specs.Certificates.{unscanned}
use Rattle.gl_decide.specs.Bounds.{bounds_of}
use Rattle.shape_spec.specs.TheoremSeen.{theorem_seen}
use Rattle.gl_decide.proofs.Left.{ran_out}
use Rattle.gl_decide.proofs.Symbolic.{told_proper}
use Rattle.gl_decide.proofs.certify.decide_unscanned.Goals as goal

pub returns-in-Some-clause-proper : goal.returns-in-Some-clause-proper
returns-in-Some-clause-proper c =
    let d = c.decide_in_mode-decision in
    (ran_out diagrams.ghosts search_graphs.ghosts c.args.world.now (unscanned (bounds_of c.args.limits.now)) c.args.thm.now c.requires.covered (λ s e. absurd cc) d.result.0 c.in-Some.cause d.result.1 c.stalled.result c.in-Some.ensures (λ few. absurd (omega (arith, few, c.requires.some))) (λ _. inr c.stalled.ensures) d.ensures.room).0

pub returns-in-Some-clause-room : goal.returns-in-Some-clause-room
returns-in-Some-clause-room c =
    let d = c.decide_in_mode-decision in
    (ran_out diagrams.ghosts search_graphs.ghosts c.args.world.now (unscanned (bounds_of c.args.limits.now)) c.args.thm.now c.requires.covered (λ s e. absurd cc) d.result.0 c.in-Some.cause d.result.1 c.stalled.result c.in-Some.ensures (λ few. absurd (omega (arith, few, c.requires.some))) (λ _. inr c.stalled.ensures) d.ensures.room).1

pub returns-in-Ok-clause-proper : goal.returns-in-Ok-clause-proper
returns-in-Ok-clause-proper c =
    let known : IsCoveredIn c.args.world.now (theorem_seen c.args.thm.now) = record { ground = c.ground_calls.ensures.worlds _ _ c.count-count.ensures.world; total = c.count-count.ensures.total; hyp = c.requires.hyp; concl = c.requires.concl; bindings = c.bit_count-bits.ensures.proper; bound = c.requires.bound; covered = c.requires.covered } in
    told_proper c.args.world.now (unscanned (bounds_of c.args.limits.now)) c.args.thm.now known c.decide_in_mode-decision.result.0 c.in-Ok.verdict c.decide_in_mode-decision.ensures.proper c.in-Ok.ensures
