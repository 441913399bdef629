use Rattle.std.proofs.Common.{map, ◌≡◌, ◌∙◌, sym, subst, ap, Ok, Bool, ℕ, true, false, not, refl}
use Rattle.sym_objects.specs.Keeps.{Grows}
use Rattle.gl_logic.specs.Assignments.{value_at}
use Rattle.gl_symbolic.specs.Decisions.{HasRunOut}
use Rattle.gl_symbolic.proofs.Parameters.{all_meet, of_vector, refuted_at, some_meets, truths_same}
use Rattle.gl_symbolic.proofs.Stopped.{given_up_out, no_wide}
use Rattle.gl_symbolic.proofs.parametrised.refute_at.Goals as goal

true_where : (b c : Bool) → b ≡ not c → b ≡ false → c ≡ true
true_where b true e h = refl
true_where b false e h = absurd cc

false_where : (b c : Bool) → b ≡ not c → b ≡ true → c ≡ false
false_where b true e h = absurd cc
false_where b false e h = refl

pub given_up-requires : goal.given_up-requires
given_up-requires g c = no_wide g.B.Meaning c.reach.new.objs c.args.concl c.in-Err.fault (c.in-Err.ensures.cause c.args.concl)

pub returns-clause-run_out : goal.returns-clause-run_out
returns-clause-run_out g c = subst (λ d. HasRunOut g.B.Meaning c.reach.new.objs d) (sym c.given_up.ensures.by) (given_up_out g.B.Meaning c.reach.new.objs c.args.concl c.in-Err.fault (c.in-Err.ensures.cause c.args.concl))

pub returns-in-Ok-None-clause-proper : goal.returns-in-Ok-None-clause-proper
returns-in-Ok-None-clause-proper g c steps cells =
    let m = g.B.Meaning in
    let s = c.args.objs.now in
    let w = c.args.world.now in
    let thm = c.args.thm.now in
    let none = c.reach.ensures.never (c.in-Ok-None.is ∙ ap Ok c.in-Ok-None.field-0-is) in
    let always : (a : ℕ → Bool) → m.truth_of s.store c.args.concl a ≡ true = λ a. true_where _ _ (c.complement-fails.ensures.truth a) (ap (λ o. m.truth_of o.store c.complement-fails.result a) (sym c.complement-fails.ensures.same) ∙ none a) in
    (all_meet m s w thm c.args.hyp c.args.edges.now c.requires.hyp c.requires.vector c.args.concl c.requires.concl always, some_meets m s w thm c.args.hyp c.args.edges.now c.requires.hyp c.requires.vector)

pub returns-in-Ok-clause-proper : goal.returns-in-Ok-clause-proper
returns-in-Ok-clause-proper g c steps cells =
    let m = g.B.Meaning in
    let s = c.args.objs.now in
    let w = c.args.world.now in
    let thm = c.args.thm.now in
    let mid = c.reach.new.objs in
    let edges = c.args.edges.now in
    let a = value_at c.in-Ok-Some.found in
    let same = c.reach.ensures.leaves.grows.store.same in
    let here : c.complement-fails.new.objs ≡ s = c.complement-fails.ensures.same in
    let some = rw c.in-Ok-Some.field-0-is at c.in-Ok-Some.ensures.some in
    let found : m.truth_of s.store c.complement-fails.result a ≡ true = ap (λ o. m.truth_of o.store c.complement-fails.result a) (sym here) ∙ some.1 in
    let off : m.truth_of s.store c.args.concl a ≡ false = false_where _ _ (c.complement-fails.ensures.truth a) found in
    let is : c.in-Ok.input ≡ map (λ e. m.truth_of s.store e a) edges = c.in-Ok.ensures.through ∙ truths_same m s mid (subst (λ o. Grows m o mid) here c.reach.ensures.leaves.grows) edges a c.requires.vector.live in
    (of_vector m s w thm c.args.hyp edges c.requires.hyp c.requires.vector a c.in-Ok.input is, refuted_at m s w thm c.args.hyp edges c.requires.hyp c.requires.vector c.args.concl c.requires.concl a c.in-Ok.input is off)
