use Rattle.std.proofs.Common.{◌∙◌, subst, arith}
use Rattle.gl_logic.specs.Object.{boolean_object}
use Rattle.sym_objects.specs.declared.sob.Sob.{Sob}
use Rattle.sym_objects.specs.Nodes.{object_by}
use Rattle.sym_objects.specs.Seen.{IsLive, bits_in, stands_for}
use Rattle.sym_objects.specs.Truths.{IsChoiceOf, IsTruthOf, number_of}
use Rattle.sym_objects.proofs.Truths.{boolean_truth, other_truth, truth_by}
use Rattle.sym_objects.proofs.Walking.{turn_give, turn_two}
use Rattle.sym_objects.proofs.truth.visit.Goals as goal

pub returns-in-Some-clause-turn : goal.returns-in-Some-clause-turn
returns-in-Some-clause-turn g c =
    let s = c.args.objs.now in
    turn_give (IsTruthOf g.B.Meaning s) (IsTruthOf g.B.Meaning s) (IsChoiceOf s.nodes) (IsChoiceOf s.nodes) (IsLive s) number_of (λ k v r. r) (λ a b k m. m) c.args.frames.now c.args.x c.in-Some.known
    (subst (λ (x : Sob). IsTruthOf g.B.Meaning s x c.in-Some.known) c.key_of.ensures (c.requires.memo c.key_of.result c.in-Some.known c.in-Some.ensures))

pub returns-in-Boolean-clause-turn : goal.returns-in-Boolean-clause-turn
returns-in-Boolean-clause-turn g c =
    let s = c.args.objs.now in
    let e = c.in-Boolean.e in
    turn_give (IsTruthOf g.B.Meaning s) (IsTruthOf g.B.Meaning s) (IsChoiceOf s.nodes) (IsChoiceOf s.nodes) (IsLive s) number_of (λ k v r. r) (λ a b k m. m) c.args.frames.now c.args.x e
    (truth_by g.B.Meaning s c.args.x e (λ a. boolean_object (g.B.Meaning.truth_of s.store e a)) c.requires.live c.in-Boolean.ensures.edges c.in-Boolean.ensures.means (λ a. boolean_truth (g.B.Meaning.truth_of s.store e a)))

pub returns-in_ok-push-in-Choice-clause-turn : goal.returns-in_ok-push-in-Choice-clause-turn
returns-in_ok-push-in-Choice-clause-turn g c =
    let s = c.args.objs.now in
    let t = c.in-Choice in
    let p = t.ensures.proper in
    turn_two (IsTruthOf g.B.Meaning s) (IsTruthOf g.B.Meaning s) (IsChoiceOf s.nodes) (IsChoiceOf s.nodes) (IsLive s) number_of (λ k v r. r) (λ a b k m. m) c.args.frames.now c.push.new.self c.args.x t.first t.second
    c.in_ok-push-in-Choice.ensures.ok
    (record { first = omega (arith, p.0, c.requires.live); second = omega (arith, p.1, c.requires.live); whole = c.requires.live; test = t.field-0; is = t.ensures.node })
    (omega (arith, p.0, c.requires.live)) p.0 p.1

pub returns-in_default-clause-turn : goal.returns-in_default-clause-turn
returns-in_default-clause-turn g c =
    let s = c.args.objs.now in
    let e = c.constant_edge.result in
    turn_give (IsTruthOf g.B.Meaning s) (IsTruthOf g.B.Meaning s) (IsChoiceOf s.nodes) (IsChoiceOf s.nodes) (IsLive s) number_of (λ k v r. r) (λ a b k m. m) c.args.frames.now c.args.x e
    (truth_by g.B.Meaning s c.args.x e (λ a. object_by (λ k. g.B.Meaning.truth_of s.store k a) (λ y. stands_for g.B.Meaning s y a) c.inner.result) c.requires.live c.constant_edge.ensures.live c.inner.ensures.means
    (λ a. c.constant_edge.ensures.truth a ∙ other_truth (λ k. g.B.Meaning.truth_of s.store k a) (λ y. stands_for g.B.Meaning s y a) (bits_in s.nodes) c.args.x.number c.inner.result c.inner.ensures.proper c.in_default.not-Boolean c.in_default.not-Choice))
