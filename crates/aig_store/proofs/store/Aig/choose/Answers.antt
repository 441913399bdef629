use Rattle.std.proofs.Common.{◌≡◌, true, not, cond, ◌&&◌, ◌||◌, ap, sym, ◌∙◌, rules, ℕ, Bool}
use Rattle.bfr_store.specs.declared.edge.Edge.{Edge}
use Rattle.aig_store.specs.Nodes.{truth_of}
use Rattle.aig_store.proofs.Nodes.{values_of, constant_true, choice-says, choice-implied, choice-other, ok-then}
use Rattle.aig_store.proofs.store.Aig.choose.Goals as goal

pub returns-then-is_implied-clause-truth : goal.returns-then-is_implied-clause-truth
unfolding truth_of
returns-then-is_implied-clause-truth c =
    let old = c.args.self.now.nodes in
    ok-then c.either.result _ _ (λ (r : Edge) (says : (a : ℕ → Bool) → truth_of c.either.new.self.nodes r a ≡ (truth_of old c.args.t a || truth_of old c.args.y a)) (a : ℕ → Bool).
    says a ∙ choice-implied (truth_of old c.args.t a) (truth_of old c.args.x a) (truth_of old c.args.y a)
    (c.is_implied.ensures (search rules) (values_of old a) (constant_true old _ c.width_of-width.ensures.ordered a))) c.either.ensures.truth

pub returns-then-is_implied-2-clause-truth : goal.returns-then-is_implied-2-clause-truth
unfolding truth_of
returns-then-is_implied-2-clause-truth c =
    let old = c.args.self.now.nodes in
    ok-then c.either-then-is_implied-2.result _ _ (λ (r : Edge) (says : (a : ℕ → Bool) → truth_of c.either-then-is_implied-2.new.self.nodes r a ≡ (truth_of old c.complement-other.result a || truth_of old c.args.x a)) (a : ℕ → Bool).
    says a ∙ choice-other (truth_of old c.args.t a) (truth_of old c.complement-other.result a) (truth_of old c.args.x a) (truth_of old c.args.y a) (c.complement-other.ensures.truth (values_of old a))
    (c.is_implied-2.ensures (search rules) (values_of old a) (constant_true old _ c.width_of-width.ensures.ordered a))) c.either-then-is_implied-2.ensures.truth

pub returns-clause-truth : goal.returns-clause-truth
unfolding truth_of
returns-clause-truth c =
    let old = c.args.self.now.nodes in
    let t = c.args.t in let x = c.args.x in let y = c.args.y in
    let first = c.both.ensures.extends in
    let second = c.both-2.ensures.extends in
    let between = c.both.new.self.nodes in
    let high = c.in_ok-high.high in
    let low = c.in_ok-low.low in
    ok-then c.either-2.result _ _ (λ (r : Edge) (says : (a : ℕ → Bool) → truth_of c.either-2.new.self.nodes r a ≡ (truth_of c.both-2.new.self.nodes high a || truth_of c.both-2.new.self.nodes low a)) (a : ℕ → Bool).
    let high_says : truth_of c.both-2.new.self.nodes high a ≡ (truth_of old t a && truth_of old x a) = second.same high a c.in_ok-high.ensures.live ∙ c.in_ok-high.ensures.truth a in
    let other_says : truth_of between c.complement-other.result a ≡ not (truth_of old t a) = c.complement-other.ensures.truth (values_of between a) ∙ ap not (first.same t a c.requires.t) in
    let low_says : truth_of c.both-2.new.self.nodes low a ≡ (not (truth_of old t a) && truth_of old y a) = c.in_ok-low.ensures.truth a ∙ (λ j. other_says j && first.same y a c.requires.y j) in
    says a ∙ (λ j. high_says j || low_says j) ∙ choice-says (truth_of old t a) (truth_of old x a) (truth_of old y a)) c.either-2.ensures.truth
