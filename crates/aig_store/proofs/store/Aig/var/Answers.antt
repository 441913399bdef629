use Rattle.std.proofs.Common.{◌≡◌, ◌++◌, ◌∷◌, [], ◌<◌, ap, ◌∙◌, refl, arith, length, rules}
use Rattle.std.proofs.lemmas.List.{length_push}
use Rattle.aig_store.specs.declared.node.AigNode.{AigNode}
use Rattle.aig_store.specs.declared.node.AigNode.TheVariants.{Var}
use Rattle.aig_store.specs.Nodes.{Graph, node_at}
use Rattle.aig_store.specs.Inside.{IsOrdered}
use Rattle.aig_store.proofs.Nodes.{plain-says, variable-at}
use Rattle.aig_store.proofs.Pushes.{truth-before, node-last, ordered-push, ordered-widen}
use Rattle.aig_store.proofs.store.Aig.var.Goals as goal

pub returns-in-Some-clause-makes : goal.returns-in-Some-clause-makes
returns-in-Some-clause-makes c =
    let nodes = c.args.self.now.nodes in
    let o = c.width_of-width.ensures.ordered in
    let found = c.in-Some.ensures.found in
    let small : c.args.k < c.args.self.now.width = variable-at nodes _ o c.in-Some.found c.args.k found.1 found.2 in
    record {
      grows = search rules;
      same_spent = refl;
      width = omega (arith, small);
      live = omega (arith, found.1, c.regular.ensures);
      truth = λ a. plain-says nodes _ o c.in-Some.found c.regular.result (Var c.args.k) c.regular.ensures found.1 found.2 a;
      full = tt;
    }

pub returns-clause-makes : goal.returns-clause-makes
returns-clause-makes c =
    let old = c.args.self.now.nodes in
    let node : AigNode = Var c.args.k in
    let is : c.push-number.new.self.nodes ≡ old ++ node ∷ [] = ap (λ (s : Graph). s.nodes) c.push-number.ensures.added ∙ ap (λ (s : Graph). s.nodes ++ node ∷ []) c.widen.ensures in
    let number : c.push-number.result ≡ length old = c.push-number.ensures.number ∙ ap (λ (s : Graph). length s.nodes) c.widen.ensures in
    let o : IsOrdered c.push-number.new.self.nodes c.max.result = rw is (ordered-push old node c.max.result (ordered-widen old _ c.max.result c.width_of-width.ensures.ordered (omega (arith, c.max.ensures))) (omega (arith, c.max.ensures))) in
    let last : node_at c.push-number.new.self.nodes c.push-number.result ≡ node = rw is (node-last old node c.push-number.result number) in
    let within : c.push-number.result < length c.push-number.new.self.nodes = rw is (omega (arith, number, length_push old node)) in
    record {
      grows = record {
        stays = λ e h. rw is (omega (arith, h, length_push old node));
        same = λ e a h. rw is (truth-before old node e a h);
        same_limit = ap (λ (s : Graph). s.limit) c.push-number.ensures.added ∙ ap (λ (s : Graph). s.limit) c.widen.ensures;
        same_budget = refl;
        no_fewer = rw is (omega (arith, length_push old node));
      };
      same_spent = refl;
      width = ap (λ (s : Graph). s.width) c.push-number.ensures.added ∙ ap (λ (s : Graph). s.width) c.widen.ensures ∙ search rules;
      live = omega (arith, within, c.regular-2.ensures);
      truth = λ a. plain-says c.push-number.new.self.nodes _ o c.push-number.result c.regular-2.result node c.regular-2.ensures within last a;
      full = tt;
    }
