use Rattle.std.proofs.Common.{◌≡◌, ◌<◌, ◌+◌, ◌++◌, ◌∷◌, [], Bool, true, false, cond, refl, sym, ap, ◌∙◌, arith, length, rules}
use Rattle.std.proofs.lemmas.List.{length_push}
use Rattle.bfr_store.specs.Edges.{node_of}
use Rattle.bdd_store.specs.declared.node.Node.{Node}
use Rattle.bdd_store.specs.Nodes.{Diagrams, node_at, truth_of}
use Rattle.bdd_store.specs.Inside.{IsBranch, IsDistinct, IsOrdered}
use Rattle.bdd_store.proofs.Nodes.{top-constant}
use Rattle.bdd_store.proofs.Drawn.{variable-says, true-says, false-says}
use Rattle.bdd_store.proofs.Pushes.{truth-before, node-last, ordered-push, ordered-widen, distinct-push}
use Rattle.bdd_store.proofs.Canonical.{only_edge}
use Rattle.bdd_store.proofs.Room.{few}
use Rattle.bdd_store.proofs.Held.{unheld_branch, held_as}
use Rattle.bdd_store.proofs.bits.BddBits.var.Goals as goal
use Rattle.bdd_store.proofs.bits.BddBits.var.Goals.{After-max, After-edge_of-2}

pub returns-in-Some-clause-makes : goal.returns-in-Some-clause-makes
returns-in-Some-clause-makes c = record {
  grows = search rules;
  same_spent = refl;
  width = search rules;
  live = search rules;
  truth = λ a. variable-says c.args.self.now.nodes _ c.width_of-width.ensures.ordered c.edge_of.result (node_at c.args.self.now.nodes c.in-Some.found) c.args.k c.edge_of.ensures.truth c.in-Some.ensures.found.2 a;
  full = search rules;
}

branch : (c : After-max) → IsBranch c.args.self.now.nodes c.max.result (length c.args.self.now.nodes) (record { variable = c.args.k; high = record { number = 0 }; low = record { number = 1 } })
branch c =
    let nodes = c.args.self.now.nodes in
    let o = c.width_of-width.ensures.ordered in
    record {
      high_below = o.some;
      low_below = o.some;
      regular = refl;
      differ = λ e. omega arith;
      above_high = omega (arith, top-constant nodes _ o (record { number = 0 }) refl, c.requires);
      above_low = omega (arith, top-constant nodes _ o (record { number = 1 }) refl, c.requires);
      in_width = omega (arith, c.max.ensures);
    }

pub push-number-requires-clause-branch : goal.push-number-requires-clause-branch
push-number-requires-clause-branch c = rw c.widen.ensures (branch ((goal.at.push-number-requires-clause-branch c).After-max))

nodes_are : (c : After-edge_of-2) → c.push-number.new.self.nodes ≡ c.args.self.now.nodes ++ record { variable = c.args.k; high = record { number = 0 }; low = record { number = 1 } } ∷ []
nodes_are c = ap (λ (s : Diagrams). s.nodes) c.push-number.ensures.added ∙ ap (λ (s : Diagrams). s.nodes ++ record { variable = c.args.k; high = record { number = 0 }; low = record { number = 1 } } ∷ []) c.widen.ensures

live_after : (c : After-edge_of-2) → node_of c.edge_of-2.result < length c.push-number.new.self.nodes
live_after c = rw (nodes_are c) (omega (arith, c.edge_of-2.ensures.node, c.push-number.ensures.number, ap (λ (s : Diagrams). length s.nodes) c.widen.ensures, length_push c.args.self.now.nodes (record { variable = c.args.k; high = record { number = 0 }; low = record { number = 1 } })))

ordered_after : (c : After-edge_of-2) → IsBranch c.args.self.now.nodes c.max.result (length c.args.self.now.nodes) (record { variable = c.args.k; high = record { number = 0 }; low = record { number = 1 } }) → IsOrdered c.push-number.new.self.nodes c.max.result
ordered_after c b =
    let old = c.args.self.now.nodes in
    let o = c.width_of-width.ensures.ordered in
    rw (nodes_are c) (ordered-push old (record { variable = c.args.k; high = record { number = 0 }; low = record { number = 1 } }) c.max.result (ordered-widen old _ c.max.result o (omega (arith, c.max.ensures)) (omega (arith, c.max.ensures, c.requires, o.narrow))) b)

pub returns-clause-makes : goal.returns-clause-makes
returns-clause-makes c =
    let d = (goal.at.returns-clause-makes c).After-max in
    let old = c.args.self.now.nodes in
    let node : Node = record { variable = c.args.k; high = record { number = 0 }; low = record { number = 1 } } in
    let is = nodes_are c in
    let o = ordered_after c (branch d) in
    let last : node_at c.push-number.new.self.nodes c.push-number.result ≡ node = rw is (node-last old node c.push-number.result (c.push-number.ensures.number ∙ ap (λ (s : Diagrams). length s.nodes) c.widen.ensures)) in
    record {
      grows = record {
        stays = λ e h. rw is (omega (arith, h, length_push old node));
        same = λ e a h. rw is (truth-before old node e a h);
        same_limit = ap (λ (s : Diagrams). s.limit) c.push-number.ensures.added ∙ ap (λ (s : Diagrams). s.limit) c.widen.ensures;
        same_budget = refl;
        no_fewer = rw is (omega (arith, length_push old node));
      };
      same_spent = refl;
      width = ap (λ (s : Diagrams). s.width) c.push-number.ensures.added ∙ ap (λ (s : Diagrams). s.width) c.widen.ensures ∙ search rules;
      live = live_after c;
      truth = λ a. variable-says c.push-number.new.self.nodes _ o c.edge_of-2.result (node_at c.push-number.new.self.nodes c.push-number.result) c.args.k c.edge_of-2.ensures.truth last a;
      full = tt;
    }

pub returns-in-Some-clause-only : goal.returns-in-Some-clause-only
returns-in-Some-clause-only c =
    let f = c.width_of-width.ensures in
    only_edge c.args.self.now _ f.ordered f.distinct c.edge_of.result (omega (arith, c.edge_of.ensures.node, c.in-Some.ensures.found.1))

pub returns-clause-only : goal.returns-clause-only
returns-clause-only c =
    let node : Node = record { variable = c.args.k; high = record { number = 0 }; low = record { number = 1 } } in
    let distinct : IsDistinct c.push-number.new.self.nodes = rw (nodes_are c) (distinct-push c.args.self.now.nodes node c.width_of-width.ensures.distinct c.in_default.ensures.absent) in
    only_edge c.push-number.new.self c.max.result (ordered_after c (branch ((goal.at.returns-clause-only c).After-max))) distinct c.edge_of-2.result (live_after c)

pub returns-then-len-limit-clause-unheld : goal.returns-then-len-limit-clause-unheld
returns-then-len-limit-clause-unheld c = λ held.
    let nodes = c.args.self.now.nodes in
    let o = c.width_of-width.ensures.ordered in
    let d = c.width_of-width.ensures.distinct in
    let n : Node = record { variable = c.args.k; high = record { number = 0 }; low = record { number = 1 } } in
    let is : IsBranch nodes (c.args.k + 1) (length nodes) n = record {
      high_below = o.some;
      low_below = o.some;
      regular = refl;
      differ = λ e. omega arith;
      above_high = omega (arith, top-constant nodes _ o n.high refl, c.requires);
      above_low = omega (arith, top-constant nodes _ o n.low refl, c.requires);
      in_width = omega arith;
    } in
    unheld_branch nodes _ o d (c.args.k + 1) n is c.requires c.in_default.ensures.absent
    (held_as nodes _ o d (λ a. a c.args.k) (λ a. cond (a c.args.k) (truth_of nodes n.high a) (truth_of nodes n.low a))
    (λ a. sym (cond_same (a c.args.k)) ∙ (λ i. cond (a c.args.k) (sym (true-says nodes _ o n.high refl a) i) (sym (false-says nodes _ o n.low refl a) i))) held)
  where
    cond_same : (b : Bool) → cond b true false ≡ b
    cond_same true = refl
    cond_same false = refl

pub returns-then-len-limit-clause-room : goal.returns-then-len-limit-clause-room
returns-then-len-limit-clause-room c = λ narrow small room.
    absurd (omega (arith, few c.args.self.now.nodes _ c.width_of-width.ensures.ordered c.width_of-width.ensures.distinct narrow))
