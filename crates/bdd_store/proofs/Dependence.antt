-- What an edge says depends on the variables from its own up to the width alone.
use Rattle.std.proofs.Common.{◌≡◌, ℕ, zero, suc, ◌<◌, ◌≤◌, Bool, cond, List, length, sym, ◌∙◌, inl, inr, arith}
use Rattle.std.proofs.lemmas.Bool.{cases_eq}
use Rattle.bfr_store.specs.declared.edge.Edge.{Edge}
use Rattle.bfr_store.specs.Edges.{node_of, is_flipped, xor}
use Rattle.bdd_store.specs.declared.node.Node.{Node}
use Rattle.bdd_store.specs.Nodes.{node_at, top_of, truth_of}
use Rattle.bdd_store.specs.Inside.{IsOrdered, IsBranch}
use Rattle.bdd_store.proofs.Nodes.{constant-says, edge-says, top-at}

module _ (nodes : List Node) (width : ℕ) (o : IsOrdered nodes width) where
  agree-below : (bound : ℕ) (e : Edge) → node_of e < bound → node_of e < length nodes → (a b : ℕ → Bool) → ((k : ℕ) → top_of nodes e ≤ k → k < width → a k ≡ b k) → truth_of nodes e a ≡ truth_of nodes e b
  agree-below zero e small live a b same = absurd (omega (arith, small))
  agree-below (suc bound) e small live a b same = elim (cases_eq (node_of e) 0) [
    | inl is ↦ constant-says nodes width o e is a ∙ sym (constant-says nodes width o e is b)
    | inr other ↦
        let positive : 0 < node_of e = omega arith in
        let n = node_at nodes (node_of e) in
        let branch : IsBranch nodes width (node_of e) n = o.branches (node_of e) positive live in
        let top = top-at nodes e in
        let variable : a n.variable ≡ b n.variable = same n.variable (omega (arith, top)) branch.in_width in
        let high : truth_of nodes n.high a ≡ truth_of nodes n.high b = agree-below bound n.high (omega (arith, branch.high_below)) (omega (arith, branch.high_below)) a b (λ k from to. same k (omega (arith, top, branch.above_high, from)) to) in
        let low : truth_of nodes n.low a ≡ truth_of nodes n.low b = agree-below bound n.low (omega (arith, branch.low_below)) (omega (arith, branch.low_below)) a b (λ k from to. same k (omega (arith, top, branch.above_low, from)) to) in
        edge-says nodes width o e positive live a
        ∙ (λ i. xor (is_flipped e) (cond (variable i) (high i) (low i)))
        ∙ sym (edge-says nodes width o e positive live b)
  ]

  pub agree : (e : Edge) → node_of e < length nodes → (a b : ℕ → Bool) → ((k : ℕ) → top_of nodes e ≤ k → k < width → a k ≡ b k) → truth_of nodes e a ≡ truth_of nodes e b
  agree e live a b same = agree-below (suc (node_of e)) e (omega arith) live a b same
