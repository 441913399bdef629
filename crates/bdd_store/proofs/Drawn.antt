-- Edges that are drawn from others, and what plans say in a store.
use Rattle.std.proofs.Common.{◌≡◌, ℕ, ◌-◌, ◌%◌, eqb, ◌<◌, ◌≤◌, ◌&&◌, min, Bool, true, false, cond, List, length, refl, ap, ◌∙◌, inl, inr, arith}
use Rattle.std.proofs.lemmas.Bool.{cases_eq}
use Rattle.bfr_store.specs.declared.edge.Edge.{Edge}
use Rattle.bfr_store.specs.Edges.{node_of, xor}
use Rattle.bdd_store.specs.declared.node.Node.{Node}
use Rattle.bdd_store.specs.Nodes.{past, node_at, top_of, truth_of}
use Rattle.bdd_store.specs.Inside.{IsOrdered}
use Rattle.bdd_store.specs.Plans.{IsDrawn}
use Rattle.bdd_store.proofs.Nodes.{constant-says, top-constant, top-in_width}

module _ (nodes : List Node) (width : ℕ) (o : IsOrdered nodes width) where
  pub top_le : (e : Edge) → node_of e < length nodes → top_of nodes e ≤ past
  top_le e live = elim (cases_eq (node_of e) 0) [
    | inl is ↦ omega (arith, top-constant nodes width o e is)
    | inr other ↦ omega (arith, o.narrow, top-in_width nodes width o e (omega arith) live)
  ]

  pub drawn_live : (t x y r : Edge) → IsDrawn t x y r → node_of t < length nodes → node_of x < length nodes → node_of y < length nodes → node_of r < length nodes
  drawn_live t x y r h t_live x_live y_live =
      omega (arith, h (λ n. length nodes - n) 1 (omega (arith, o.some)) (omega arith) (omega arith) (omega arith))

  pub drawn_above : (t x y r : Edge) → IsDrawn t x y r → node_of t < length nodes → node_of x < length nodes → node_of y < length nodes → min (top_of nodes t) (min (top_of nodes x) (top_of nodes y)) ≤ top_of nodes r
  unfolding top_of
  drawn_above t x y r h t_live x_live y_live =
      let m = min (top_of nodes t) (min (top_of nodes x) (top_of nodes y)) in
      let below : m ≤ past = omega (arith, top_le t t_live) in
      h (λ n. (node_at nodes n).variable) m (omega (arith, below, ap (λ (n : Node). n.variable) o.first)) (omega arith) (omega arith) (omega arith)

  pub false-says : (e : Edge) → e.number ≡ 1 → (a : ℕ → Bool) → truth_of nodes e a ≡ false
  false-says e is a = constant-says nodes width o e (omega (arith, is)) a ∙ ap (λ n. xor (eqb (n % 2) 1) true) is

  pub true-says : (e : Edge) → e.number ≡ 0 → (a : ℕ → Bool) → truth_of nodes e a ≡ true
  true-says e is a = constant-says nodes width o e (omega (arith, is)) a ∙ ap (λ n. xor (eqb (n % 2) 1) true) is

  -- an edge of the node that tests a variable alone
  pub variable-says : (e : Edge) (n : Node) (k : ℕ) → ((a : ℕ → Bool) → truth_of nodes e a ≡ cond (a n.variable) (truth_of nodes n.high a) (truth_of nodes n.low a)) → n ≡ record { variable = k; high = record { number = 0 }; low = record { number = 1 } } → (a : ℕ → Bool) → truth_of nodes e a ≡ a k
  variable-says e n k says is a =
      says a
      ∙ (λ i. cond (a (is i).variable) (truth_of nodes (is i).high a) (truth_of nodes (is i).low a))
      ∙ (λ i. cond (a k) (true-says (record { number = 0 }) refl a i) (false-says (record { number = 1 }) refl a i))
      ∙ cond-same (a k)
    where
      cond-same : (b : Bool) → cond b true false ≡ b
      cond-same true = refl
      cond-same false = refl

-- a choice beside the constant false is a conjunction
pub cond-false : (x y f : Bool) → f ≡ false → cond x y f ≡ (x && y)
cond-false true y f h = refl
cond-false false y f h = h

-- the branches of a conjunction
pub cond-and : (b p q r s : Bool) → cond b (p && q) (r && s) ≡ (cond b p r && cond b q s)
cond-and true p q r s = refl
cond-and false p q r s = refl
