-- A function by the first variable that it depends on.
use Rattle.std.proofs.Common.{◌≡◌, ◌≢◌, ℕ, ◌+◌, ◌%◌, ◌<◌, ◌≤◌, Bool, true, false, not, cond, eqb, List, sym, ap, ◌∙◌, subst, refl, inl, inr, arith}
use Rattle.std.proofs.lemmas.Bool.{cases_lt}
use Rattle.std.proofs.lemmas.Bool.Decides.{nat_tests}
use Rattle.bfr_store.specs.declared.edge.Edge.{Edge}
use Rattle.bfr_store.specs.Edges.{node_of, is_flipped, truth_at, xor}
use Rattle.bdd_store.specs.declared.node.Node.{Node}
use Rattle.bdd_store.specs.Nodes.{Diagrams, IsLive, node_at, top_of, truth_of}
use Rattle.bdd_store.specs.Inside.{IsBranch, IsOrdered, IsDistinct}
use Rattle.bdd_store.specs.Tests.{DependsBelow, DependsPast, IsTest}
use Rattle.bdd_store.proofs.Canonical.{with_value, at_itself, unique, later-says}
use Rattle.bdd_store.proofs.Dependence.{agree}
use Rattle.bdd_store.proofs.Nodes.{above_high, above_low, branches-say, constant-says}

-- what is past a variable depends on later ones alone
pub depends_past : (s : Diagrams) (e : Edge) (v : ℕ) → IsOrdered s.nodes s.width → IsLive s e → v < top_of s.nodes e → DependsPast s e v
depends_past s e v o live past a b same = agree s.nodes s.width o e live a b (λ k from to. same k (omega (arith, past, from)))

at_earlier : (a : ℕ → Bool) (v : ℕ) (x : Bool) (k : ℕ) → k < v → with_value a v x k ≡ a k
at_earlier a v x k h = ap (λ t. cond t x (a k)) (off k v h)
  where
    off : (k v : ℕ) → k < v → eqb k v ≡ false
    off k v h = grind (arith, nat_tests)

-- an edge that is one of two different edges by a variable depends on that variable
module _ (s : Diagrams) (o : IsOrdered s.nodes s.width) (d : IsDistinct s.nodes) (e high low : Edge) (v : ℕ) (high_live : IsLive s high) (low_live : IsLive s low) (high_past : v < top_of s.nodes high) (low_past : v < top_of s.nodes low) (differ : high.number ≢ low.number) (says : (a : ℕ → Bool) → truth_of s.nodes e a ≡ cond (a v) (truth_of s.nodes high a) (truth_of s.nodes low a)) where
  at_value : (a : ℕ → Bool) (x : Bool) → truth_of s.nodes e (with_value a v x) ≡ cond x (truth_of s.nodes high a) (truth_of s.nodes low a)
  at_value a x =
      says (with_value a v x)
      ∙ (λ i. cond (at_itself a v x i) (later-says s.nodes s.width o high high_live v high_past x a i) (later-says s.nodes s.width o low low_live v low_past x a i))

  pub needs : (n : ℕ) → DependsBelow s e n → v < n
  needs n below = elim (cases_lt v n) [
    | inl h ↦ h
    | inr other ↦
        let from : n ≤ v = other in
        absurd (differ (unique s.nodes s.width o d high low high_live low_live (λ a.
        sym (at_value a true) ∙ below (with_value a v true) (with_value a v false) (λ k to. at_earlier a v true k (omega (arith, to, from)) ∙ sym (at_earlier a v false k (omega (arith, to, from)))) ∙ at_value a false)))
  ]

-- the two edges that a node's edge leads to, complemented with it
module _ (s : Diagrams) (o : IsOrdered s.nodes s.width) (d : IsDistinct s.nodes) (e high low : Edge) (n : Node) (flag : Bool) (is : n ≡ node_at s.nodes (node_of e)) (positive : 0 < node_of e) (live : IsLive s e) (flag_is : flag ≡ is_flipped e) (high_node : node_of high ≡ node_of n.high) (low_node : node_of low ≡ node_of n.low) where
  here : IsBranch s.nodes s.width (node_of e) n
  here = subst (λ m. IsBranch s.nodes s.width (node_of e) m) (sym is) (o.branches (node_of e) positive live)

  pub test_made : (differ : high.number ≢ low.number) → ((values : List Bool) → truth_at values high ≡ xor flag (truth_at values n.high)) → ((values : List Bool) → truth_at values low ≡ xor flag (truth_at values n.low)) → IsTest s e (record { variable = n.variable; high = high; low = low })
  test_made differ says_high says_low =
      let b = here in
      let high_live : IsLive s high = omega (arith, b.high_below, high_node, live) in
      let low_live : IsLive s low = omega (arith, b.low_below, low_node, live) in
      let past_high = above_high s.nodes s.width o e high n is positive live high_node in
      let past_low = above_low s.nodes s.width o e low n is positive live low_node in
      let says = branches-say s.nodes s.width o e high low n flag is positive live flag_is says_high says_low in
      record {
        high = high_live;
        low = low_live;
        high_below = omega (arith, b.high_below, high_node);
        low_below = omega (arith, b.low_below, low_node);
        in_width = b.in_width;
        differ = differ;
        says = says;
        high_past = depends_past s high n.variable o high_live past_high;
        low_past = depends_past s low n.variable o low_live past_low;
        needed = needs s o d e high low n.variable high_live low_live past_high past_low differ says;
      }

  pub flipped_differ : (flag ≡ false → high ≡ n.high) → (flag ≡ false → low ≡ n.low) → (flag ≡ true → high.number % 2 + n.high.number % 2 ≡ 1) → (flag ≡ true → low.number % 2 + n.low.number % 2 ≡ 1) → high.number ≢ low.number
  flipped_differ plain_high plain_low turned_high turned_low = at flag refl where
    at : (f : Bool) → flag ≡ f → high.number ≢ low.number
    at false h = λ same. here.differ (sym (ap (λ (x : Edge). x.number) (plain_high h)) ∙ same ∙ ap (λ (x : Edge). x.number) (plain_low h))
    at true h = λ same. here.differ (omega (arith, turned_high h, turned_low h, same, high_node, low_node))

xor_true : (f : Bool) → xor f true ≡ not f
xor_true true = refl
xor_true false = refl

pub always : (s : Diagrams) (e : Edge) → IsOrdered s.nodes s.width → node_of e ≡ 0 → (a : ℕ → Bool) → truth_of s.nodes e a ≡ not (is_flipped e)
always s e o is a = constant-says s.nodes s.width o e is a ∙ xor_true (is_flipped e)
