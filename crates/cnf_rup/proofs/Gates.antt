-- The clauses of a cone say what its nodes say.
use Rattle.std.proofs.Common.{◌≡◌, ◌↔◌, ℕ, zero, suc, ℤ, pos, negsuc, ◌<◌, Bool, true, false, not, cond, ◌&&◌, ◌||◌, List, [], ◌∷◌, ◌++◌, length, get_or, refl, ap, ◌∙◌, sym, subst, arith, neg_ℤ}
use Rattle.std.specs.List.{All, Contains, flat_map}
use Rattle.std.proofs.lemmas.List.Elements.{All-append, All-cons, All-nil, All-head, All-tail, All-push, All-contains, Contains-append_left, Contains-append_right, Contains-push}
use Rattle.bfr_store.specs.declared.edge.Edge.{Edge}
use Rattle.bfr_store.specs.Edges.{node_of, is_flipped, xor}
use Rattle.aig_store.specs.declared.node.AigNode.{AigNode}
use Rattle.aig_store.specs.declared.node.AigNode.TheVariants.{Constant, Var, And}
use Rattle.aig_store.specs.Nodes.{node_at, truth_of}
use Rattle.aig_store.specs.Inside.{IsOrdered}
use Rattle.aig_store.specs.Walks.{value_of}
use Rattle.aig_store.proofs.Nodes.{gate-at, value-says}
use Rattle.cnf_rup.proofs.Parts.{all-front}
use Rattle.cnf_rup.specs.Literals.{holds, Satisfies, SatisfiesAll}
use Rattle.cnf_rup.specs.Cones.{at_root, at_first, at_second, IsCone}
use Rattle.cnf_rup.specs.Cnfs.{literal_at, literal_of, clauses_of_node, clauses_of_cone, IsCnfOf, IsExtension, Extends}

-- ---- what an edge's literal says
pub holds-edge : (b : ℕ → Bool) (e : Edge) → holds b (literal_of e) ≡ xor (is_flipped e) (b (suc (node_of e)))
holds-edge b e = by-sign (is_flipped e) (node_of e)
  where
    by-sign : (f : Bool) (n : ℕ) → holds b (cond f (negsuc n) (pos (suc n))) ≡ xor f (b (suc n))
    by-sign true n = refl
    by-sign false n = refl

pub holds-other : (b : ℕ → Bool) (e : Edge) → holds b (neg_ℤ (literal_of e)) ≡ not (xor (is_flipped e) (b (suc (node_of e))))
holds-other b e = by-sign (is_flipped e) (node_of e)
  where
    by-sign : (f : Bool) (n : ℕ) → holds b (neg_ℤ (cond f (negsuc n) (pos (suc n)))) ≡ not (xor f (b (suc n)))
    by-sign true n = twice (b (suc n))
      where
        twice : (v : Bool) → v ≡ not (not v)
        twice true = refl
        twice false = refl
    by-sign false n = refl

-- ---- the three clauses of a gate
gate-value : (g p q : Bool) → (not g || (p || false)) ≡ true → (not g || (q || false)) ≡ true → (g || (not p || (not q || false))) ≡ true → g ≡ (p && q)
gate-value true true true h k l = refl
gate-value true true false h k l = absurd cc
gate-value true false q h k l = absurd cc
gate-value false true true h k l = absurd cc
gate-value false true false h k l = refl
gate-value false false q h k l = refl

first-clause : (p q : Bool) → (not (p && q) || (p || false)) ≡ true
first-clause true true = refl
first-clause true false = refl
first-clause false q = refl

second-clause : (p q : Bool) → (not (p && q) || (q || false)) ≡ true
second-clause true true = refl
second-clause true false = refl
second-clause false q = refl

third-clause : (p q : Bool) → ((p && q) || (not p || (not q || false))) ≡ true
third-clause true true = refl
third-clause true false = refl
third-clause false q = refl

-- ---- clauses of a cone's node are clauses of the cone
pub flat-contains : (f : ℕ → List (List ℤ)) (cone : List ℕ) (i : ℕ) → Contains cone i → (c : List ℤ) → Contains (f i) c → Contains (flat_map f cone) c
flat-contains f [] i h c m = absurd (omega (arith, h.1))
flat-contains f (x ∷ xs) i (zero, under, is) c m = Contains-append_left (f x) (flat_map f xs) c (subst (λ (j : ℕ). Contains (f j) c) (sym is) m)
flat-contains f (x ∷ xs) i (suc k, under, is) c m = Contains-append_right (f x) (flat_map f xs) c (flat-contains f xs i (k, omega (arith, under), is) c m)

pub flat-all : {X Y : Type 0} (P : Y → Type 0) (f : X → List Y) (xs : List X) → All (λ x. All P (f x)) xs → All P (flat_map f xs)
flat-all P f [] h = All-nil P
flat-all P f (x ∷ xs) h = All-append P (f x) (flat_map f xs) (All-head (λ y. All P (f y)) x xs h) (flat-all P f xs (All-tail (λ y. All P (f y)) x xs h))

module _ (nodes : List AigNode) (width : ℕ) (o : IsOrdered nodes width) (b : ℕ → Bool) where
  -- b gives the variable of each node what the node says
  abbrev pub IsValued : (ℕ → Bool) → Type 0
  IsValued a = (i : ℕ) → i < length nodes → b (suc i) ≡ value_of nodes a i

  edge-value : (a : ℕ → Bool) (e : Edge) → node_of e < length nodes → b (suc (node_of e)) ≡ value_of nodes a (node_of e) → xor (is_flipped e) (b (suc (node_of e))) ≡ truth_of nodes e a
  unfolding truth_of
  edge-value a e live is = ap (xor (is_flipped e)) is

  -- ---- the values of the nodes satisfy the clauses
  module _ (a : ℕ → Bool) (are : IsValued a) where
    lit : (e : Edge) → node_of e < length nodes → holds b (literal_of e) ≡ truth_of nodes e a
    lit e live = holds-edge b e ∙ edge-value a e live (are (node_of e) live)

    other : (e : Edge) → node_of e < length nodes → holds b (neg_ℤ (literal_of e)) ≡ not (truth_of nodes e a)
    other e live = holds-other b e ∙ ap not (edge-value a e live (are (node_of e) live))

    gate-satisfied : (i : ℕ) → i < length nodes → (n : AigNode) → node_at nodes i ≡ n → All (Satisfies b) (clauses_of_node i n)
    gate-satisfied i live Constant at =
        let value : b (suc i) ≡ true = are i live ∙ value-says nodes width o i Constant live at a in
        All-cons (Satisfies b) (literal_at i ∷ []) [] (ap (λ v. v || false) value) (All-nil (Satisfies b))
    gate-satisfied i live (Var k) at = All-nil (Satisfies b)
    gate-satisfied i live (And x y) at =
        let g = gate-at nodes width o i x y live at in
        let x_live : node_of x < length nodes = omega (arith, g.apart, g.below, live) in
        let y_live : node_of y < length nodes = omega (arith, g.below, live) in
        let value : b (suc i) ≡ (truth_of nodes x a && truth_of nodes y a) = are i live ∙ value-says nodes width o i (And x y) live at a in
        let c1 : Satisfies b (negsuc i ∷ literal_of x ∷ []) = (λ j. not (value j) || (lit x x_live j || false)) ∙ first-clause (truth_of nodes x a) (truth_of nodes y a) in
        let c2 : Satisfies b (negsuc i ∷ literal_of y ∷ []) = (λ j. not (value j) || (lit y y_live j || false)) ∙ second-clause (truth_of nodes x a) (truth_of nodes y a) in
        let c3 : Satisfies b (literal_at i ∷ neg_ℤ (literal_of x) ∷ neg_ℤ (literal_of y) ∷ []) = (λ j. value j || (other x x_live j || (other y y_live j || false))) ∙ third-clause (truth_of nodes x a) (truth_of nodes y a) in
        All-cons (Satisfies b) (negsuc i ∷ literal_of x ∷ []) ((negsuc i ∷ literal_of y ∷ []) ∷ (literal_at i ∷ neg_ℤ (literal_of x) ∷ neg_ℤ (literal_of y) ∷ []) ∷ []) c1
        (All-cons (Satisfies b) (negsuc i ∷ literal_of y ∷ []) ((literal_at i ∷ neg_ℤ (literal_of x) ∷ neg_ℤ (literal_of y) ∷ []) ∷ []) c2
        (All-cons (Satisfies b) (literal_at i ∷ neg_ℤ (literal_of x) ∷ neg_ℤ (literal_of y) ∷ []) [] c3 (All-nil (Satisfies b))))

    cone-satisfied : (cone : List ℕ) → All (λ i. i < length nodes) cone → All (Satisfies b) (clauses_of_cone nodes cone)
    cone-satisfied cone within = flat-all (Satisfies b) (λ i. clauses_of_node i (node_at nodes i)) cone (λ k d h. gate-satisfied (get_or cone k d) (within k d h) (node_at nodes (get_or cone k d)) refl)

    pub valued-satisfies : (e : Edge) (cone : List ℕ) → node_of e < length nodes → All (λ i. i < length nodes) cone → truth_of nodes e a ≡ true → SatisfiesAll b (clauses_of_cone nodes cone ++ (literal_of e ∷ []) ∷ [])
    valued-satisfies e cone live within says_so =
        All-push (Satisfies b) (clauses_of_cone nodes cone) (literal_of e ∷ []) (cone-satisfied cone within) (ap (λ v. v || false) (lit e live ∙ says_so))

  -- ---- what satisfies the clauses gives the nodes their values
  module _ (a : ℕ → Bool) (extends : IsExtension nodes a b) (root : ℕ) (cone : List ℕ) (is : IsCone nodes root cone) (sat : All (Satisfies b) (clauses_of_cone nodes cone)) where
    one-of : (i : ℕ) → Contains cone i → (n : AigNode) → node_at nodes i ≡ n → (c : List ℤ) → Contains (clauses_of_node i n) c → Satisfies b c
    one-of i inside n at c m = All-contains (Satisfies b) (clauses_of_cone nodes cone) c sat (flat-contains (λ j. clauses_of_node j (node_at nodes j)) cone i inside c (subst (λ (w : AigNode). Contains (clauses_of_node i w) c) (sym at) m))

    or-none : (v : Bool) → (v || false) ≡ true → v ≡ true
    or-none true h = h
    or-none false h = h

    node-value : (bound i : ℕ) → i < bound → i < length nodes → Contains cone i → (n : AigNode) → node_at nodes i ≡ n → b (suc i) ≡ value_of nodes a i
    node-value zero i small live inside n at = absurd (omega (arith, small))
    node-value (suc bound) i small live inside Constant at =
        or-none (b (suc i)) (one-of i inside Constant at (literal_at i ∷ []) (0, omega arith, refl)) ∙ sym (value-says nodes width o i Constant live at a)
    node-value (suc bound) i small live inside (Var k) at = extends i k live at ∙ sym (value-says nodes width o i (Var k) live at a)
    node-value (suc bound) i small live inside (And x y) at =
        let g = gate-at nodes width o i x y live at in
        let x_below : node_of x < i = omega (arith, g.apart, g.below) in
        let y_below : node_of y < i = g.below in
        let x_live : node_of x < length nodes = omega (arith, x_below, live) in
        let y_live : node_of y < length nodes = omega (arith, y_below, live) in
        let x_in : Contains cone (node_of x) = is.whole (node_of x) (at_first i x y (is.sound i inside) at) in
        let y_in : Contains cone (node_of y) = is.whole (node_of y) (at_second i x y (is.sound i inside) at) in
        let x_is : xor (is_flipped x) (b (suc (node_of x))) ≡ truth_of nodes x a = edge-value a x x_live (node-value bound (node_of x) (omega (arith, x_below, small)) x_live x_in (node_at nodes (node_of x)) refl) in
        let y_is : xor (is_flipped y) (b (suc (node_of y))) ≡ truth_of nodes y a = edge-value a y y_live (node-value bound (node_of y) (omega (arith, y_below, small)) y_live y_in (node_at nodes (node_of y)) refl) in
        let c1 = one-of i inside (And x y) at (negsuc i ∷ literal_of x ∷ []) (0, omega arith, refl) in
        let c2 = one-of i inside (And x y) at (negsuc i ∷ literal_of y ∷ []) (1, omega arith, refl) in
        let c3 = one-of i inside (And x y) at (literal_at i ∷ neg_ℤ (literal_of x) ∷ neg_ℤ (literal_of y) ∷ []) (2, omega arith, refl) in
        gate-value (b (suc i)) (truth_of nodes x a) (truth_of nodes y a)
        (sym (λ j. not (b (suc i)) || ((holds-edge b x ∙ x_is) j || false)) ∙ c1)
        (sym (λ j. not (b (suc i)) || ((holds-edge b y ∙ y_is) j || false)) ∙ c2)
        (sym (λ j. b (suc i) || ((holds-other b x ∙ ap not x_is) j || ((holds-other b y ∙ ap not y_is) j || false))) ∙ c3)
        ∙ sym (value-says nodes width o i (And x y) live at a)

    pub satisfied-says : (e : Edge) → node_of e ≡ root → node_of e < length nodes → Satisfies b (literal_of e ∷ []) → truth_of nodes e a ≡ true
    satisfied-says e at_e live unit =
        let inside : Contains cone (node_of e) = subst (Contains cone) (sym at_e) (is.whole root at_root) in
        sym (holds-edge b e ∙ edge-value a e live (node-value (suc (node_of e)) (node_of e) (omega arith) live inside (node_at nodes (node_of e)) refl)) ∙ or-none (holds b (literal_of e)) unit

-- ---- an edge is true exactly where its assignment extends to one that satisfies its clauses
module _ (nodes : List AigNode) (width : ℕ) (o : IsOrdered nodes width) (e : Edge) (live : node_of e < length nodes) where
  -- the values of the nodes, by the variables of the clauses
  abbrev values : (ℕ → Bool) → ℕ → Bool
  values a zero = false
  values a (suc i) = value_of nodes a i

  values-extend : (a : ℕ → Bool) → IsExtension nodes a (values a)
  values-extend a i k h at = value-says nodes width o i (Var k) h at a

  pub extends-clauses : (clauses : List (List ℤ)) → (cnf : IsCnfOf nodes e clauses) → All (λ i. i < length nodes) cnf.cone → (a : ℕ → Bool) → (truth_of nodes e a ≡ true) ↔ Extends nodes clauses a
  extends-clauses clauses cnf within a = (
    (λ says_so. (values a, values-extend a, subst (SatisfiesAll (values a)) (sym cnf.exact) (valued-satisfies nodes width o (values a) a (λ i h. refl) e cnf.cone live within says_so))),
    (λ ext.
        let all : All (Satisfies ext.0) (clauses_of_cone nodes cnf.cone ++ (literal_of e ∷ []) ∷ []) = subst (SatisfiesAll ext.0) cnf.exact ext.2 in
        satisfied-says nodes width o ext.0 a ext.1 (node_of e) cnf.cone cnf.is_cone
        (all-front (Satisfies ext.0) (clauses_of_cone nodes cnf.cone) ((literal_of e ∷ []) ∷ []) all) e refl live
        (All-contains (Satisfies ext.0) (clauses_of_cone nodes cnf.cone ++ (literal_of e ∷ []) ∷ []) (literal_of e ∷ []) all (Contains-push (clauses_of_cone nodes cnf.cone) (literal_of e ∷ [])))),
  )
