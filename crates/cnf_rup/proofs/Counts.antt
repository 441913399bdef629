-- How many clauses a cone has, and which variables.
use Rattle.std.proofs.Common.{◌≡◌, ℕ, zero, suc, ℤ, pos, negsuc, ◌+◌, ◌-◌, ◌*◌, ◌<◌, ◌≤◌, max, Bool, true, false, cond, List, [], ◌∷◌, ◌++◌, map, length, get_or, refl, ap, ◌∙◌, inl, inr, arith, neg_ℤ, unsigned_abs}
use Rattle.std.specs.List.{All}
use Rattle.std.proofs.lemmas.Bool.{cases_eq, cases_Bool}
use Rattle.std.proofs.lemmas.List.{map-append, length-append}
use Rattle.std.proofs.lemmas.List.Elements.{All-cons, All-nil, All-head, All-tail, All-map, All-weaker}
use Rattle.bfr_store.specs.declared.edge.Edge.{Edge}
use Rattle.bfr_store.specs.Edges.{node_of, is_flipped}
use Rattle.aig_store.specs.declared.node.AigNode.{AigNode}
use Rattle.aig_store.specs.declared.node.AigNode.TheVariants.{Constant, Var, And}
use Rattle.aig_store.specs.Nodes.{node_at}
use Rattle.aig_store.specs.Inside.{IsOrdered}
use Rattle.aig_store.proofs.Nodes.{gate-at}
use Rattle.cnf_rup.specs.declared.clause.Entry.{Entry}
use Rattle.cnf_rup.specs.Literals.{IsLiteral}
use Rattle.cnf_rup.specs.Books.{clauses_of}
use Rattle.cnf_rup.specs.Marked.{unset_count}
use Rattle.cnf_rup.specs.Cones.{IsInCone, at_root, at_first, at_second}
use Rattle.cnf_rup.specs.Searches.{IsFound}
use Rattle.cnf_rup.specs.Cnfs.{literal_at, literal_of, clauses_of_node, clauses_of_cone, entries_of_node, entries_of_cone}
use Rattle.cnf_rup.proofs.Among.{size-complement}
use Rattle.cnf_rup.proofs.Gates.{flat-all}

-- ---- the clauses of entries
clauses-made : (cs : List (List ℤ)) → clauses_of (map (λ c. record { clause = c; hints = [] }) cs) ≡ cs
clauses-made [] = refl
clauses-made (c ∷ cs) = ap (λ (ds : List (List ℤ)). c ∷ ds) (clauses-made cs)

pub clauses-of-cone : (nodes : List AigNode) (cone : List ℕ) → clauses_of (entries_of_cone nodes cone) ≡ clauses_of_cone nodes cone
clauses-of-cone nodes [] = refl
clauses-of-cone nodes (i ∷ is) =
    map-append (λ (e : Entry). e.clause) (entries_of_node i (node_at nodes i)) (entries_of_cone nodes is)
    ∙ (λ j. clauses-made (clauses_of_node i (node_at nodes i)) j ++ clauses-of-cone nodes is j)

-- ---- nodes of a cone
module _ (nodes : List AigNode) (width : ℕ) (o : IsOrdered nodes width) (root : ℕ) (root_live : root < length nodes) where
  pub record IsInside (i : ℕ) : Type 0 where
    pub live : i < length nodes
    pub small : i ≤ root
    pub positive : 0 < root → 0 < i

  pub inside : (i : ℕ) → IsInCone nodes root i → IsInside i
  inside _ at_root = record { live = root_live; small = omega arith; positive = λ h. h }
  inside _ (at_first i x y h is) =
      let b = inside i h in
      let g = gate-at nodes width o i x y b.live is in
      record { live = omega (arith, b.live, g.apart, g.below); small = omega (arith, b.small, g.apart, g.below); positive = λ _. g.proper }
  inside _ (at_second i x y h is) =
      let b = inside i h in
      let g = gate-at nodes width o i x y b.live is in
      record { live = omega (arith, b.live, g.below); small = omega (arith, b.small, g.below); positive = λ _. omega (arith, g.proper, g.apart) }

  unset-some : (marks : List Bool) (i : ℕ) → i < length marks → get_or marks i false ≡ false → 1 ≤ unset_count marks
  unset-some [] i h e = absurd (omega (arith, h))
  unset-some (true ∷ ms) zero h e = absurd cc
  unset-some (false ∷ ms) zero h e = omega arith
  unset-some (m ∷ ms) (suc i) h e = omega (arith, unset-some ms i (omega (arith, h)) e)

  -- the constant is in the cone only where it is the root
  pub cone-count : (seen : List Bool) (cone : List ℕ) → IsFound nodes root seen cone → length cone ≤ max 1 root
  cone-count seen cone f = elim (cases_eq root 0) [
    | inl first ↦ omega (arith, f.count, first)
    | inr later ↦ elim (cases_Bool (get_or seen 0 false)) [
      | inl marked ↦
          let p : 0 < root → 0 < 0 = (inside 0 (f.sound 0 (f.listed 0 marked))).positive in
          absurd (omega (arith, p (omega (arith, later))))
      | inr unmarked ↦ omega (arith, f.count, unset-some seen 0 (omega (arith, f.one_each)) unmarked)
    ]
  ]

  -- ---- the literals of its clauses
  pub record IsSized (l : ℤ) : Type 0 where
    pub literal : IsLiteral l
    pub within : unsigned_abs l ≤ root + 1

  module _ (small : root ≤ 1000000000) where
    sized : (l : ℤ) (i : ℕ) → unsigned_abs l ≡ suc i → i ≤ root → IsSized l
    sized l i is within = record { literal = (omega (arith, is), omega (arith, is, within, small)); within = omega (arith, is, within) }

    size-edge : (e : Edge) → unsigned_abs (literal_of e) ≡ suc (node_of e)
    size-edge e = by-sign (is_flipped e) (node_of e)
      where
        by-sign : (f : Bool) (n : ℕ) → unsigned_abs (cond f (negsuc n) (pos (suc n))) ≡ suc n
        by-sign true n = refl
        by-sign false n = refl

    two : (l m : ℤ) → IsSized l → IsSized m → All IsSized (l ∷ m ∷ [])
    two l m p q = All-cons IsSized l (m ∷ []) p (All-cons IsSized m [] q (All-nil IsSized))

    pub one : (l : ℤ) → IsSized l → All IsSized (l ∷ [])
    one l p = All-cons IsSized l [] p (All-nil IsSized)

    pub edge-sized : (e : Edge) → node_of e ≤ root → IsSized (literal_of e)
    edge-sized e h = sized (literal_of e) (node_of e) (size-edge e) h

    other-sized : (e : Edge) → node_of e ≤ root → IsSized (neg_ℤ (literal_of e))
    other-sized e h = sized (neg_ℤ (literal_of e)) (node_of e) (size-complement (literal_of e) ∙ size-edge e) h

    node-sized : (i : ℕ) → IsInside i → (n : AigNode) → node_at nodes i ≡ n → All (All IsSized) (clauses_of_node i n)
    node-sized i b Constant at = All-cons (All IsSized) (literal_at i ∷ []) [] (one (literal_at i) (sized (literal_at i) i refl b.small)) (All-nil (All IsSized))
    node-sized i b (Var k) at = All-nil (All IsSized)
    node-sized i b (And x y) at =
        let g = gate-at nodes width o i x y b.live at in
        let x_in : node_of x ≤ root = omega (arith, g.apart, g.below, b.small) in
        let y_in : node_of y ≤ root = omega (arith, g.below, b.small) in
        let negative : IsSized (negsuc i) = sized (negsuc i) i refl b.small in
        let sure : IsSized (literal_at i) = sized (literal_at i) i refl b.small in
        All-cons (All IsSized) (negsuc i ∷ literal_of x ∷ []) ((negsuc i ∷ literal_of y ∷ []) ∷ (literal_at i ∷ neg_ℤ (literal_of x) ∷ neg_ℤ (literal_of y) ∷ []) ∷ []) (two (negsuc i) (literal_of x) negative (edge-sized x x_in))
        (All-cons (All IsSized) (negsuc i ∷ literal_of y ∷ []) ((literal_at i ∷ neg_ℤ (literal_of x) ∷ neg_ℤ (literal_of y) ∷ []) ∷ []) (two (negsuc i) (literal_of y) negative (edge-sized y y_in))
        (All-cons (All IsSized) (literal_at i ∷ neg_ℤ (literal_of x) ∷ neg_ℤ (literal_of y) ∷ []) []
        (All-cons IsSized (literal_at i) (neg_ℤ (literal_of x) ∷ neg_ℤ (literal_of y) ∷ []) sure (two (neg_ℤ (literal_of x)) (neg_ℤ (literal_of y)) (other-sized x x_in) (other-sized y y_in)))
        (All-nil (All IsSized))))

    -- what an entry of a cone is
    pub record IsFrom (e : Entry) : Type 0 where
      pub sized : All IsSized e.clause
      pub bare : e.hints ≡ []

    pub entries-from : (cone : List ℕ) → All IsInside cone → All IsFrom (entries_of_cone nodes cone)
    entries-from cone in_it = flat-all IsFrom (λ i. entries_of_node i (node_at nodes i)) cone (λ k d h.
        All-map IsFrom (λ c. record { clause = c; hints = [] }) (clauses_of_node (get_or cone k d) (node_at nodes (get_or cone k d)))
        (All-weaker (All IsSized) (λ c. IsFrom (record { clause = c; hints = [] })) (λ c p. record { sized = p; bare = refl }) (clauses_of_node (get_or cone k d) (node_at nodes (get_or cone k d)))
        (node-sized (get_or cone k d) (in_it k d h) (node_at nodes (get_or cone k d)) refl)))

  -- ---- how many there are
  at-most : (i : ℕ) (n : AigNode) → length (entries_of_node i n) ≤ 3
  at-most i Constant = omega arith
  at-most i (Var k) = omega arith
  at-most i (And x y) = omega arith

  pub three-each : (cone : List ℕ) → length (entries_of_cone nodes cone) ≤ 3 * length cone
  three-each [] = omega arith
  three-each (i ∷ is) = omega (arith, at-most i (node_at nodes i), three-each is, length-append (entries_of_node i (node_at nodes i)) (entries_of_cone nodes is))

  first-alone : (i : ℕ) → i ≡ 0 → length (entries_of_node i (node_at nodes i)) ≡ 1
  first-alone i is = ap (λ j. length (entries_of_node j (node_at nodes j))) is ∙ ap (λ n. length (entries_of_node 0 n)) o.first

  one-each : (cone : List ℕ) → All (λ i. i ≡ 0) cone → length (entries_of_cone nodes cone) ≤ length cone
  one-each [] h = omega arith
  one-each (i ∷ is) h = omega (arith, first-alone i (All-head (λ j. j ≡ 0) i is h), one-each is (All-tail (λ j. j ≡ 0) i is h), length-append (entries_of_node i (node_at nodes i)) (entries_of_cone nodes is))

  pub few : (cone : List ℕ) → All IsInside cone → length cone ≤ max 1 root → length (entries_of_cone nodes cone) + 1 ≤ 3 * (length nodes - 1) + 2
  few cone in_it count = elim (cases_eq root 0) [
    | inl first ↦ omega (arith, one-each cone (λ k d h. omega (arith, first, (in_it k d h).small)), count, first)
    | inr later ↦ omega (arith, three-each cone, count, later, root_live)
  ]
