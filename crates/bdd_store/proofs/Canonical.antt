-- Edges that say the same are equal.
use Rattle.std.proofs.Common.{◌≡◌, ℕ, zero, suc, ◌+◌, ◌*◌, ◌/◌, ◌%◌, ◌<◌, Bool, true, false, not, cond, eqb, List, length, get_or, refl, sym, ap, ◌∙◌, inl, inr, arith, eq-eqb, eqb-true}
use Rattle.std.proofs.lemmas.Bool.{cases_eq, cases_order, false≢true}
use Rattle.std.proofs.lemmas.Bool.Decides.{nat_tests}
use Rattle.bfr_store.specs.declared.edge.Edge.{Edge}
use Rattle.bfr_store.specs.Edges.{node_of, is_flipped, xor}
use Rattle.bdd_store.specs.declared.node.Node.{Node}
use Rattle.bdd_store.specs.Nodes.{Diagrams, IsLive, node_at, top_of, truth_of}
use Rattle.bdd_store.specs.Canonical.{IsOnlyEdge}
use Rattle.bdd_store.specs.Inside.{IsBranch, IsOrdered, IsDistinct}
use Rattle.bdd_store.proofs.Nodes.{constant-says, edge-says, top-at, top-constant, top-in_width, positive_from_top, values_of}
use Rattle.bdd_store.proofs.Drawn.{top_le}
use Rattle.bdd_store.proofs.Dependence.{agree}

-- an assignment with another value of one variable
abbrev pub with_value : (ℕ → Bool) → ℕ → Bool → ℕ → Bool
with_value a v b k = cond (eqb k v) b (a k)

pub at_itself : (a : ℕ → Bool) (v : ℕ) (b : Bool) → with_value a v b v ≡ b
at_itself a v b = ap (λ t. cond t b (a v)) (eq-eqb v v refl)

off : (k v : ℕ) → v < k → eqb k v ≡ false
off k v h = grind (arith, nat_tests)

pub at_later : (a : ℕ → Bool) (v : ℕ) (b : Bool) (k : ℕ) → v < k → with_value a v b k ≡ a k
at_later a v b k h = ap (λ t. cond t b (a k)) (off k v h)

pub xor_cancel : (f p q : Bool) → xor f p ≡ xor f q → p ≡ q
xor_cancel true true true h = refl
xor_cancel true true false h = sym h
xor_cancel true false true h = sym h
xor_cancel true false false h = refl
xor_cancel false p q h = h

pub flag_cancel : (f g : Bool) → xor f true ≡ xor g true → f ≡ g
flag_cancel true true h = refl
flag_cancel true false h = absurd (false≢true h)
flag_cancel false true h = absurd (false≢true (sym h))
flag_cancel false false h = refl

xor_twice : (f p q : Bool) → xor f p ≡ q → p ≡ xor f q
xor_twice true true q h = ap not h
xor_twice true false q h = ap not h
xor_twice false p q h = h

-- edges of one node with one flag are one
pub same_number : (e f : Edge) → node_of e ≡ node_of f → is_flipped e ≡ is_flipped f → e.number ≡ f.number
same_number e f same flag = elim (cases_eq (e.number % 2) 1) [
  | inl odd ↦ omega (arith, same, odd, eqb-true (f.number % 2) 1 (sym flag ∙ eq-eqb (e.number % 2) 1 odd))
  | inr even ↦ elim (cases_eq (f.number % 2) 1) [
    | inl odd ↦ absurd (even (eqb-true (e.number % 2) 1 (flag ∙ eq-eqb (f.number % 2) 1 odd)))
    | inr other ↦ omega (arith, same, even, other)
  ]
]

pub regular_flag : (e : Edge) → e.number % 2 ≡ 0 → is_flipped e ≡ false
regular_flag e h = ap (λ k. eqb k 1) h

pub same_edge : (e f : Edge) → e.number ≡ f.number → e ≡ f
same_edge e f h = λ i. record { number = h i }

pub same_node : (n m : Node) → n.variable ≡ m.variable → n.high.number ≡ m.high.number → n.low.number ≡ m.low.number → n ≡ m
same_node n m v h l = λ i. record { variable = v i; high = record { number = h i }; low = record { number = l i } }

module _ (nodes : List Node) (width : ℕ) (o : IsOrdered nodes width) where
  abbrev pub SaysSame : Edge → Edge → Type 0
  SaysSame e f = (a : ℕ → Bool) → truth_of nodes e a ≡ truth_of nodes f a

  -- where every variable is true, an edge is false exactly where it is complemented
  pub all_true : (bound : ℕ) (e : Edge) → node_of e < bound → node_of e < length nodes → truth_of nodes e (λ _. true) ≡ xor (is_flipped e) true
  all_true zero e small live = absurd (omega (arith, small))
  all_true (suc bound) e small live = elim (cases_eq (node_of e) 0) [
    | inl is ↦ constant-says nodes width o e is (λ _. true)
    | inr other ↦
        let positive : 0 < node_of e = omega arith in
        let n = node_at nodes (node_of e) in
        let branch : IsBranch nodes width (node_of e) n = o.branches (node_of e) positive live in
        edge-says nodes width o e positive live (λ _. true)
        ∙ ap (xor (is_flipped e)) (all_true bound n.high (omega (arith, branch.high_below)) (omega (arith, branch.high_below)) ∙ ap (λ f. xor f true) (regular_flag n.high branch.regular))
  ]

  same_flag : (e f : Edge) → node_of e < length nodes → node_of f < length nodes → SaysSame e f → is_flipped e ≡ is_flipped f
  same_flag e f e_live f_live same =
      flag_cancel (is_flipped e) (is_flipped f)
      (sym (all_true (suc (node_of e)) e (omega arith) e_live) ∙ same (λ _. true) ∙ all_true (suc (node_of f)) f (omega arith) f_live)

  -- what an edge says where its own variable is true, and where it is false
  pub high-says : (e : Edge) → 0 < node_of e → node_of e < length nodes → (a : ℕ → Bool) → truth_of nodes e (with_value a (node_at nodes (node_of e)).variable true) ≡ xor (is_flipped e) (truth_of nodes (node_at nodes (node_of e)).high a)
  high-says e positive live a =
      let n = node_at nodes (node_of e) in
      let branch : IsBranch nodes width (node_of e) n = o.branches (node_of e) positive live in
      let b = with_value a n.variable true in
      edge-says nodes width o e positive live b
      ∙ (λ i. xor (is_flipped e) (cond (at_itself a n.variable true i) (truth_of nodes n.high b) (truth_of nodes n.low b)))
      ∙ ap (xor (is_flipped e)) (agree nodes width o n.high (omega (arith, branch.high_below)) b a (λ k from to. at_later a n.variable true k (omega (arith, from, branch.above_high))))

  pub low-says : (e : Edge) → 0 < node_of e → node_of e < length nodes → (a : ℕ → Bool) → truth_of nodes e (with_value a (node_at nodes (node_of e)).variable false) ≡ xor (is_flipped e) (truth_of nodes (node_at nodes (node_of e)).low a)
  low-says e positive live a =
      let n = node_at nodes (node_of e) in
      let branch : IsBranch nodes width (node_of e) n = o.branches (node_of e) positive live in
      let b = with_value a n.variable false in
      edge-says nodes width o e positive live b
      ∙ (λ i. xor (is_flipped e) (cond (at_itself a n.variable false i) (truth_of nodes n.high b) (truth_of nodes n.low b)))
      ∙ ap (xor (is_flipped e)) (agree nodes width o n.low (omega (arith, branch.low_below)) b a (λ k from to. at_later a n.variable false k (omega (arith, from, branch.above_low))))

  -- what an edge past a variable says whatever its value is
  pub later-says : (f : Edge) → node_of f < length nodes → (v : ℕ) → v < top_of nodes f → (b : Bool) (a : ℕ → Bool) → truth_of nodes f (with_value a v b) ≡ truth_of nodes f a
  later-says f live v h b a = agree nodes width o f live (with_value a v b) a (λ k from to. at_later a v b k (omega (arith, from)))

  -- the regular edge of a node
  regular : Edge → Edge
  regular f = record { number = 2 * node_of f }

  regular-node : (f : Edge) → node_of (regular f) ≡ node_of f
  unfolding regular
  regular-node f = omega arith

  regular-says : (f : Edge) (a : ℕ → Bool) → truth_of nodes (regular f) a ≡ xor (is_flipped f) (truth_of nodes f a)
  unfolding regular truth_of
  regular-says f a =
      let even : 2 * node_of f % 2 ≡ 0 = omega arith in
      let half : 2 * node_of f / 2 ≡ node_of f = omega arith in
      (λ i. xor (eqb (even i) 1) (get_or (values_of nodes a) (half i) true)) ∙ twice (is_flipped f) (get_or (values_of nodes a) (node_of f) true)
    where
      twice : (f b : Bool) → b ≡ xor f (xor f b)
      twice true true = refl
      twice true false = refl
      twice false b = refl

  -- what holds of edges with smaller nodes together
  abbrev UniqueBelow : ℕ → Type 0
  UniqueBelow bound = (e f : Edge) → node_of e + node_of f < bound → node_of e < length nodes → node_of f < length nodes → SaysSame e f → e.number ≡ f.number

  -- an edge with an earlier variable does not say the same: its two branches would be one
  earlier : (e f : Edge) → UniqueBelow (node_of e + node_of f) → node_of e < length nodes → node_of f < length nodes → top_of nodes e < top_of nodes f → SaysSame e f → ⊥
  earlier e f unique e_live f_live h same =
      let positive : 0 < node_of e = positive_from_top nodes width o e (omega (arith, h, top_le nodes width o f f_live)) in
      let n = node_at nodes (node_of e) in
      let branch : IsBranch nodes width (node_of e) n = o.branches (node_of e) positive e_live in
      let flag = same_flag e f e_live f_live same in
      let past_v : n.variable < top_of nodes f = omega (arith, h, top-at nodes e) in
      let g_live : node_of (regular f) < length nodes = omega (arith, regular-node f, f_live) in
      let high : SaysSame n.high (regular f) = λ a.
      xor_twice (is_flipped e) (truth_of nodes n.high a) (truth_of nodes f a) (sym (high-says e positive e_live a) ∙ same (with_value a n.variable true) ∙ later-says f f_live n.variable past_v true a)
      ∙ ap (λ x. xor x (truth_of nodes f a)) flag ∙ sym (regular-says f a) in
      let low : SaysSame n.low (regular f) = λ a.
      xor_twice (is_flipped e) (truth_of nodes n.low a) (truth_of nodes f a) (sym (low-says e positive e_live a) ∙ same (with_value a n.variable false) ∙ later-says f f_live n.variable past_v false a)
      ∙ ap (λ x. xor x (truth_of nodes f a)) flag ∙ sym (regular-says f a) in
      branch.differ
      (unique n.high (regular f) (omega (arith, branch.high_below, regular-node f)) (omega (arith, branch.high_below)) g_live high
      ∙ sym (unique n.low (regular f) (omega (arith, branch.low_below, regular-node f)) (omega (arith, branch.low_below)) g_live low))

  module _ (d : IsDistinct nodes) where
    -- edges with one variable that say the same are one
    level : (e f : Edge) → UniqueBelow (node_of e + node_of f) → node_of e < length nodes → node_of f < length nodes → top_of nodes e ≡ top_of nodes f → SaysSame e f → e.number ≡ f.number
    level e f unique e_live f_live h same = elim (cases_eq (node_of e) 0) [
      | inl e_is ↦ elim (cases_eq (node_of f) 0) [
        | inl f_is ↦ same_number e f (e_is ∙ sym f_is) (same_flag e f e_live f_live same)
        | inr f_other ↦ absurd (omega (arith, h, top-constant nodes width o e e_is, top-in_width nodes width o f (omega arith) f_live, o.narrow))
      ]
      | inr e_other ↦
          let e_positive : 0 < node_of e = omega arith in
          let f_positive : 0 < node_of f = positive_from_top nodes width o f (omega (arith, h, top-in_width nodes width o e e_positive e_live, o.narrow)) in
          let n = node_at nodes (node_of e) in
          let m = node_at nodes (node_of f) in
          let n_branch : IsBranch nodes width (node_of e) n = o.branches (node_of e) e_positive e_live in
          let m_branch : IsBranch nodes width (node_of f) m = o.branches (node_of f) f_positive f_live in
          let variable : n.variable ≡ m.variable = sym (top-at nodes e) ∙ h ∙ top-at nodes f in
          let flag = same_flag e f e_live f_live same in
          let high : SaysSame n.high m.high = λ a. xor_cancel (is_flipped e) (truth_of nodes n.high a) (truth_of nodes m.high a)
          (sym (high-says e e_positive e_live a) ∙ same (with_value a n.variable true) ∙ ap (λ v. truth_of nodes f (with_value a v true)) variable ∙ high-says f f_positive f_live a ∙ ap (λ x. xor x (truth_of nodes m.high a)) (sym flag)) in
          let low : SaysSame n.low m.low = λ a. xor_cancel (is_flipped e) (truth_of nodes n.low a) (truth_of nodes m.low a)
          (sym (low-says e e_positive e_live a) ∙ same (with_value a n.variable false) ∙ ap (λ v. truth_of nodes f (with_value a v false)) variable ∙ low-says f f_positive f_live a ∙ ap (λ x. xor x (truth_of nodes m.low a)) (sym flag)) in
          let one : node_of e ≡ node_of f = d (node_of e) (node_of f) e_live f_live (same_node n m variable
          (unique n.high m.high (omega (arith, n_branch.high_below, m_branch.high_below)) (omega (arith, n_branch.high_below)) (omega (arith, m_branch.high_below)) high)
          (unique n.low m.low (omega (arith, n_branch.low_below, m_branch.low_below)) (omega (arith, n_branch.low_below)) (omega (arith, m_branch.low_below)) low)) in
          same_number e f one flag
    ]

    unique-below : (bound : ℕ) → UniqueBelow bound
    unique-below zero e f small e_live f_live same = absurd (omega (arith, small))
    unique-below (suc bound) e f small e_live f_live same =
        let before : UniqueBelow (node_of e + node_of f) = λ e' f' small' e'_live f'_live same'. unique-below bound e' f' (omega (arith, small, small')) e'_live f'_live same' in
        elim (cases_order (top_of nodes e) (top_of nodes f)) [
          | inl level_with ↦ level e f before e_live f_live level_with same
          | inr apart ↦ elim apart [
            | inl e_first ↦ absurd (earlier e f before e_live f_live e_first same)
            | inr f_first ↦ absurd (earlier f e (λ e' f' small' e'_live f'_live same'. unique-below bound e' f' (omega (arith, small, small')) e'_live f'_live same') f_live e_live f_first (λ a. sym (same a)))
          ]
        ]

    -- live edges that say the same under every assignment are equal
    pub unique : (e f : Edge) → node_of e < length nodes → node_of f < length nodes → SaysSame e f → e.number ≡ f.number
    unique e f e_live f_live same = unique-below (suc (node_of e + node_of f)) e f (omega arith) e_live f_live same

pub only_edge : (s : Diagrams) (width : ℕ) → IsOrdered s.nodes width → IsDistinct s.nodes → (e : Edge) → IsLive s e → IsOnlyEdge s e
only_edge s width o d e live = record {
  only = λ f f_live same. same_edge f e (unique s.nodes width o d f e f_live live same);
}
