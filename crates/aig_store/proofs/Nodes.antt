-- What a node of an ordered store says.
use Rattle.std.specs.Prelude.{Result, Ok, Err, IfOk}
use Rattle.std.proofs.Common.{◌≡◌, ◌≢◌, ℕ, zero, suc, ◌+◌, ◌*◌, ◌%◌, ◌/◌, ◌<◌, ◌&&◌, ◌||◌, Bool, true, false, not, cond, eqb, List, [], length, get_or, take, drop, refl, ap, ◌∙◌, sym, subst, inl, inr, arith}
use Rattle.std.proofs.lemmas.List.{get_or_read, take-append-drop, length-take}
use Rattle.std.proofs.lemmas.Bool.{cases_eq}
use Rattle.bfr_store.specs.declared.edge.Edge.{Edge}
use Rattle.bfr_store.specs.Edges.{node_of, is_flipped, xor, truth_at}
use Rattle.bfr_store.specs.Truth.{values_from, truth}
use Rattle.bfr_store.proofs.Values.{truth-append, values-at}
use Rattle.aig_store.specs.declared.node.AigNode.{AigNode}
use Rattle.aig_store.specs.declared.node.AigNode.TheVariants.{Constant, Var, And}
use Rattle.aig_store.specs.Nodes.{node_at, node_value, says, truth_of, IsPair, HoldsPairsOnce}
use Rattle.aig_store.specs.declared.mark.Mark.{Mark}
use Rattle.aig_store.specs.Inside.{IsGate, IsProper, IsOrdered, IsDistinct, call_at, marked_value}
use Rattle.aig_store.specs.Walks.{AreRight, value_of}

-- the truths of the nodes
abbrev pub values_of : List AigNode → (ℕ → Bool) → List Bool
values_of nodes a = values_from node_value [] nodes a

pub truth-at : (nodes : List AigNode) (e : Edge) (a : ℕ → Bool) → truth_of nodes e a ≡ truth_at (values_of nodes a) e
unfolding truth_of
truth-at nodes e a = refl

-- the nodes before number i say of an edge of theirs what all say
truth-take : (nodes : List AigNode) (i : ℕ) (e : Edge) (a : ℕ → Bool) → i < length nodes → node_of e < i → truth_at (values_of (take i nodes) a) e ≡ truth_of nodes e a
unfolding truth_of
truth-take nodes i e a within h =
    sym (truth-append node_value (take i nodes) (drop i nodes) e a (omega (arith, length-take i nodes)))
    ∙ ap (λ ns. truth node_value ns e a) (take-append-drop i nodes)

says-proper : (nodes : List AigNode) (width i : ℕ) (a : ℕ → Bool) → i < length nodes → (n : AigNode) → IsProper width i n → node_value (values_of (take i nodes) a) a n ≡ says nodes n a
says-proper nodes width i a within Constant p = absurd p
says-proper nodes width i a within (Var k) p = refl
says-proper nodes width i a within (And x y) p = λ j. truth-take nodes i x a within (omega (arith, p.apart, p.below)) j && truth-take nodes i y a within p.below j

module _ (nodes : List AigNode) (width : ℕ) (o : IsOrdered nodes width) where
  pub constant_true : (a : ℕ → Bool) → get_or (values_of nodes a) 0 true ≡ true
  constant_true a = values-at node_value [] nodes a 0 Constant o.some 0 refl ∙ ap (λ n. node_value [] a n) o.first

  pub node-says : (i : ℕ) → i < length nodes → (a : ℕ → Bool) → get_or (values_of nodes a) i true ≡ says nodes (node_at nodes i) a
  node-says i within a = elim (cases_eq i 0) [
    | inl is ↦ ap (λ k. get_or (values_of nodes a) k true) is ∙ constant_true a ∙ sym (ap (λ k. says nodes (node_at nodes k) a) is ∙ ap (λ n. says nodes n a) o.first)
    | inr other ↦ values-at node_value [] nodes a i Constant within i (omega arith) ∙ says-proper nodes width i a within (node_at nodes i) (o.proper i (omega arith) within)
  ]

  -- an edge says what its node says, complemented with it
  pub edge-says : (e : Edge) → node_of e < length nodes → (a : ℕ → Bool) → truth_of nodes e a ≡ xor (is_flipped e) (says nodes (node_at nodes (node_of e)) a)
  unfolding truth_of
  edge-says e within a = ap (xor (is_flipped e)) (node-says (node_of e) within a)

  pub constant-says : (e : Edge) → node_of e ≡ 0 → (a : ℕ → Bool) → truth_of nodes e a ≡ xor (is_flipped e) true
  unfolding truth_of
  constant-says e is a = ap (xor (is_flipped e)) (ap (λ i. get_or (values_of nodes a) i true) is ∙ constant_true a)

  pub false-says : (e : Edge) → e.number ≡ 1 → (a : ℕ → Bool) → truth_of nodes e a ≡ false
  false-says e is a = constant-says e (omega (arith, is)) a ∙ ap (λ n. xor (eqb (n % 2) 1) true) is

  pub true-says : (e : Edge) → e.number ≡ 0 → (a : ℕ → Bool) → truth_of nodes e a ≡ true
  true-says e is a = constant-says e (omega (arith, is)) a ∙ ap (λ n. xor (eqb (n % 2) 1) true) is

  -- the edge of a node that is not complemented says what the node says
  pub plain-says : (i : ℕ) (e : Edge) (n : AigNode) → e.number ≡ 2 * i → i < length nodes → node_at nodes i ≡ n → (a : ℕ → Bool) → truth_of nodes e a ≡ says nodes n a
  unfolding truth_of
  plain-says i e n is within at a =
      let even : e.number % 2 ≡ 0 = omega (arith, is) in
      let half : node_of e ≡ i = omega (arith, is) in
      (λ j. xor (eqb (even j) 1) (get_or (values_of nodes a) (half j) true)) ∙ node-says i within a ∙ ap (λ m. says nodes m a) at

  says-agree : (i : ℕ) (a b : ℕ → Bool) → ((k : ℕ) → k < width → a k ≡ b k) → ((e : Edge) → node_of e < i → truth_of nodes e a ≡ truth_of nodes e b) → (n : AigNode) → IsProper width i n → says nodes n a ≡ says nodes n b
  says-agree i a b same below Constant p = refl
  says-agree i a b same below (Var k) p = same k p
  says-agree i a b same below (And x y) p = λ j. below x (omega (arith, p.apart, p.below)) j && below y p.below j

  agree-below : (bound : ℕ) (a b : ℕ → Bool) → ((k : ℕ) → k < width → a k ≡ b k) → (e : Edge) → node_of e < bound → node_of e < length nodes → truth_of nodes e a ≡ truth_of nodes e b
  agree-below zero a b same e small live = absurd (omega (arith, small))
  agree-below (suc bound) a b same e small live = elim (cases_eq (node_of e) 0) [
    | inl is ↦ constant-says e is a ∙ sym (constant-says e is b)
    | inr other ↦
        edge-says e live a
        ∙ ap (xor (is_flipped e)) (says-agree (node_of e) a b same (λ f h. agree-below bound a b same f (omega (arith, h, small)) (omega (arith, h, live))) (node_at nodes (node_of e)) (o.proper (node_of e) (omega arith) live))
        ∙ sym (edge-says e live b)
  ]

  -- what an edge says depends on the variables below the width alone
  pub agree : (e : Edge) → node_of e < length nodes → (a b : ℕ → Bool) → ((k : ℕ) → k < width → a k ≡ b k) → truth_of nodes e a ≡ truth_of nodes e b
  agree e live a b same = agree-below (suc (node_of e)) a b same e (omega arith) live

  -- what may stand at a number, in the words of a read
  pub gate-at : (i : ℕ) (x y : Edge) → i < length nodes → node_at nodes i ≡ And x y → IsGate i x y
  gate-at i x y within at = elim (cases_eq i 0) [
    | inl is ↦ absurd (not_first x y (sym (ap (node_at nodes) is ∙ o.first) ∙ at))
    | inr other ↦ subst (IsProper width i) at (o.proper i (omega arith) within)
  ]
    where
      not_first : (x y : Edge) → Constant ≢ And x y
      not_first x y e = absurd cc

  pub variable-at : (i k : ℕ) → i < length nodes → node_at nodes i ≡ Var k → k < width
  variable-at i k within at = elim (cases_eq i 0) [
    | inl is ↦ absurd (not_first k (sym (ap (node_at nodes) is ∙ o.first) ∙ at))
    | inr other ↦ subst (IsProper width i) at (o.proper i (omega arith) within)
  ]
    where
      not_first : (k : ℕ) → Constant ≢ Var k
      not_first k e = absurd cc

  pub constant-at : (i : ℕ) → i < length nodes → node_at nodes i ≡ Constant → i ≡ 0
  constant-at i within at = elim (cases_eq i 0) [
    | inl is ↦ is
    | inr other ↦ absurd (subst (IsProper width i) at (o.proper i (omega arith) within))
  ]

  -- the edges of a conjunction stand in one order, so that each pair is held once
  pub pairs-once : IsDistinct nodes → HoldsPairsOnce nodes
  pairs-once d x y i j i_in j_in (inl p) (inl q) = d i j i_in j_in (p ∙ sym q)
  pairs-once d x y i j i_in j_in (inr p) (inr q) = d i j i_in j_in (p ∙ sym q)
  pairs-once d x y i j i_in j_in (inl p) (inr q) = absurd (omega (arith, (gate-at i x y i_in p).apart, (gate-at j y x j_in q).apart))
  pairs-once d x y i j i_in j_in (inr p) (inl q) = absurd (omega (arith, (gate-at i y x i_in p).apart, (gate-at j x y j_in q).apart))

  -- the edges of a conjunction that is held
  pub pair-open : (x y : Edge) (i : ℕ) → i < length nodes → IsPair x y (node_at nodes i) → (0 < node_of x) × (0 < node_of y) × (node_of x ≢ node_of y)
  pair-open x y i within (inl p) = let g = gate-at i x y within p in (g.proper, omega (arith, g.proper, g.apart), λ e. omega (arith, g.apart, e))
  pair-open x y i within (inr p) = let g = gate-at i y x within p in (omega (arith, g.proper, g.apart), g.proper, λ e. omega (arith, g.apart, e))

  -- the same, where the node is known
  pub value-says : (i : ℕ) (n : AigNode) → i < length nodes → node_at nodes i ≡ n → (a : ℕ → Bool) → value_of nodes a i ≡ says nodes n a
  value-says i n within at a = node-says i within a ∙ ap (λ m. says nodes m a) at

-- what an edge says, by the mark of its node
pub marked-says : (nodes : List AigNode) (a : ℕ → Bool) (call : ℕ) (marks : List Mark) (e : Edge) (b : Bool) → length marks ≡ length nodes → AreRight nodes a call marks → node_of e < length nodes → call_at marks (node_of e) ≡ call → b ≡ xor (is_flipped e) (marked_value marks (node_of e)) → truth_of nodes e a ≡ b
unfolding truth_of
marked-says nodes a call marks e b long right live called is = sym (is ∙ ap (xor (is_flipped e)) (right (node_of e) (omega (arith, live, long)) called))

-- ---- gates of truth values
and-turned : (p q : Bool) → (p && q) ≡ (q && p)
and-turned true true = refl
and-turned true false = refl
and-turned false true = refl
and-turned false false = refl

pub pair-says : (nodes : List AigNode) (x y : Edge) (n : AigNode) (a : ℕ → Bool) → IsPair x y n → says nodes n a ≡ (truth_of nodes x a && truth_of nodes y a)
pair-says nodes x y n a (inl p) = ap (λ m. says nodes m a) p
pair-says nodes x y n a (inr p) = ap (λ m. says nodes m a) p ∙ and-turned (truth_of nodes y a) (truth_of nodes x a)

pub or-says : (p q : Bool) → not (not p && not q) ≡ (p || q)
or-says true q = refl
or-says false true = refl
or-says false false = refl

pub choice-says : (t x y : Bool) → ((t && x) || (not t && y)) ≡ cond t x y
choice-says true true y = refl
choice-says true false y = refl
choice-says false x y = refl

-- a choice whose first branch is true where its test is
pub choice-implied : (t x y : Bool) → (t ≡ true → x ≡ true) → (t || y) ≡ cond t x y
choice-implied true x y h = sym (h refl)
choice-implied false x y h = refl

-- and one whose second branch is true where its test is not
pub choice-other : (t u x y : Bool) → u ≡ not t → (u ≡ true → y ≡ true) → (u || x) ≡ cond t x y
choice-other true u x y is h = ap (λ b. b || x) is
choice-other false u x y is h = ap (λ b. b || x) is ∙ sym (h is)

-- what a call answers, in other words
pub ok-then : {T E : Type 0} (r : Result T E) (P Q : T → Type 0) → ((x : T) → P x → Q x) → IfOk r P → IfOk r Q
ok-then (Ok x) P Q f h = f x h
ok-then (Err e) P Q f h = h
