-- How many nodes there can be over four variables.
use Rattle.std.specs.Prelude.{Result, Ok, Err, OnErr, IsOk}
use Rattle.std.proofs.Common.{◌≡◌, ◌≢◌, ◌⊎◌, ℕ, zero, suc, ◌+◌, ◌*◌, ◌-◌, ◌/◌, ◌<◌, ◌≤◌, Bool, true, false, cond, eqb, List, [], ◌∷◌, length, map, get_or, refl, sym, ap, ◌∙◌, inl, inr, arith}
use Rattle.std.proofs.lemmas.Bool.{cases_eq, cases_lt}
use Rattle.std.proofs.lemmas.Bool.Decides.{eqb_tells}
use Rattle.bfr_store.specs.declared.edge.Edge.{Edge}
use Rattle.bfr_store.specs.Edges.{node_of}
use Rattle.bdd_store.specs.declared.node.Node.{Node}
use Rattle.bdd_store.specs.Nodes.{truth_of}
use Rattle.bdd_store.specs.Inside.{IsOrdered, IsDistinct}
use Rattle.bdd_store.proofs.Canonical.{unique}
use Rattle.bdd_store.proofs.Dependence.{agree}

-- ---- different numbers below n are at most n
found : (f : ℕ → ℕ) (n m : ℕ) → ((i : ℕ) × (i < m) × (f i ≡ n)) ⊎ ((i : ℕ) → i < m → f i ≢ n)
found f n zero = inr (λ i h. absurd (omega (arith, h)))
found f n (suc m) = elim (cases_eq (f m) n) [
  | inl is ↦ inl (m, omega arith, is)
  | inr other ↦ elim (found f n m) [
    | inl w ↦ inl (w.0, omega (arith, w.1), w.2)
    | inr none ↦ inr (λ i h. elim (cases_eq i m) [ inl here ↦ (λ e. other (ap f (sym here) ∙ e)) | inr there ↦ none i (omega arith) ])
  ]
]

-- the numbers below m but w, by those below m - 1
around : ℕ → ℕ → ℕ → ℕ
around w m k = cond (eqb k w) (m - 1) k

around-cases : (w m k : ℕ) → ((k ≡ w) × (around w m k ≡ m - 1)) ⊎ ((k ≢ w) × (around w m k ≡ k))
unfolding around
around-cases w m k = elim (eqb_tells k w) [
  | inl is ↦ inl (is.1, ap (λ t. cond t (m - 1) k) is.0)
  | inr other ↦ inr (other.1, ap (λ t. cond t (m - 1) k) other.0)
]

around-below : (w m k : ℕ) → w < m → k < m - 1 → around w m k < m
around-below w m k h l = elim (around-cases w m k) [ inl is ↦ omega (arith, is.1) | inr other ↦ omega (arith, other.1) ]

around-other : (w m k : ℕ) → w < m → k < m - 1 → around w m k ≢ w
around-other w m k h l = elim (around-cases w m k) [ inl is ↦ (λ e. omega (arith, is.0, is.1, e)) | inr other ↦ (λ e. other.0 (sym other.1 ∙ e)) ]

around-one : (w m i j : ℕ) → w < m → i < m - 1 → j < m - 1 → around w m i ≡ around w m j → i ≡ j
around-one w m i j h i_in j_in e = elim (around-cases w m i) [
  | inl i_is ↦ elim (around-cases w m j) [
    | inl j_is ↦ i_is.0 ∙ sym j_is.0
    | inr j_other ↦ absurd (omega (arith, i_is.1, j_other.1, e, j_in))
  ]
  | inr i_other ↦ elim (around-cases w m j) [
    | inl j_is ↦ absurd (omega (arith, i_other.1, j_is.1, e, i_in))
    | inr j_other ↦ sym i_other.1 ∙ e ∙ j_other.1
  ]
]

pub at_most : (n m : ℕ) (f : ℕ → ℕ) → ((i : ℕ) → i < m → f i < n) → ((i j : ℕ) → i < m → j < m → f i ≡ f j → i ≡ j) → m ≤ n
at_most zero m f low one = elim (cases_lt 0 m) [ inl some ↦ absurd (omega (arith, low 0 some)) | inr none ↦ none ]
at_most (suc n) m f low one = elim (found f n m) [
  | inl w ↦
      let smaller : m - 1 ≤ n = at_most n (m - 1) (λ k. f (around w.0 m k))
      (λ k h. let differs : f (around w.0 m k) ≢ n = λ e. around-other w.0 m k w.1 h (one (around w.0 m k) w.0 (around-below w.0 m k w.1 h) w.1 (e ∙ sym w.2)) in
      omega (arith, low (around w.0 m k) (around-below w.0 m k w.1 h), differs))
      (λ i j i_in j_in e. around-one w.0 m i j w.1 i_in j_in (one (around w.0 m i) (around w.0 m j) (around-below w.0 m i w.1 i_in) (around-below w.0 m j w.1 j_in) e)) in
      omega arith
  | inr none ↦
      let same : m ≤ n = at_most n m f (λ i h. omega (arith, low i h, none i h)) one in
      omega arith
]

-- ---- truth values as a number
abbrev digits : List Bool → ℕ
digits [] = 0
digits (b ∷ bs) = cond b 1 0 + 2 * digits bs

abbrev bound : List Bool → ℕ
bound [] = 1
bound (b ∷ bs) = 2 * bound bs

digits-below : (bs : List Bool) → digits bs < bound bs
digits-below [] = omega arith
digits-below (true ∷ bs) = omega (arith, digits-below bs)
digits-below (false ∷ bs) = omega (arith, digits-below bs)

digits-one : (bs cs : List Bool) → length bs ≡ length cs → digits bs ≡ digits cs → bs ≡ cs
digits-one [] [] l e = refl
digits-one [] (c ∷ cs) l e = absurd (omega arith)
digits-one (b ∷ bs) [] l e = absurd (omega arith)
digits-one (true ∷ bs) (true ∷ cs) l e = ap (λ ds. true ∷ ds) (digits-one bs cs (omega arith) (omega (arith, e)))
digits-one (true ∷ bs) (false ∷ cs) l e = absurd (omega (arith, e))
digits-one (false ∷ bs) (true ∷ cs) l e = absurd (omega (arith, e))
digits-one (false ∷ bs) (false ∷ cs) l e = ap (λ ds. false ∷ ds) (digits-one bs cs (omega arith) (omega (arith, e)))

-- ---- the assignments of four variables
abbrev four : Bool → Bool → Bool → Bool → ℕ → Bool
four p q r s zero = p
four p q r s (suc zero) = q
four p q r s (suc (suc zero)) = r
four p q r s (suc (suc (suc zero))) = s
four p q r s _ = false

abbrev all_four : List (ℕ → Bool)
all_four =
    four true true true true ∷ four true true true false ∷ four true true false true ∷ four true true false false ∷
    four true false true true ∷ four true false true false ∷ four true false false true ∷ four true false false false ∷
    four false true true true ∷ four false true true false ∷ four false true false true ∷ four false true false false ∷
    four false false true true ∷ four false false true false ∷ four false false false true ∷ four false false false false ∷ []

pick : (f g : (ℕ → Bool) → Bool) → map f all_four ≡ map g all_four → (p q r s : Bool) → f (four p q r s) ≡ g (four p q r s)
pick f g e true true true true = ap (λ l. get_or l 0 false) e
pick f g e true true true false = ap (λ l. get_or l 1 false) e
pick f g e true true false true = ap (λ l. get_or l 2 false) e
pick f g e true true false false = ap (λ l. get_or l 3 false) e
pick f g e true false true true = ap (λ l. get_or l 4 false) e
pick f g e true false true false = ap (λ l. get_or l 5 false) e
pick f g e true false false true = ap (λ l. get_or l 6 false) e
pick f g e true false false false = ap (λ l. get_or l 7 false) e
pick f g e false true true true = ap (λ l. get_or l 8 false) e
pick f g e false true true false = ap (λ l. get_or l 9 false) e
pick f g e false true false true = ap (λ l. get_or l 10 false) e
pick f g e false true false false = ap (λ l. get_or l 11 false) e
pick f g e false false true true = ap (λ l. get_or l 12 false) e
pick f g e false false true false = ap (λ l. get_or l 13 false) e
pick f g e false false false true = ap (λ l. get_or l 14 false) e
pick f g e false false false false = ap (λ l. get_or l 15 false) e

-- below the fourth variable an assignment is one of these
as_four : (a : ℕ → Bool) (k : ℕ) → k < 4 → a k ≡ four (a 0) (a 1) (a 2) (a 3) k
as_four a zero h = refl
as_four a (suc zero) h = refl
as_four a (suc (suc zero)) h = refl
as_four a (suc (suc (suc zero))) h = refl
as_four a (suc (suc (suc (suc k)))) h = absurd (omega (arith, h))

-- ---- the truth tables of the nodes
module _ (nodes : List Node) (width : ℕ) (o : IsOrdered nodes width) (d : IsDistinct nodes) (narrow : width ≤ 4) where
  edge : ℕ → Edge
  edge i = record { number = 2 * i }

  edge-node : (i : ℕ) → node_of (edge i) ≡ i
  unfolding edge
  edge-node i = omega arith

  table : ℕ → List Bool
  table i = map (λ a. truth_of nodes (edge i) a) all_four

  table-below : (i : ℕ) → digits (table i) < 65536
  unfolding table
  table-below i = digits-below (map (λ a. truth_of nodes (edge i) a) all_four)

  table-one : (i j : ℕ) → i < length nodes → j < length nodes → digits (table i) ≡ digits (table j) → i ≡ j
  unfolding table
  table-one i j i_in j_in e =
      let i_live : node_of (edge i) < length nodes = omega (arith, edge-node i) in
      let j_live : node_of (edge j) < length nodes = omega (arith, edge-node j) in
      let lists = digits-one (map (λ a. truth_of nodes (edge i) a) all_four) (map (λ a. truth_of nodes (edge j) a) all_four) refl e in
      let same : (a : ℕ → Bool) → truth_of nodes (edge i) a ≡ truth_of nodes (edge j) a = λ a.
      let b = four (a 0) (a 1) (a 2) (a 3) in
      agree nodes width o (edge i) i_live a b (λ k from to. as_four a k (omega (arith, to, narrow)))
      ∙ pick (truth_of nodes (edge i)) (truth_of nodes (edge j)) lists (a 0) (a 1) (a 2) (a 3)
      ∙ sym (agree nodes width o (edge j) j_live a b (λ k from to. as_four a k (omega (arith, to, narrow)))) in
      let numbers = unique nodes width o d (edge i) (edge j) i_live j_live same in
      sym (edge-node i) ∙ ap (λ n. n / 2) numbers ∙ edge-node j

  -- a store of four variables has at most as many nodes as there are truth tables
  pub few : length nodes ≤ 65536
  few = at_most 65536 (length nodes) (λ i. digits (table i)) (λ i h. table-below i) table-one

-- a call that refuses under a condition alone succeeds where that doesn't hold
pub ok_unless : {T E : Type 0} (r : Result T E) (P : Type 0) → OnErr r P → (P → ⊥) → IsOk r
ok_unless (Ok x) P h k = refl
ok_unless (Err e) P h k = absurd (k h)
