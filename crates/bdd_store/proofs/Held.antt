-- Which functions some live edge stands for.
use Rattle.std.specs.Prelude.{Result, Ok, Err, OnErr}
use Rattle.std.proofs.Common.{◌≡◌, ◌≢◌, ℕ, ◌+◌, ◌*◌, ◌-◌, ◌%◌, ◌<◌, ◌≤◌, ◌&&◌, Bool, true, false, not, cond, eqb, List, length, get_or, refl, sym, ap, ◌∙◌, inl, inr, arith}
use Rattle.std.proofs.lemmas.Bool.{cases_eq, cases_lt}
use Rattle.bfr_store.specs.declared.edge.Edge.{Edge}
use Rattle.bfr_store.specs.Edges.{node_of, is_flipped, truth_at, xor}
use Rattle.bdd_store.specs.declared.node.Node.{Node}
use Rattle.bdd_store.specs.Nodes.{past, node_at, top_of, truth_of}
use Rattle.bdd_store.specs.Inside.{IsBranch, IsOrdered, IsDistinct}
use Rattle.bdd_store.proofs.Nodes.{top-at, values_of, positive_from_top}
use Rattle.bdd_store.proofs.Drawn.{cond-and}
use Rattle.bdd_store.proofs.Canonical.{with_value, at_itself, at_later, xor_cancel, flag_cancel, same_node, regular_flag, all_true, high-says, low-says, later-says, unique}

-- what holds holds where a call refuses
pub where_err : {T E : Type 0} (r : Result T E) (P : Type 0) → P → OnErr r P
where_err (Ok x) P p = tt
where_err (Err e) P p = p

-- the edge of the same node that is complemented once more where the flag is set
flagged : Edge → Bool → Edge
flagged e true = record { number = 2 * node_of e + (1 - e.number % 2) }
flagged e false = e

flagged-node : (e : Edge) (flag : Bool) → node_of (flagged e flag) ≡ node_of e
unfolding flagged
flagged-node e true = omega arith
flagged-node e false = refl

opposite : (n : ℕ) → n < 2 → eqb (1 - n) 1 ≡ not (eqb n 1)
opposite n h = elim (cases_eq n 0) [
  | inl is ↦ (λ i. eqb (1 - is i) 1) ∙ sym (ap (λ k. not (eqb k 1)) is)
  | inr other ↦ let one : n ≡ 1 = omega arith in ap (λ k. eqb (1 - k) 1) one ∙ sym (ap (λ k. not (eqb k 1)) one)
]

flagged-flip : (e : Edge) → is_flipped (flagged e true) ≡ not (is_flipped e)
unfolding flagged
flagged-flip e =
    let small : e.number % 2 < 2 = omega arith in
    let odd : (2 * node_of e + (1 - e.number % 2)) % 2 ≡ 1 - e.number % 2 = omega arith in
    ap (λ k. eqb k 1) odd ∙ opposite (e.number % 2) small

xor_not : (b t : Bool) → xor (not b) t ≡ not (xor b t)
xor_not true true = refl
xor_not true false = refl
xor_not false t = refl

flagged-says : (nodes : List Node) (e : Edge) (flag : Bool) (a : ℕ → Bool) → truth_of nodes (flagged e flag) a ≡ xor flag (truth_of nodes e a)
unfolding truth_of flagged
flagged-says nodes e true a =
    (λ i. xor (flagged-flip e i) (get_or (values_of nodes a) (flagged-node e true i) true))
    ∙ xor_not (is_flipped e) (get_or (values_of nodes a) (node_of e) true)
flagged-says nodes e false a = refl

xor_back : (f p q : Bool) → q ≡ xor f p → p ≡ xor f q
xor_back true true q h = sym (ap not h)
xor_back true false q h = sym (ap not h)
xor_back false p q h = sym h

-- a choice is the complement of a choice of complements
flagged_twice : (flag b x y : Bool) → cond b x y ≡ xor flag (cond b (xor flag x) (xor flag y))
flagged_twice true true true y = refl
flagged_twice true true false y = refl
flagged_twice true false x true = refl
flagged_twice true false x false = refl
flagged_twice false b x y = refl

pub flagged_choice : (nodes : List Node) (b flag : Bool) (high low h l : Edge) →
    ((values : List Bool) → truth_at values h ≡ xor flag (truth_at values high)) → ((values : List Bool) → truth_at values l ≡ xor flag (truth_at values low)) →
    (a : ℕ → Bool) → cond b (truth_of nodes high a) (truth_of nodes low a) ≡ xor flag (cond b (truth_of nodes h a) (truth_of nodes l a))
unfolding truth_of
flagged_choice nodes b flag high low h l h_is l_is a =
    let vs = values_of nodes a in
    flagged_twice flag b (truth_at vs high) (truth_at vs low) ∙ (λ i. xor flag (cond b (sym (h_is vs) i) (sym (l_is vs) i)))

-- whatever a variable before this one is, the function is the same
abbrev pub IsFrom : ℕ → ((ℕ → Bool) → Bool) → Type 0
IsFrom v function = (w : ℕ) (b : Bool) (a : ℕ → Bool) → w < v → function (with_value a w b) ≡ function a

-- a choice at a variable, between functions of later ones, begins at that variable
split_from : (function high low : (ℕ → Bool) → Bool) (v : ℕ) → ((a : ℕ → Bool) → function a ≡ cond (a v) (high a) (low a)) → IsFrom (v + 1) high → IsFrom (v + 1) low → IsFrom v function
split_from function high low v is high_from low_from w b a h =
    is (with_value a w b)
    ∙ (λ i. cond (at_later a w b v h i) (high_from w b a (omega arith) i) (low_from w b a (omega arith) i))
    ∙ sym (is a)

module _ (nodes : List Node) (width : ℕ) (o : IsOrdered nodes width) (d : IsDistinct nodes) where
  abbrev pub Held : ((ℕ → Bool) → Bool) → Type 0
  Held function = (e : Edge) × (node_of e < length nodes) × ((a : ℕ → Bool) → truth_of nodes e a ≡ function a)

  -- a function and its complement are held together
  pub held_flag : (flag : Bool) (function other : (ℕ → Bool) → Bool) → ((a : ℕ → Bool) → function a ≡ xor flag (other a)) → Held function → Held other
  held_flag flag function other is h =
      (flagged h.0 flag, omega (arith, flagged-node h.0 flag, h.1), λ a. flagged-says nodes h.0 flag a ∙ sym (xor_back flag (other a) (truth_of nodes h.0 a) (h.2 a ∙ is a)))

  -- an edge stands for no function of later variables alone where it tests an earlier one
  from_top : (function : (ℕ → Bool) → Bool) (v : ℕ) → v ≤ past → IsFrom v function → (e : Edge) → node_of e < length nodes → ((a : ℕ → Bool) → truth_of nodes e a ≡ function a) → v ≤ top_of nodes e
  from_top function v narrow from e live says = elim (cases_lt (top_of nodes e) v) [
    | inl before ↦
        let positive : 0 < node_of e = positive_from_top nodes width o e (omega arith) in
        let n = node_at nodes (node_of e) in
        let branch : IsBranch nodes width (node_of e) n = o.branches (node_of e) positive live in
        let early : n.variable < v = omega (arith, before, top-at nodes e) in
        let same : (a : ℕ → Bool) → truth_of nodes n.high a ≡ truth_of nodes n.low a = λ a. xor_cancel (is_flipped e) (truth_of nodes n.high a) (truth_of nodes n.low a)
        (sym (high-says nodes width o e positive live a) ∙ says (with_value a n.variable true) ∙ from n.variable true a early
        ∙ sym (from n.variable false a early) ∙ sym (says (with_value a n.variable false)) ∙ low-says nodes width o e positive live a) in
        absurd (branch.differ (unique nodes width o d n.high n.low (omega (arith, branch.high_below)) (omega (arith, branch.low_below)) same))
    | inr h ↦ h
  ]

  -- where a function is held that begins at a variable, so are its two halves
  half : (b : Bool) (function part : (ℕ → Bool) → Bool) (v : ℕ) → v < past → IsFrom v function → ((a : ℕ → Bool) → function (with_value a v b) ≡ part a) → Held function → Held part
  half b function part v narrow from is h =
      let e = h.0 in
      let top : v ≤ top_of nodes e = from_top function v (omega arith) from e h.1 h.2 in
      elim (cases_eq v (top_of nodes e)) [
        | inl here ↦
            let positive : 0 < node_of e = positive_from_top nodes width o e (omega arith) in
            let n = node_at nodes (node_of e) in
            let branch : IsBranch nodes width (node_of e) n = o.branches (node_of e) positive h.1 in
            let variable : n.variable ≡ v = sym (top-at nodes e) ∙ sym here in
            let live_high : node_of n.high < length nodes = omega (arith, branch.high_below, h.1) in
            let live_low : node_of n.low < length nodes = omega (arith, branch.low_below, h.1) in
            own b e n (λ a. ap (λ w. truth_of nodes e (with_value a w b)) variable ∙ h.2 (with_value a v b) ∙ is a)
            (high-says nodes width o e positive h.1) (low-says nodes width o e positive h.1) live_high live_low
        | inr later ↦ (e, h.1, λ a. sym (later-says nodes width o e h.1 v (omega arith) b a) ∙ h.2 (with_value a v b) ∙ is a)
      ]
    where
      own : (b : Bool) (e : Edge) (n : Node) → ((a : ℕ → Bool) → truth_of nodes e (with_value a n.variable b) ≡ part a) →
          ((a : ℕ → Bool) → truth_of nodes e (with_value a n.variable true) ≡ xor (is_flipped e) (truth_of nodes n.high a)) →
          ((a : ℕ → Bool) → truth_of nodes e (with_value a n.variable false) ≡ xor (is_flipped e) (truth_of nodes n.low a)) →
          node_of n.high < length nodes → node_of n.low < length nodes → Held part
      own true e n says high low live_high live_low =
          (flagged n.high (is_flipped e), omega (arith, flagged-node n.high (is_flipped e)), λ a. flagged-says nodes n.high (is_flipped e) a ∙ sym (high a) ∙ says a)
      own false e n says high low live_high live_low =
          (flagged n.low (is_flipped e), omega (arith, flagged-node n.low (is_flipped e)), λ a. flagged-says nodes n.low (is_flipped e) a ∙ sym (low a) ∙ says a)

  pub held_high : (function high low : (ℕ → Bool) → Bool) (v : ℕ) → v < past → ((a : ℕ → Bool) → function a ≡ cond (a v) (high a) (low a)) → IsFrom (v + 1) high → IsFrom (v + 1) low → Held function → Held high
  held_high function high low v narrow is high_from low_from h =
      half true function high v narrow (split_from function high low v is high_from low_from)
      (λ a. is (with_value a v true) ∙ (λ i. cond (at_itself a v true i) (high (with_value a v true)) (low (with_value a v true))) ∙ high_from v true a (omega arith)) h

  pub held_low : (function high low : (ℕ → Bool) → Bool) (v : ℕ) → v < past → ((a : ℕ → Bool) → function a ≡ cond (a v) (high a) (low a)) → IsFrom (v + 1) high → IsFrom (v + 1) low → Held function → Held low
  held_low function high low v narrow is high_from low_from h =
      half false function low v narrow (split_from function high low v is high_from low_from)
      (λ a. is (with_value a v false) ∙ (λ i. cond (at_itself a v false i) (high (with_value a v false)) (low (with_value a v false))) ∙ low_from v false a (omega arith)) h

  -- where a node is not there, no edge stands for what it says
  pub unheld_branch : (v : ℕ) (n : Node) → IsBranch nodes v (length nodes) n → n.variable < past → ((i : ℕ) → i < length nodes → node_at nodes i ≢ n) →
      Held (λ a. cond (a n.variable) (truth_of nodes n.high a) (truth_of nodes n.low a)) → ⊥
  unheld_branch v n branch narrow absent h =
      let function : (ℕ → Bool) → Bool = λ a. cond (a n.variable) (truth_of nodes n.high a) (truth_of nodes n.low a) in
      let high_from : IsFrom (n.variable + 1) (λ a. truth_of nodes n.high a) = λ w b a l. later-says nodes width o n.high branch.high_below w (omega (arith, branch.above_high)) b a in
      let low_from : IsFrom (n.variable + 1) (λ a. truth_of nodes n.low a) = λ w b a l. later-says nodes width o n.low branch.low_below w (omega (arith, branch.above_low)) b a in
      let from : IsFrom n.variable function = split_from function (λ a. truth_of nodes n.high a) (λ a. truth_of nodes n.low a) n.variable (λ a. refl) high_from low_from in
      let e = h.0 in
      let top : n.variable ≤ top_of nodes e = from_top function n.variable (omega arith) from e h.1 h.2 in
      let at_high : (a : ℕ → Bool) → truth_of nodes e (with_value a n.variable true) ≡ truth_of nodes n.high a = λ a. h.2 (with_value a n.variable true)
      ∙ (λ i. cond (at_itself a n.variable true i) (truth_of nodes n.high (with_value a n.variable true)) (truth_of nodes n.low (with_value a n.variable true))) ∙ high_from n.variable true a (omega arith) in
      let at_low : (a : ℕ → Bool) → truth_of nodes e (with_value a n.variable false) ≡ truth_of nodes n.low a = λ a. h.2 (with_value a n.variable false)
      ∙ (λ i. cond (at_itself a n.variable false i) (truth_of nodes n.high (with_value a n.variable false)) (truth_of nodes n.low (with_value a n.variable false))) ∙ low_from n.variable false a (omega arith) in
      elim (cases_eq n.variable (top_of nodes e)) [
        | inl here ↦
            let positive : 0 < node_of e = positive_from_top nodes width o e (omega arith) in
            let m = node_at nodes (node_of e) in
            let own : IsBranch nodes width (node_of e) m = o.branches (node_of e) positive h.1 in
            let variable : m.variable ≡ n.variable = sym (top-at nodes e) ∙ sym here in
            let flag : is_flipped e ≡ false = flag_cancel (is_flipped e) false (sym (all_true nodes width o (node_of e + 1) e (omega arith) h.1)
            ∙ h.2 (λ _. true) ∙ all_true nodes width o (node_of n.high + 1) n.high (omega arith) branch.high_below ∙ ap (λ f. xor f true) (regular_flag n.high branch.regular)) in
            let high : (a : ℕ → Bool) → truth_of nodes m.high a ≡ truth_of nodes n.high a = λ a. sym (ap (λ f. xor f (truth_of nodes m.high a)) flag) ∙ sym (high-says nodes width o e positive h.1 a)
            ∙ ap (λ w. truth_of nodes e (with_value a w true)) variable ∙ at_high a in
            let low : (a : ℕ → Bool) → truth_of nodes m.low a ≡ truth_of nodes n.low a = λ a. sym (ap (λ f. xor f (truth_of nodes m.low a)) flag) ∙ sym (low-says nodes width o e positive h.1 a)
            ∙ ap (λ w. truth_of nodes e (with_value a w false)) variable ∙ at_low a in
            absent (node_of e) h.1 (same_node m n variable
            (unique nodes width o d m.high n.high (omega (arith, own.high_below, h.1)) branch.high_below high)
            (unique nodes width o d m.low n.low (omega (arith, own.low_below, h.1)) branch.low_below low))
        | inr later ↦
            branch.differ (unique nodes width o d n.high n.low branch.high_below branch.low_below
            (λ a. sym (at_high a) ∙ later-says nodes width o e h.1 n.variable (omega arith) true a ∙ sym (later-says nodes width o e h.1 n.variable (omega arith) false a) ∙ at_low a))
      ]

  pub held_as : (function other : (ℕ → Bool) → Bool) → ((a : ℕ → Bool) → function a ≡ other a) → Held function → Held other
  held_as function other is h = (h.0, h.1, λ a. h.2 a ∙ is a)

-- what an edge says where a variable is true, and elsewhere
pub record Splits (nodes : List Node) (v : ℕ) (e high low : Edge) : Type 0 where
  pub high_live : node_of high < length nodes
  pub low_live : node_of low < length nodes
  pub above_high : v < top_of nodes high
  pub above_low : v < top_of nodes low
  pub says : (a : ℕ → Bool) → truth_of nodes e a ≡ cond (a v) (truth_of nodes high a) (truth_of nodes low a)

-- the branches of a choice
pub cond_cond : (b p q r s t u : Bool) → cond b (cond p q r) (cond s t u) ≡ cond (cond b p s) (cond b q t) (cond b r u)
cond_cond true p q r s t u = refl
cond_cond false p q r s t u = refl

-- a choice, from those of the branches
pub choice_joins : (v t x y t_high x_high y_high t_low x_low y_low high low : Bool) → t ≡ cond v t_high t_low → x ≡ cond v x_high x_low → y ≡ cond v y_high y_low →
    high ≡ cond t_high x_high y_high → low ≡ cond t_low x_low y_low → cond t x y ≡ cond v high low
choice_joins v t x y t_high x_high y_high t_low x_low y_low high low t_is x_is y_is high_is low_is =
    (λ i. cond (t_is i) (x_is i) (y_is i))
    ∙ sym (cond_cond v t_high x_high y_high t_low x_low y_low)
    ∙ (λ i. cond v (sym high_is i) (sym low_is i))

module _ (old : List Node) (old_width : ℕ) (old_ordered : IsOrdered old old_width) (nodes : List Node) (width : ℕ) (o : IsOrdered nodes width) (d : IsDistinct nodes) (v : ℕ) (narrow : v < past) where
  edge_from : (e : Edge) → node_of e < length old → v < top_of old e → IsFrom (v + 1) (λ a. truth_of old e a)
  edge_from e live above w b a l = later-says old old_width old_ordered e live w (omega arith) b a

  -- where a conjunction is held, so are those of the branches
  pub and_halves : (x x_high x_low y y_high y_low : Edge) → Splits old v x x_high x_low → Splits old v y y_high y_low →
      Held nodes width o d (λ a. truth_of old x a && truth_of old y a) → Held nodes width o d (λ a. truth_of old x_high a && truth_of old y_high a) × Held nodes width o d (λ a. truth_of old x_low a && truth_of old y_low a)
  and_halves x x_high x_low y y_high y_low sx sy h =
      let function : (ℕ → Bool) → Bool = λ a. truth_of old x a && truth_of old y a in
      let high : (ℕ → Bool) → Bool = λ a. truth_of old x_high a && truth_of old y_high a in
      let low : (ℕ → Bool) → Bool = λ a. truth_of old x_low a && truth_of old y_low a in
      let is : (a : ℕ → Bool) → function a ≡ cond (a v) (high a) (low a) = λ a. (λ i. sx.says a i && sy.says a i)
      ∙ sym (cond-and (a v) (truth_of old x_high a) (truth_of old y_high a) (truth_of old x_low a) (truth_of old y_low a)) in
      let high_from : IsFrom (v + 1) high = λ w b a l. λ i. edge_from x_high sx.high_live sx.above_high w b a l i && edge_from y_high sy.high_live sy.above_high w b a l i in
      let low_from : IsFrom (v + 1) low = λ w b a l. λ i. edge_from x_low sx.low_live sx.above_low w b a l i && edge_from y_low sy.low_live sy.above_low w b a l i in
      (held_high nodes width o d function high low v narrow is high_from low_from h, held_low nodes width o d function high low v narrow is high_from low_from h)

  -- where a choice is held, so are those of the branches
  pub choice_halves : (t t_high t_low x x_high x_low y y_high y_low : Edge) → Splits old v t t_high t_low → Splits old v x x_high x_low → Splits old v y y_high y_low →
      Held nodes width o d (λ a. cond (truth_of old t a) (truth_of old x a) (truth_of old y a)) →
      Held nodes width o d (λ a. cond (truth_of old t_high a) (truth_of old x_high a) (truth_of old y_high a)) × Held nodes width o d (λ a. cond (truth_of old t_low a) (truth_of old x_low a) (truth_of old y_low a))
  choice_halves t t_high t_low x x_high x_low y y_high y_low st sx sy h =
      let function : (ℕ → Bool) → Bool = λ a. cond (truth_of old t a) (truth_of old x a) (truth_of old y a) in
      let high : (ℕ → Bool) → Bool = λ a. cond (truth_of old t_high a) (truth_of old x_high a) (truth_of old y_high a) in
      let low : (ℕ → Bool) → Bool = λ a. cond (truth_of old t_low a) (truth_of old x_low a) (truth_of old y_low a) in
      let is : (a : ℕ → Bool) → function a ≡ cond (a v) (high a) (low a) = λ a. (λ i. cond (st.says a i) (sx.says a i) (sy.says a i))
      ∙ sym (cond_cond (a v) (truth_of old t_high a) (truth_of old x_high a) (truth_of old y_high a) (truth_of old t_low a) (truth_of old x_low a) (truth_of old y_low a)) in
      let high_from : IsFrom (v + 1) high = λ w b a l. λ i. cond (edge_from t_high st.high_live st.above_high w b a l i) (edge_from x_high sx.high_live sx.above_high w b a l i) (edge_from y_high sy.high_live sy.above_high w b a l i) in
      let low_from : IsFrom (v + 1) low = λ w b a l. λ i. cond (edge_from t_low st.low_live st.above_low w b a l i) (edge_from x_low sx.low_live sx.above_low w b a l i) (edge_from y_low sy.low_live sy.above_low w b a l i) in
      (held_high nodes width o d function high low v narrow is high_from low_from h, held_low nodes width o d function high low v narrow is high_from low_from h)
