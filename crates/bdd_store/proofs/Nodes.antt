-- What a node of an ordered store says.
use Rattle.std.proofs.Common.{◌≡◌, ◌≢◌, ℕ, ◌+◌, ◌*◌, ◌%◌, ◌<◌, Bool, true, false, cond, eqb, List, [], length, get_or, take, drop, refl, ap, ◌∙◌, sym, subst, inl, inr, arith, eq-eqb, eqb-true}
use Rattle.std.proofs.lemmas.List.{take-append-drop, length-take}
use Rattle.std.proofs.lemmas.Bool.{cases_eq, false≢true}
use Rattle.std.proofs.lemmas.Bool.Decides.{nat_tests}
use Rattle.bfr_store.specs.declared.edge.Edge.{Edge}
use Rattle.bfr_store.specs.Edges.{node_of, is_flipped, xor, truth_at}
use Rattle.bfr_store.specs.Truth.{values_from, truth}
use Rattle.bfr_store.proofs.Values.{truth-append, values-at}
use Rattle.bdd_store.specs.declared.node.Node.{Node}
use Rattle.bdd_store.specs.Nodes.{past, constant_node, node_at, node_value, top_of, truth_of}
use Rattle.bdd_store.specs.Inside.{IsBranch, IsOrdered}

-- the truths of the nodes
abbrev pub values_of : List Node → (ℕ → Bool) → List Bool
values_of nodes a = values_from node_value [] nodes a

pub truth-at : (nodes : List Node) (e : Edge) (a : ℕ → Bool) → truth_of nodes e a ≡ truth_at (values_of nodes a) e
unfolding truth_of
truth-at nodes e a = refl

pub top-at : (nodes : List Node) (e : Edge) → top_of nodes e ≡ (node_at nodes (node_of e)).variable
unfolding top_of
top-at nodes e = refl

pub not_past : (v : ℕ) → v < past → eqb v past ≡ false
not_past v h = grind (arith, nat_tests)

-- the nodes before number i say of an edge of theirs what all say
truth-take : (nodes : List Node) (i : ℕ) (e : Edge) (a : ℕ → Bool) → i < length nodes → node_of e < i → truth_at (values_of (take i nodes) a) e ≡ truth_of nodes e a
unfolding truth_of
truth-take nodes i e a within h =
    sym (truth-append node_value (take i nodes) (drop i nodes) e a (omega (arith, length-take i nodes)))
    ∙ ap (λ ns. truth node_value ns e a) (take-append-drop i nodes)

pub constant_true : (nodes : List Node) (width : ℕ) → IsOrdered nodes width → (a : ℕ → Bool) → get_or (values_of nodes a) 0 true ≡ true
constant_true nodes width o a =
    values-at node_value [] nodes a 0 constant_node o.some 0 refl
    ∙ ap (λ n. node_value [] a n) o.first

pub node-says : (nodes : List Node) (width : ℕ) → IsOrdered nodes width → (i : ℕ) → 0 < i → i < length nodes → (a : ℕ → Bool) →
    get_or (values_of nodes a) i true ≡ cond (a (node_at nodes i).variable) (truth_of nodes (node_at nodes i).high a) (truth_of nodes (node_at nodes i).low a)
node-says nodes width o i positive within a =
    let n = node_at nodes i in
    let b = o.branches i positive within in
    let small : n.variable < past = omega (arith, b.in_width, o.narrow) in
    values-at node_value [] nodes a i constant_node within i (omega arith)
    ∙ ap (λ t. cond t true (cond (a n.variable) (truth_at (values_of (take i nodes) a) n.high) (truth_at (values_of (take i nodes) a) n.low))) (not_past n.variable small)
    ∙ (λ j. cond (a n.variable) (truth-take nodes i n.high a within b.high_below j) (truth-take nodes i n.low a within b.low_below j))

-- a branching edge says what its node's edges say, complemented with it
pub edge-says : (nodes : List Node) (width : ℕ) → IsOrdered nodes width → (e : Edge) → 0 < node_of e → node_of e < length nodes → (a : ℕ → Bool) →
    truth_of nodes e a ≡ xor (is_flipped e) (cond (a (node_at nodes (node_of e)).variable) (truth_of nodes (node_at nodes (node_of e)).high a) (truth_of nodes (node_at nodes (node_of e)).low a))
unfolding truth_of
edge-says nodes width o e positive within a = ap (xor (is_flipped e)) (node-says nodes width o (node_of e) positive within a)

pub constant-says : (nodes : List Node) (width : ℕ) → IsOrdered nodes width → (e : Edge) → node_of e ≡ 0 → (a : ℕ → Bool) → truth_of nodes e a ≡ xor (is_flipped e) true
unfolding truth_of
constant-says nodes width o e is a = ap (xor (is_flipped e)) (ap (λ i. get_or (values_of nodes a) i true) is ∙ constant_true nodes width o a)

-- an edge of a node that is no constant's has a variable below the width; a constant's is past all
pub top-in_width : (nodes : List Node) (width : ℕ) → IsOrdered nodes width → (e : Edge) → 0 < node_of e → node_of e < length nodes → top_of nodes e < width
unfolding top_of
top-in_width nodes width o e positive within = (o.branches (node_of e) positive within).in_width

pub top-constant : (nodes : List Node) (width : ℕ) → IsOrdered nodes width → (e : Edge) → node_of e ≡ 0 → top_of nodes e ≡ past
unfolding top_of
top-constant nodes width o e is = ap (λ i. (node_at nodes i).variable) is ∙ ap (λ (n : Node). n.variable) o.first

-- an edge is where its node's variable is past none that it leads to
pub positive_from_top : (nodes : List Node) (width : ℕ) → IsOrdered nodes width → (e : Edge) → top_of nodes e < past → 0 < node_of e
positive_from_top nodes width o e h = elim (cases_eq (node_of e) 0) [ inl is ↦ absurd (omega (arith, top-constant nodes width o e is)) | inr other ↦ omega arith ]

-- edges of one node have one variable
pub same_top : (nodes : List Node) (d e : Edge) → node_of d ≡ node_of e → top_of nodes d ≡ top_of nodes e
unfolding top_of
same_top nodes d e is = ap (λ i. (node_at nodes i).variable) is

-- at a variable past which the edge's node is, the edge is its own branch
pub same_branches : (b t : Bool) → t ≡ cond b t t
same_branches true t = refl
same_branches false t = refl

-- a complemented choice
pub flag_inside : (flag b x y p q : Bool) → p ≡ xor flag x → q ≡ xor flag y → xor flag (cond b x y) ≡ cond b p q
flag_inside flag true x y p q h k = sym h
flag_inside flag false x y p q h k = sym k

-- the edges of a node, complemented with the edge that leads to it
pub branches-say : (nodes : List Node) (width : ℕ) → IsOrdered nodes width → (e high low : Edge) (n : Node) (flag : Bool) → n ≡ node_at nodes (node_of e) → 0 < node_of e → node_of e < length nodes → flag ≡ is_flipped e →
    ((values : List Bool) → truth_at values high ≡ xor flag (truth_at values n.high)) → ((values : List Bool) → truth_at values low ≡ xor flag (truth_at values n.low)) →
    (a : ℕ → Bool) → truth_of nodes e a ≡ cond (a n.variable) (truth_of nodes high a) (truth_of nodes low a)
unfolding truth_of
branches-say nodes width o e high low n flag is positive within flag_is says_high says_low a =
    edge-says nodes width o e positive within a
    ∙ (λ i. xor (sym flag_is i) (cond (a (sym is i).variable) (truth_at (values_of nodes a) (sym is i).high) (truth_at (values_of nodes a) (sym is i).low)))
    ∙ flag_inside flag (a n.variable) _ _ _ _ (says_high (values_of nodes a)) (says_low (values_of nodes a))

-- an edge to a node that another node leads to is past that node's variable
pub above_high : (nodes : List Node) (width : ℕ) → IsOrdered nodes width → (e high : Edge) (n : Node) → n ≡ node_at nodes (node_of e) → 0 < node_of e → node_of e < length nodes → node_of high ≡ node_of n.high → n.variable < top_of nodes high
above_high nodes width o e high n is positive within same =
    let b : IsBranch nodes width (node_of e) n = subst (λ m. IsBranch nodes width (node_of e) m) (sym is) (o.branches (node_of e) positive within) in
    omega (arith, b.above_high, same_top nodes high n.high same)

pub above_low : (nodes : List Node) (width : ℕ) → IsOrdered nodes width → (e low : Edge) (n : Node) → n ≡ node_at nodes (node_of e) → 0 < node_of e → node_of e < length nodes → node_of low ≡ node_of n.low → n.variable < top_of nodes low
above_low nodes width o e low n is positive within same =
    let b : IsBranch nodes width (node_of e) n = subst (λ m. IsBranch nodes width (node_of e) m) (sym is) (o.branches (node_of e) positive within) in
    omega (arith, b.above_low, same_top nodes low n.low same)

-- a node that is made of two edges, complemented where the high one is
pub flagged_branch : (nodes : List Node) (width variable : ℕ) (high low h l : Edge) (flag : Bool) → flag ≡ is_flipped high →
    node_of h ≡ node_of high → node_of l ≡ node_of low → (flag ≡ false → h ≡ high) → (flag ≡ false → l ≡ low) → (flag ≡ true → h.number % 2 + high.number % 2 ≡ 1) → (flag ≡ true → l.number % 2 + low.number % 2 ≡ 1) →
    high.number ≢ low.number → node_of high < length nodes → node_of low < length nodes → variable < top_of nodes high → variable < top_of nodes low → variable < width →
    IsBranch nodes width (length nodes) (record { variable = variable; high = h; low = l })
flagged_branch nodes width variable high low h l false flag_is h_node l_node h_plain l_plain h_parity l_parity differ high_live low_live past_high past_low in_width =
    let same_h = ap (λ (e : Edge). e.number) (h_plain refl) in
    let same_l = ap (λ (e : Edge). e.number) (l_plain refl) in
    let even : high.number % 2 ≢ 1 = λ odd. false≢true (flag_is ∙ eq-eqb (high.number % 2) 1 odd) in
    record {
      high_below = omega (arith, h_node);
      low_below = omega (arith, l_node);
      regular = omega (arith, same_h, even);
      differ = λ e. differ (omega (arith, same_h, same_l, e));
      above_high = omega (arith, same_top nodes h high h_node);
      above_low = omega (arith, same_top nodes l low l_node);
      in_width = in_width;
    }
flagged_branch nodes width variable high low h l true flag_is h_node l_node h_plain l_plain h_parity l_parity differ high_live low_live past_high past_low in_width =
    let odd : high.number % 2 ≡ 1 = eqb-true (high.number % 2) 1 (sym flag_is) in
    let p = h_parity refl in let q = l_parity refl in
    record {
      high_below = omega (arith, h_node);
      low_below = omega (arith, l_node);
      regular = omega (arith, p, odd);
      differ = λ e. differ (omega (arith, h_node, l_node, p, q, e));
      above_high = omega (arith, same_top nodes h high h_node);
      above_low = omega (arith, same_top nodes l low l_node);
      in_width = in_width;
    }

-- what an edge to such a node says, complemented once more
pub flagged_truth : (nodes : List Node) (variable : ℕ) (high low h l e r : Edge) (flag : Bool) →
    ((values : List Bool) → truth_at values h ≡ xor flag (truth_at values high)) → ((values : List Bool) → truth_at values l ≡ xor flag (truth_at values low)) → ((values : List Bool) → truth_at values r ≡ xor flag (truth_at values e)) →
    (a : ℕ → Bool) → truth_of nodes e a ≡ cond (a variable) (truth_of nodes h a) (truth_of nodes l a) → truth_of nodes r a ≡ cond (a variable) (truth_of nodes high a) (truth_of nodes low a)
unfolding truth_of
flagged_truth nodes variable high low h l e r flag h_is l_is r_is a says =
    let vs = values_of nodes a in
    r_is vs ∙ ap (xor flag) (says ∙ (λ i. cond (a variable) (h_is vs i) (l_is vs i))) ∙ twice flag (a variable) (truth_at vs high) (truth_at vs low)
  where
    twice : (flag b x y : Bool) → xor flag (cond b (xor flag x) (xor flag y)) ≡ cond b x y
    twice true true true y = refl
    twice true true false y = refl
    twice true false x true = refl
    twice true false x false = refl
    twice false b x y = refl

-- the edge of a node that is not complemented says what the node's edges say
pub plain-says : (nodes : List Node) (width : ℕ) → IsOrdered nodes width → (i : ℕ) (e : Edge) → e.number ≡ 2 * i → 0 < i → i < length nodes → (a : ℕ → Bool) →
    truth_of nodes e a ≡ cond (a (node_at nodes i).variable) (truth_of nodes (node_at nodes i).high a) (truth_of nodes (node_at nodes i).low a)
unfolding truth_of
plain-says nodes width o i e is positive within a =
    let even : e.number % 2 ≡ 0 = omega (arith, is) in
    let half : node_of e ≡ i = omega (arith, is) in
    (λ j. xor (eqb (even j) 1) (get_or (values_of nodes a) (half j) true)) ∙ node-says nodes width o i positive within a
