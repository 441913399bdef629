-- The walk over a cone.
use Rattle.std.proofs.Common.{◌≡◌, ℕ, zero, suc, ◌+◌, ◌<◌, ◌≤◌, Bool, true, false, cond, List, [], ◌∷◌, ◌++◌, length, get_or, set, replicate, refl, ap, ◌∙◌, sym, subst, inl, inr, arith, get_or-set_same, get_or-set_other, length-set}
use Rattle.std.specs.List.{Contains}
use Rattle.std.proofs.lemmas.List.{length_push, get_or_append_left, get_or_push, get_or_default, length-replicate, get_or_past}
use Rattle.std.proofs.lemmas.List.Elements.{Contains-append_left, Contains-push, Contains-push_cases}
use Rattle.std.proofs.lemmas.Bool.{cases_eq, cases_lt, both_ways}
use Rattle.bfr_store.specs.declared.edge.Edge.{Edge}
use Rattle.bfr_store.specs.Edges.{node_of}
use Rattle.aig_store.specs.declared.node.AigNode.{AigNode}
use Rattle.aig_store.specs.declared.node.AigNode.TheVariants.{Constant, Var, And}
use Rattle.aig_store.specs.Nodes.{node_at}
use Rattle.aig_store.specs.Inside.{IsOrdered}
use Rattle.aig_store.proofs.Nodes.{gate-at}
use Rattle.cnf_rup.specs.Cones.{IsInCone, at_root, at_first, at_second, IsCone}
use Rattle.cnf_rup.specs.Marked.{unset_count}
use Rattle.cnf_rup.specs.Searches.{IsFound, IsSearch, cone_below, cone_with, seen_below, seen_with}
use Rattle.cnf_rup.proofs.Marks.{unset-set}

-- ---- a node that the walk comes to
module _ (nodes : List AigNode) (root : ℕ) (seen : List Bool) (cone : List ℕ) (f : IsFound nodes root seen cone) (i : ℕ) (inside : IsInCone nodes root i) (within : i ≤ root) where
  new : get_or seen i false ≡ false → IsFound nodes root (set seen i true) (cone ++ i ∷ [])
  new none =
      let room : i < length seen = omega (arith, f.one_each, within) in
      record {
        one_each = length-set seen i true ∙ f.one_each;
        once = λ j k lower h. elim (cases_lt k (length cone)) [
          | inl under ↦ (λ e. f.once j k lower under (sym (get_or_append_left cone (i ∷ []) 0 j (omega (arith, lower, under))) ∙ e ∙ get_or_append_left cone (i ∷ []) 0 k under))
          | inr over ↦ (λ e.
              let last : k ≡ length cone = omega (arith, h, over, length_push cone i) in
              let before : j < length cone = omega (arith, lower, last) in
              let same : get_or cone j 0 ≡ i = sym (get_or_append_left cone (i ∷ []) 0 j before) ∙ e ∙ get_or_push cone i 0 k (sym last) in
              both_ways (get_or seen i false) none (f.marked i (j, before, get_or_default cone j i 0 before ∙ same)))
        ];
        sound = λ j h. elim (Contains-push_cases cone i j h) [ inl old ↦ f.sound j old | inr last ↦ subst (IsInCone nodes root) last inside ];
        within = λ j h. elim (Contains-push_cases cone i j h) [ inl old ↦ f.within j old | inr last ↦ omega (arith, last, within) ];
        marked = λ j h. elim (cases_eq j i) [
          | inl here ↦ ap (λ k. get_or (set seen i true) k false) here ∙ get_or-set_same seen i true false room
          | inr other ↦ get_or-set_other seen i j true false other ∙ elim (Contains-push_cases cone i j h) [ inl old ↦ f.marked j old | inr last ↦ absurd (other (sym last)) ]
        ];
        listed = λ j h. elim (cases_eq j i) [
          | inl here ↦ subst (Contains (cone ++ i ∷ [])) (sym here) (Contains-push cone i)
          | inr other ↦ Contains-append_left cone (i ∷ []) j (f.listed j (sym (get_or-set_other seen i j true false other) ∙ h))
        ];
        count = omega (arith, length_push cone i, f.count, unset-set seen i room none);
      }

  found-when : (b : Bool) → get_or seen i false ≡ b → IsFound nodes root (cond b seen (set seen i true)) (cond b cone (cone ++ i ∷ []))
  found-when true e = f
  found-when false e = new e

  pub found-more : IsFound nodes root (seen_with i seen) (cone_with i seen cone)
  found-more = found-when (get_or seen i false) refl

  holds-when : (b : Bool) → get_or seen i false ≡ b → Contains (cond b cone (cone ++ i ∷ [])) i
  holds-when true e = f.listed i e
  holds-when false e = Contains-push cone i

  pub holds-it : Contains (cone_with i seen cone) i
  holds-it = holds-when (get_or seen i false) refl

-- ---- what was there stays
stays-when : (b : Bool) (cone : List ℕ) (i j : ℕ) → Contains cone j → Contains (cond b cone (cone ++ i ∷ [])) j
stays-when true cone i j h = h
stays-when false cone i j h = Contains-append_left cone (i ∷ []) j h

pub stays : (i : ℕ) (seen : List Bool) (cone : List ℕ) (j : ℕ) → Contains cone j → Contains (cone_with i seen cone) j
stays i seen cone j h = stays-when (get_or seen i false) cone i j h

longer-when : (b : Bool) (cone : List ℕ) (i : ℕ) → length cone ≤ length (cond b cone (cone ++ i ∷ []))
longer-when true cone i = omega arith
longer-when false cone i = omega (arith, length_push cone i)

pub longer : (i : ℕ) (seen : List Bool) (cone : List ℕ) → length cone ≤ length (cone_with i seen cone)
longer i seen cone = longer-when (get_or seen i false) cone i

same-when : (b : Bool) (cone : List ℕ) (i k : ℕ) → k < length cone → get_or (cond b cone (cone ++ i ∷ [])) k 0 ≡ get_or cone k 0
same-when true cone i k h = refl
same-when false cone i k h = get_or_append_left cone (i ∷ []) 0 k h

pub same-at : (i : ℕ) (seen : List Bool) (cone : List ℕ) (k : ℕ) → k < length cone → get_or (cone_with i seen cone) k 0 ≡ get_or cone k 0
same-at i seen cone k h = same-when (get_or seen i false) cone i k h

-- ---- a turn of the walk
module _ (nodes : List AigNode) (root : ℕ) (seen : List Bool) (cone : List ℕ) (place : ℕ) (s : IsSearch nodes root seen cone place) (more : place < length cone) where
  pub here-inside : IsInCone nodes root (get_or cone place 0)
  here-inside = s.found.sound (get_or cone place 0) (place, more, get_or_default cone place (get_or cone place 0) 0 more)

  pub here-within : get_or cone place 0 ≤ root
  here-within = s.found.within (get_or cone place 0) (place, more, get_or_default cone place (get_or cone place 0) 0 more)

  module _ (x y : Edge) (is : node_at nodes (get_or cone place 0) ≡ And x y) (x_below : node_of x < get_or cone place 0) (y_below : node_of y < get_or cone place 0) where
    abbrev seen1 : List Bool
    seen1 = seen_with (node_of x) seen

    abbrev cone1 : List ℕ
    cone1 = cone_with (node_of x) seen cone

    found1 : IsFound nodes root seen1 cone1
    found1 = found-more nodes root seen cone s.found (node_of x) (at_first (get_or cone place 0) x y here-inside is) (omega (arith, x_below, here-within))

    y_inside : IsInCone nodes root (node_of y)
    y_inside = at_second (get_or cone place 0) x y here-inside is

    y_within : node_of y ≤ root
    y_within = omega (arith, y_below, here-within)

    pub search-and : IsSearch nodes root (seen_with (node_of y) seen1) (cone_with (node_of y) seen1 cone1) (place + 1)
    search-and = record {
      found = found-more nodes root seen1 cone1 found1 (node_of y) y_inside y_within;
      closed = λ k u v under at.
          let in0 : k < length cone = omega (arith, under, more) in
          let in1 : k < length cone1 = omega (arith, in0, longer (node_of x) seen cone) in
          let before : node_at nodes (get_or cone k 0) ≡ And u v = ap (node_at nodes) (sym (same-at (node_of y) seen1 cone1 k in1 ∙ same-at (node_of x) seen cone k in0)) ∙ at in
          elim (cases_eq k place) [
            | inl here ↦
                let both : And x y ≡ And u v = sym is ∙ ap (λ j. node_at nodes (get_or cone j 0)) (sym here) ∙ before in (
                  subst (λ (w : Edge). Contains (cone_with (node_of y) seen1 cone1) (node_of w)) (first-same x y u v both)
                      (stays (node_of y) seen1 cone1 (node_of x) (holds-it nodes root seen cone s.found (node_of x) (at_first (get_or cone place 0) x y here-inside is) (omega (arith, x_below, here-within)))),
                  subst (λ (w : Edge). Contains (cone_with (node_of y) seen1 cone1) (node_of w)) (second-same x y u v both)
                      (holds-it nodes root seen1 cone1 found1 (node_of y) y_inside y_within),
                )
            | inr other ↦
                let old = s.closed k u v (omega (arith, under, other)) before in (
                  stays (node_of y) seen1 cone1 (node_of u) (stays (node_of x) seen cone (node_of u) old.0),
                  stays (node_of y) seen1 cone1 (node_of v) (stays (node_of x) seen cone (node_of v) old.1),
                )
          ];
      begins = stays (node_of y) seen1 cone1 root (stays (node_of x) seen cone root s.begins);
      reached = omega (arith, more, longer (node_of x) seen cone, longer (node_of y) seen1 cone1);
    }
      where
        first-same : (x y u v : Edge) → And x y ≡ And u v → x ≡ u
        first-same x y u v e = cc

        second-same : (x y u v : Edge) → And x y ≡ And u v → y ≡ v
        second-same x y u v e = cc

  -- a node that is no conjunction
  pub search-other : ((x y : Edge) → node_at nodes (get_or cone place 0) ≡ And x y → ⊥) → IsSearch nodes root seen cone (place + 1)
  search-other none = record {
    found = s.found;
    closed = λ k u v under at. elim (cases_eq k place) [
      | inl here ↦ absurd (none u v (ap (λ j. node_at nodes (get_or cone j 0)) (sym here) ∙ at))
      | inr other ↦ s.closed k u v (omega (arith, under, other)) at
    ];
    begins = s.begins;
    reached = omega (arith, more);
  }

-- ---- the walk ends
module _ (nodes : List AigNode) (root : ℕ) (seen : List Bool) (cone : List ℕ) (place : ℕ) (s : IsSearch nodes root seen cone place) (all : length cone ≤ place) where
  below : (i : ℕ) (x y : Edge) → Contains cone i → node_at nodes i ≡ And x y → Contains cone (node_of x) × Contains cone (node_of y)
  below i x y (k, under, is) at = s.closed k x y (omega (arith, under, all)) (ap (node_at nodes) (get_or_default cone k 0 i under ∙ is) ∙ at)

  whole : (i : ℕ) → IsInCone nodes root i → Contains cone i
  whole _ at_root = s.begins
  whole _ (at_first i x y h is) = (below i x y (whole i h) is).0
  whole _ (at_second i x y h is) = (below i x y (whole i h) is).1

  pub search-cone : IsCone nodes root cone
  search-cone = record { once = s.found.once; sound = s.found.sound; whole = whole }

-- ---- the walk begins
none-set : (n i : ℕ) → get_or (replicate n false) i false ≡ false
none-set zero i = get_or_past [] i false (omega arith)
none-set (suc n) zero = refl
none-set (suc n) (suc i) = none-set n i

all-unset : (n : ℕ) → unset_count (replicate n false) ≡ n
all-unset zero = refl
all-unset (suc n) = omega (arith, all-unset n)

pub found-none : (nodes : List AigNode) (root : ℕ) → IsFound nodes root (replicate (root + 1) false) []
found-none nodes root = record {
  one_each = length-replicate (root + 1) false;
  once = λ j k lower h. absurd (omega (arith, h));
  sound = λ j h. absurd (omega (arith, h.1));
  within = λ j h. absurd (omega (arith, h.1));
  marked = λ j h. absurd (omega (arith, h.1));
  listed = λ j h. absurd (both_ways (get_or (replicate (root + 1) false) j false) (none-set (root + 1) j) h);
  count = omega (arith, all-unset (root + 1));
}

pub search-begin : (nodes : List AigNode) (root : ℕ) (seen0 seen : List Bool) (cone : List ℕ) → seen0 ≡ replicate (root + 1) false → seen ≡ seen_with root seen0 → cone ≡ cone_with root seen0 [] → IsSearch nodes root seen cone 0
search-begin nodes root seen0 seen cone first seen_is cone_is =
    let f : IsFound nodes root seen0 [] = subst (λ (s : List Bool). IsFound nodes root s []) (sym first) (found-none nodes root) in
    rw (seen_is, cone_is) (record {
      found = found-more nodes root seen0 [] f root at_root (omega arith);
      closed = λ k x y h at. absurd (omega (arith, h));
      begins = holds-it nodes root seen0 [] f root at_root (omega arith);
      reached = omega arith;
    })

-- ---- the same, in the words of the code
pub seen-long : (i : ℕ) (seen : List Bool) → length (seen_with i seen) ≡ length seen
seen-long i seen = by-mark (get_or seen i false)
  where
    by-mark : (b : Bool) → length (cond b seen (set seen i true)) ≡ length seen
    by-mark true = refl
    by-mark false = length-set seen i true

pub two-seen : (n : AigNode) (x y : Edge) (i j : ℕ) (before between seen2 : List Bool) → n ≡ And x y → i ≡ node_of x → j ≡ node_of y → between ≡ seen_with i before → seen2 ≡ seen_with j between → seen2 ≡ seen_below n before
two-seen n x y i j before between seen2 n_is i_is j_is between_is seen2_is =
    seen2_is ∙ (λ k. seen_with (j_is k) ((between_is ∙ ap (λ m. seen_with m before) i_is) k)) ∙ sym (ap (λ m. seen_below m before) n_is)

pub two-listed : (n : AigNode) (x y : Edge) (i j : ℕ) (before between : List Bool) (cone0 middle cone2 : List ℕ) → n ≡ And x y → i ≡ node_of x → j ≡ node_of y → between ≡ seen_with i before → middle ≡ cone_with i before cone0 → cone2 ≡ cone_with j between middle → cone2 ≡ cone_below n before cone0
two-listed n x y i j before between cone0 middle cone2 n_is i_is j_is between_is longer_is cone2_is =
    cone2_is ∙ (λ k. cone_with (j_is k) ((between_is ∙ ap (λ m. seen_with m before) i_is) k) ((longer_is ∙ ap (λ m. cone_with m before cone0) i_is) k)) ∙ sym (ap (λ m. cone_below m before cone0) n_is)

module _ (nodes : List AigNode) (width : ℕ) (o : IsOrdered nodes width) (root : ℕ) (live : root < length nodes) (seen : List Bool) (cone : List ℕ) (place : ℕ) (s : IsSearch nodes root seen cone place) (more : place < length cone) where
  next-by : (n : AigNode) → node_at nodes (get_or cone place 0) ≡ n → IsSearch nodes root (seen_below n seen) (cone_below n seen cone) (place + 1)
  next-by Constant is = search-other nodes root seen cone place s more (λ x y e. not_both x y (sym is ∙ e))
    where
      not_both : (x y : Edge) → Constant ≡ And x y → ⊥
      not_both x y e = absurd cc
  next-by (Var k) is = search-other nodes root seen cone place s more (λ x y e. not_both x y (sym is ∙ e))
    where
      not_both : (x y : Edge) → Var k ≡ And x y → ⊥
      not_both x y e = absurd cc
  next-by (And x y) is =
      let g = gate-at nodes width o (get_or cone place 0) x y (omega (arith, here-within nodes root seen cone place s more, live)) is in
      search-and nodes root seen cone place s more x y is (omega (arith, g.apart, g.below)) g.below

  pub search-next : (here : ℕ) (seen' : List Bool) (cone' : List ℕ) → here ≡ get_or cone place 0 → seen' ≡ seen_below (node_at nodes here) seen → cone' ≡ cone_below (node_at nodes here) seen cone → IsSearch nodes root seen' cone' (place + 1)
  search-next here seen' cone' is seen_is cone_is = rw (seen_is, cone_is, is) (next-by (node_at nodes (get_or cone place 0)) refl)
