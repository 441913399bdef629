-- Shapes as spines.
use Rattle.std.proofs.Common.{◌≡◌, ◌∙◌, ap, sym, refl, ℕ, zero, suc, ◌+◌, ◌-◌, ◌<◌, ◌≤◌, Bool, true, false, ◌&&◌, ◌||◌, List, [], ◌∷◌, ◌++◌, map, length, reverse, drop, get_or, append_assoc, Bor, Result, Ok, Err, arith}
use Rattle.std.specs.Prelude.{IfOk}
use Rattle.std.specs.List.{list_any}
use Rattle.std.proofs.lemmas.List.{drop_more, drop_all, length-map, length-drop, reverse-append, map-append, get_or-map}
use Rattle.gl_logic.specs.Exp.{Exp}
use Rattle.shape_spec.specs.ShapeSeen.{ShapeSeen, Boolean, Integer, Choice, Constant, Pair}
use Rattle.shape_spec.specs.ShapeOf.{shape_of, pairs}
use Rattle.shape_spec.specs.declared.shape.Shape.{Shape}
use Rattle.coverage.specs.Subjects.{car_of, cdr_of, behind, element_of}
use Rattle.coverage.specs.Rows.{is_consp}
use Rattle.coverage.specs.Covered.{conses_in, has_length, by_cases, is_covered, are_covered, is_either_with}
use Rattle.coverage.specs.Spines.{chain, end_of, is_nil_shape, size_in}
use Rattle.coverage.specs.declared.spine.End.{End}
use Rattle.coverage.specs.declared.spine.End.TheVariants as ended

-- ---- chains
pub chain_append : (ss us : List ShapeSeen) (t : ShapeSeen) → chain (ss ++ us) t ≡ chain ss (chain us t)
chain_append [] us t = refl
chain_append (s ∷ ss) us t = ap (Pair s) (chain_append ss us t)

reverse_more : (s : ShapeSeen) (ss : List ShapeSeen) → reverse ss ++ s ∷ [] ≡ reverse (s ∷ ss)
reverse_more s ss = sym (reverse-append (s ∷ []) ss)

-- the shapes of conses from the last to the first
pub pairs_chain : (ss : List ShapeSeen) (t : ShapeSeen) → pairs ss t ≡ chain (reverse ss) t
pairs_chain [] t = refl
pairs_chain (s ∷ ss) t =
    pairs_chain ss (Pair s t) ∙ (sym (chain_append (reverse ss) (s ∷ []) t) ∙ ap (λ us. chain us t) (reverse_more s ss))

-- one shape more, which stands before those that are in turn
pub one_more_in_turn : (xs new : List (Bor Shape)) (old : List ShapeSeen) (shapes : List Shape) (n : ℕ) (x : Bor Shape) → 0 < n → n ≤ length shapes → new ≡ xs ++ x ∷ [] → x.now ≡ get_or shapes (n - 1) x.now
    → map (λ s. shape_of s.now) xs ≡ old ++ reverse (map shape_of (drop n shapes)) → map (λ s. shape_of s.now) new ≡ old ++ reverse (map shape_of (drop (n - 1) shapes))
one_more_in_turn xs new old shapes n x p h e at w =
    let l : n - 1 < length shapes = omega (arith, p, h) in
    let k : n - 1 + 1 ≡ n = omega (arith, p) in
    let d : drop (n - 1) shapes ≡ x.now ∷ drop n shapes = drop_more shapes (n - 1) x.now l ∙ ((λ i. sym at i ∷ drop (n - 1 + 1) shapes) ∙ ap (λ m. x.now ∷ drop m shapes) k) in
    ap (map (λ s. shape_of s.now)) e
    ∙ (map-append (λ s. shape_of s.now) xs (x ∷ [])
    ∙ (ap (λ ys. ys ++ shape_of x.now ∷ []) w
    ∙ (append_assoc old (reverse (map shape_of (drop n shapes))) (shape_of x.now ∷ [])
    ∙ ap (λ ys. old ++ ys) (reverse_more (shape_of x.now) (map shape_of (drop n shapes)) ∙ ap (λ us. reverse (map shape_of us)) (sym d)))))

pub spine_more : (old new ss : List ShapeSeen) (t r w : ShapeSeen) → new ≡ old ++ reverse ss → r ≡ pairs ss t → chain old r ≡ w → chain new t ≡ w
spine_more old new ss t r w e f h =
    ap (λ us. chain us t) e ∙ (chain_append old (reverse ss) t ∙ (ap (chain old) (sym (pairs_chain ss t) ∙ sym f) ∙ h))

-- ---- sizes
pub some_size : (s : ShapeSeen) → 0 < size_in s
some_size (Boolean i) = omega arith
some_size (Integer is) = omega arith
some_size (Choice i a b) = omega arith
some_size (Constant c) = omega arith
some_size (Pair a d) = omega arith

pub end_size : (ss : List ShapeSeen) (t : ShapeSeen) → size_in t ≤ size_in (chain ss t)
end_size [] t = omega arith
end_size (s ∷ ss) t = omega (arith, end_size ss t)

pub element_size : (ss : List ShapeSeen) (t : ShapeSeen) (i : ℕ) (s : ShapeSeen) → i < length ss → s ≡ get_or ss i s → size_in s < size_in (chain ss t)
element_size [] t i s h e = absurd (omega (arith, h))
element_size (u ∷ ss) t zero s h e = let k : s ≡ u = e in omega (arith, ap size_in k, some_size (chain ss t))
element_size (u ∷ ss) t (suc i) s h e = omega (arith, element_size ss t i s (omega (arith, h)) e)

-- ---- places of a spine
pub end_has_no_cons : (e : End) → conses_in (end_of e) ≡ 0
end_has_no_cons (ended.Boolean i) = refl
end_has_no_cons (ended.Integer is) = refl
end_has_no_cons (ended.Constant c) = refl
end_has_no_cons (ended.Choice i a b) = refl

pub conses_chain : (ss : List ShapeSeen) (t : ShapeSeen) → conses_in t ≡ 0 → conses_in (chain ss t) ≡ length ss
conses_chain [] t h = h
conses_chain (s ∷ ss) t h = ap suc (conses_chain ss t h)

pub chain_at : (ss : List ShapeSeen) (t : ShapeSeen) (i : ℕ) (s : ShapeSeen) → i < length ss → s ≡ get_or ss i s → chain (drop i ss) t ≡ Pair s (chain (drop (i + 1) ss) t)
chain_at ss t i s h e = ap (λ us. chain us t) (drop_more ss i s h ∙ ap (λ u. u ∷ drop (i + 1) ss) (sym e))

module _ (said : List Exp) (S : Exp → Bool) where
  abbrev by_parts : ShapeSeen → ShapeSeen → Bool
  by_parts s d = list_any (is_consp S) said && (is_covered said (car_of S) s && is_covered said (cdr_of S) d)

  -- a cons, part by part or as a list
  pub cons_judged : (ss : List ShapeSeen) (e : End) (i : ℕ) (s : ShapeSeen) → i < length ss → s ≡ get_or ss i s
      → is_covered said S (chain (drop i ss) (end_of e)) ≡ (by_parts s (chain (drop (i + 1) ss) (end_of e)) || (has_length said S (length ss - i) && are_covered said S 0 (chain (drop i ss) (end_of e))))
  cons_judged ss e i s h at =
      let c = chain_at ss (end_of e) i s h at in
      let k : suc (conses_in (chain (drop (i + 1) ss) (end_of e))) ≡ length ss - i = omega (arith, conses_chain (drop (i + 1) ss) (end_of e) (end_has_no_cons e), length-drop (i + 1) ss) in
      ap (is_covered said S) c
      ∙ ((λ j. by_parts s (chain (drop (i + 1) ss) (end_of e)) || (has_length said S (k j) && are_covered said S 0 (Pair s (chain (drop (i + 1) ss) (end_of e)))))
      ∙ (λ j. by_parts s (chain (drop (i + 1) ss) (end_of e)) || (has_length said S (length ss - i) && are_covered said S 0 (sym c j))))

  -- a list that NIL does not end
  no_end : (t : ShapeSeen) (i : ℕ) → conses_in t ≡ 0 → is_nil_shape t ≡ false → are_covered said S i t ≡ false
  no_end (Constant c) i h k = k
  no_end (Boolean j) i h k = refl
  no_end (Integer is) i h k = refl
  no_end (Choice j a b) i h k = refl
  no_end (Pair a d) i h k = absurd (omega (arith, h))

  and_false : (p q : Bool) → q ≡ false → (p && q) ≡ false
  and_false true q h = h
  and_false false q h = refl

  pub unended : (ss : List ShapeSeen) (t : ShapeSeen) (i : ℕ) → conses_in t ≡ 0 → is_nil_shape t ≡ false → are_covered said S i (chain ss t) ≡ false
  unended [] t i h k = no_end t i h k
  unended (s ∷ ss) t i h k = and_false (is_covered said (element_of i S) s) (are_covered said S (suc i) (chain ss t)) (unended ss t (suc i) h k)

  pub nil_ended : (t : ShapeSeen) (i : ℕ) → is_nil_shape t ≡ true → are_covered said S i t ≡ true
  nil_ended (Constant c) i k = k
  nil_ended (Boolean j) i k = absurd cc
  nil_ended (Integer is) i k = absurd cc
  nil_ended (Choice j a b) i k = absurd cc
  nil_ended (Pair a d) i k = absurd cc

  -- the elements from a place on
  pub elements_at : (ss : List ShapeSeen) (t : ShapeSeen) (i j : ℕ) (s : ShapeSeen) → i < length ss → s ≡ get_or ss i s
      → are_covered said S j (chain (drop i ss) t) ≡ (is_covered said (element_of j S) s && are_covered said S (j + 1) (chain (drop (i + 1) ss) t))
  elements_at ss t i j s h at =
      let k : suc j ≡ j + 1 = omega arith in
      ap (are_covered said S j) (chain_at ss t i s h at) ∙ (λ m. is_covered said (element_of j S) s && are_covered said S (k m) (chain (drop (i + 1) ss) t))

-- ---- the same as the code finds it
abbrev pub shapes_in : List (Bor Shape) → List ShapeSeen
shapes_in items = map (λ e. shape_of e.now) items

pub at_mapped : (items : List (Bor Shape)) (i : ℕ) (x : Bor Shape) → i < length items → x ≡ get_or items i x → shape_of x.now ≡ get_or (shapes_in items) i (shape_of x.now)
at_mapped items i x h at = ap (λ (y : Bor Shape). shape_of y.now) at ∙ sym (get_or-map (λ (y : Bor Shape). shape_of y.now) items i x (shape_of x.now) h)

pub below_mapped : (items : List (Bor Shape)) (i : ℕ) → i < length items → i < length (shapes_in items)
below_mapped items i h = omega (arith, h, length-map items (λ (y : Bor Shape). shape_of y.now))

pub element_smaller : (items : List (Bor Shape)) (e : End) (i : ℕ) (x : Bor Shape) → i < length items → x ≡ get_or items i x → size_in (shape_of x.now) < size_in (chain (shapes_in items) (end_of e))
element_smaller items e i x h at = element_size (shapes_in items) (end_of e) i (shape_of x.now) (below_mapped items i h) (at_mapped items i x h at)

pub ok_mapped : {A E : Type 0} {P Q : A → Type 0} → (r : Result A E) → ((a : A) → P a → Q a) → IfOk r P → IfOk r Q
ok_mapped (Ok a) f h = f a h
ok_mapped (Err e) f h = tt

no_second : (p : Bool) → false ≡ (p && false)
no_second true = refl
no_second false = refl

module _ (said : List Exp) (S : Exp → Bool) (items : List (Bor Shape)) (e : End) (i : ℕ) (x : Bor Shape) (h : i < length items) (at : x ≡ get_or items i x) where
  abbrev whole : Bool
  whole = is_covered said S (chain (drop i (shapes_in items)) (end_of e))

  abbrev listed : Bool
  listed = has_length said S (length items - i) && are_covered said S 0 (chain (drop i (shapes_in items)) (end_of e))

  abbrev parted : Bool → Bool
  parted rest = list_any (is_consp S) said && (is_covered said (car_of S) (shape_of x.now) && rest)

  at_place : whole ≡ (parted (is_covered said (cdr_of S) (chain (drop (i + 1) (shapes_in items)) (end_of e))) || listed)
  at_place =
      cons_judged said S (shapes_in items) e i (shape_of x.now) (below_mapped items i h) (at_mapped items i x h at)
      ∙ (λ j. parted (is_covered said (cdr_of S) (chain (drop (i + 1) (shapes_in items)) (end_of e))) || (has_length said S (length-map items (λ (y : Bor Shape). shape_of y.now) j - i) && are_covered said S 0 (chain (drop i (shapes_in items)) (end_of e))))

  pub by_parts_true : (rest o : Bool) → rest ≡ is_covered said (cdr_of S) (chain (drop (i + 1) (shapes_in items)) (end_of e)) → o ≡ parted rest → o ≡ true → true ≡ whole
  by_parts_true rest o r p t = (λ j. ((sym t ∙ (p ∙ ap parted r)) j) || listed) ∙ sym at_place

  pub by_parts_false : (rest o q : Bool) → rest ≡ is_covered said (cdr_of S) (chain (drop (i + 1) (shapes_in items)) (end_of e)) → o ≡ parted rest → o ≡ false → q ≡ listed → q ≡ whole
  by_parts_false rest o q r p t l = l ∙ ((λ j. ((sym t ∙ (p ∙ ap parted r)) j) || listed) ∙ sym at_place)

  -- the element at a place of the list that begins at another
  module _ (place : ℕ) (before : place ≤ i) (begun : Bool) where
    abbrev from : ℕ → ℕ → Bool
    from j k = are_covered said S j (chain (drop k (shapes_in items)) (end_of e))

    at_element : from (i - place) i ≡ (is_covered said (element_of (i - place) S) (shape_of x.now) && from (i + 1 - place) (i + 1))
    at_element =
        let k : i - place + 1 ≡ i + 1 - place = omega (arith, before) in
        elements_at said S (shapes_in items) (end_of e) i (i - place) (shape_of x.now) (below_mapped items i h) (at_mapped items i x h at)
        ∙ ap (λ j. is_covered said (element_of (i - place) S) (shape_of x.now) && from j (i + 1)) k

    pub element_missed : (o p : Bool) → from (i - place) i ≡ begun → o ≡ is_covered said (element_of (i - place) S) (shape_of x.now) → o ≡ false → false ≡ (p && begun)
    element_missed o p w c f =
        let none : false ≡ begun = (λ j. ((sym f ∙ c) j) && from (i + 1 - place) (i + 1)) ∙ (sym at_element ∙ w) in
        no_second p ∙ ap (λ b. p && b) none

    pub element_met : (o : Bool) → from (i - place) i ≡ begun → o ≡ is_covered said (element_of (i - place) S) (shape_of x.now) → o ≡ true → from (i + 1 - place) (i + 1) ≡ begun
    element_met o w c t = (λ j. ((sym t ∙ c) j) && from (i + 1 - place) (i + 1)) ∙ (sym at_element ∙ w)

module _ (said : List Exp) (S : Exp → Bool) (items : List (Bor Shape)) (e : End) (place : ℕ) where
  abbrev all : Bool
  all = are_covered said S 0 (chain (drop place (shapes_in items)) (end_of e))

  pub list_unended : (p : Bool) → false ≡ is_nil_shape (end_of e) → false ≡ (p && all)
  list_unended p f = no_second p ∙ ap (λ b. p && b) (sym (unended said S (drop place (shapes_in items)) (end_of e) 0 (end_has_no_cons e) (sym f)))

  pub list_unstated : (n : ℕ) (p : Bool) → n ≡ length items → false ≡ has_length said S (n - place) → false ≡ (has_length said S (length items - place) && all)
  list_unstated n p l f = (λ j. f j && all) ∙ ap (λ k. has_length said S (k - place) && all) l

  pub list_met : (n i : ℕ) → n ≡ length items → length items ≤ i → true ≡ is_nil_shape (end_of e) → true ≡ has_length said S (n - place)
      → are_covered said S (i - place) (chain (drop i (shapes_in items)) (end_of e)) ≡ all → true ≡ (has_length said S (length items - place) && all)
  list_met n i l h t g w =
      let none : drop i (shapes_in items) ≡ [] = drop_all i (shapes_in items) (omega (arith, h, length-map items (λ (y : Bor Shape). shape_of y.now))) in
      let done : true ≡ all = sym (ap (λ us. are_covered said S (i - place) (chain us (end_of e))) none ∙ nil_ended said S (end_of e) (i - place) (sym t)) ∙ w in
      (λ j. g j && done j) ∙ ap (λ k. has_length said S (k - place) && all) l

pub one_behind_less : (said : List Exp) (S : Exp → Bool) (ss : List ShapeSeen) (e : ShapeSeen) (n : ℕ) (b : Bool) → 0 < n → b ≡ is_covered said (behind n S) (chain (drop n ss) e) → b ≡ is_covered said (cdr_of (behind (n - 1) S)) (chain (drop (n - 1 + 1) ss) e)
one_behind_less said S ss e n b h w =
    let k : n ≡ suc (n - 1) = omega (arith, h) in
    let m : n ≡ n - 1 + 1 = omega (arith, h) in
    w ∙ ((λ j. is_covered said (behind (k j) S) (chain (drop n ss) e)) ∙ ap (λ l. is_covered said (behind (suc (n - 1)) S) (chain (drop l ss) e)) m)

pub choice_by_cases : (said : List Exp) (S : Exp → Bool) (e : End) (i : ℕ) (a b : Bor Shape) (o q : Bool) → e ≡ ended.Choice i a b → o ≡ (is_covered said S (shape_of a.now) || is_covered said S (shape_of b.now)) → o ≡ false
    → q ≡ list_any (by_cases (is_either_with said S (shape_of a.now) (shape_of b.now))) said → q ≡ is_covered said S (end_of e)
choice_by_cases said S e i a b o q is f t g =
    g ∙ ((λ j. (sym t ∙ f) j || list_any (by_cases (is_either_with said S (shape_of a.now) (shape_of b.now))) said) ∙ ap (λ x. is_covered said S (end_of x)) (sym is))
