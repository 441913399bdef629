-- When a shape fits into the indices that are left, and what the parts of one have from the whole.
use Rattle.std.proofs.Common.{◌≡◌, ◌∙◌, ap, sym, refl, subst, ℕ, suc, ◌+◌, ◌-◌, ◌<◌, ◌≤◌, Bool, true, false, cond, ◌&&◌, leb, ltb, List, [], ◌∷◌, ◌++◌, length, Option, Some, None, arith, ◌⊎◌, inl, inr}
use Rattle.std.specs.Prelude.{Result, Err}
use Rattle.std.specs.Option.{option_map}
use Rattle.std.proofs.lemmas.List.{length-append}
use Rattle.std.proofs.lemmas.List.Folds.{list_all-append}
use Rattle.gl_logic.specs.Object.{Object}
use Rattle.shape_spec.specs.ShapeSeen.{ShapeSeen, Integer, Choice, Constant, Pair}
use Rattle.shape_spec.specs.Indices.{indices_in}
use Rattle.shape_spec.specs.ShapeMeant.{index_meant, choice_of, stepped}
use Rattle.shape_spec.specs.BindingsMeant.{is_shape, are_below}
use Rattle.gl_logic.specs.Wording.{both, all_meant}
use Rattle.shape_spec.specs.Gives.{Gives, Refuses, fits, taken, small, small_index, all_small}
use Rattle.shape_spec.specs.declared.fault.BindFault.{BindFault}
use Rattle.shape_spec.specs.declared.fault.BindFault.TheVariants as fault

-- ---- tests
pub bool_cases : (b : Bool) → (b ≡ true) ⊎ (b ≡ false)
bool_cases true = inl refl
bool_cases false = inr refl

pub not_true : (b : Bool) → (b ≡ true → ⊥) → b ≡ false
not_true true h = absurd (h refl)
not_true false h = refl

pub true_false : {P : Type 0} (b : Bool) → b ≡ true → b ≡ false → P
true_false true h k = absurd cc
true_false false h k = absurd cc

pub and_first : (a b : Bool) → (a && b) ≡ true → a ≡ true
and_first true b h = refl
and_first false b h = h

pub and_second : (a b : Bool) → (a && b) ≡ true → b ≡ true
and_second true b h = h
and_second false b h = absurd cc

pub and_both : (a b : Bool) → a ≡ true → b ≡ true → (a && b) ≡ true
and_both true b h k = k
and_both false b h k = h

pub leb_le : (a b : ℕ) → leb a b ≡ true → a ≤ b
leb_le a b h = grind (arith, h)

pub le_leb : (a b : ℕ) → a ≤ b → leb a b ≡ true
le_leb a b h = grind (arith, h)

-- ---- answers
pub gives_at : {A B : Type 0} (view : A → B) (r : Result A BindFault) {o p : Option B} → o ≡ p → Gives view r o → Gives view r p
gives_at view r e h = subst (Gives view r) e h

pub refuses_none : {A B : Type 0} (e : BindFault) (o : Option A) (p : Option B) → (o ≡ None → p ≡ None) → Refuses e o → Refuses e p
refuses_none fault.Bad o p f h = f h
refuses_none fault.Memory o p f h = tt

-- the exit of a `?`
pub gives_err : {A B : Type 0} (view : A → B) (r : Result A BindFault) (e : BindFault) (p : Option B) → (y : BindFault) × (r ≡ Err y) × (y ≡ e) → Refuses e p → Gives view r p
gives_err view r e p q h = subst (λ (s : Result _ BindFault). Gives view s p) (sym q.1) (subst (λ (f : BindFault). Refuses f p) (sym q.2) h)

pub some_same : {A : Type 0} (x y : A) → Some x ≡ Some y → x ≡ y
some_same x y e = cc

-- ---- fitting
pub record IsFit (left : ℕ) (s : ShapeSeen) : Type 0 where
  pub shape : is_shape s ≡ true
  pub below : are_below (indices_in s) ≡ true
  pub few : length (indices_in s) ≤ left

pub fit_from : (left : ℕ) (s : ShapeSeen) → fits left s ≡ true → IsFit left s
fit_from left s h =
    let rest = and_second (is_shape s) (are_below (indices_in s) && leb (length (indices_in s)) left) h in
    record {
      shape = and_first (is_shape s) (are_below (indices_in s) && leb (length (indices_in s)) left) h;
      below = and_first (are_below (indices_in s)) (leb (length (indices_in s)) left) rest;
      few = leb_le (length (indices_in s)) left (and_second (are_below (indices_in s)) (leb (length (indices_in s)) left) rest);
    }

pub fit_to : (left : ℕ) (s : ShapeSeen) → IsFit left s → fits left s ≡ true
fit_to left s f =
    and_both (is_shape s) (are_below (indices_in s) && leb (length (indices_in s)) left) f.shape
    (and_both (are_below (indices_in s)) (leb (length (indices_in s)) left) f.below (le_leb (length (indices_in s)) left f.few))

-- what was taken, and from what
pub record IsTaken (left : ℕ) (o : Option ShapeSeen) (s : ShapeSeen) (less : ℕ) : Type 0 where
  pub is : o ≡ Some s
  pub fit : IsFit left s
  pub behind : less + length (indices_in s) ≡ left

abbrev some_pair : ShapeSeen → ℕ → Option (ShapeSeen × ℕ)
some_pair s n = Some (s, n)

taken_of : (left : ℕ) (t s : ShapeSeen) (less : ℕ) (b : Bool) → fits left t ≡ b → cond b (some_pair t (left - length (indices_in t))) None ≡ Some (s, less) → IsTaken left (Some t) s less
taken_of left t s less true f h =
    let p : (t, left - length (indices_in t)) ≡ (s, less) = some_same _ _ h in
    let e : t ≡ s = ap (λ (q : ShapeSeen × ℕ). q.0) p in
    let n : left - length (indices_in t) ≡ less = ap (λ (q : ShapeSeen × ℕ). q.1) p in
    let fit : IsFit left s = subst (IsFit left) e (fit_from left t f) in
    record { is = ap Some e; fit = fit; behind = omega (arith, n, fit.few, ap (λ (u : ShapeSeen). length (indices_in u)) e) }
taken_of left t s less false f h = absurd cc

pub taken_some : (left : ℕ) (o : Option ShapeSeen) (s : ShapeSeen) (less : ℕ) → taken left o ≡ Some (s, less) → IsTaken left o s less
taken_some left None s less h = absurd cc
taken_some left (Some t) s less h = taken_of left t s less (fits left t) refl h

taken_at : (left less : ℕ) (s : ShapeSeen) → IsFit left s → less + length (indices_in s) ≡ left → taken left (Some s) ≡ Some (s, less)
taken_at left less s f e =
    let n : left - length (indices_in s) ≡ less = omega (arith, e) in
    ap (λ b. cond b (some_pair s (left - length (indices_in s))) None) (fit_to left s f) ∙ ap (some_pair s) n

pub taken_is : (left less : ℕ) (o : Option ShapeSeen) (s : ShapeSeen) → o ≡ Some s → IsFit left s → less + length (indices_in s) ≡ left → taken left o ≡ Some (s, less)
taken_is left less o s is f e = ap (taken left) is ∙ taken_at left less s f e

pub taken_not : (left : ℕ) (o : Option ShapeSeen) → ((s : ShapeSeen) → o ≡ Some s → IsFit left s → ⊥) → taken left o ≡ None
taken_not left None h = refl
taken_not left (Some s) h = ap (λ b. cond b (some_pair s (left - length (indices_in s))) None) (not_true (fits left s) (λ t. h s refl (fit_from left s t)))

pub taken_none : (left : ℕ) (o : Option ShapeSeen) → taken left o ≡ None → (s : ShapeSeen) → o ≡ Some s → IsFit left s → ⊥
taken_none left o h s is f = let e = sym h ∙ taken_is left (left - length (indices_in s)) o s is f (omega (arith, f.few)) in absurd cc

-- ---- pairs
pub pair_fit : (left less : ℕ) (x y : ShapeSeen) → IsFit left y → less + length (indices_in y) ≡ left → IsFit less x → IsFit left (Pair x y)
pair_fit left less x y f e g = record {
  shape = and_both (is_shape x) (is_shape y) g.shape f.shape;
  below = list_all-append (λ i. ltb i 1000000) (indices_in x) (indices_in y) ∙ and_both (are_below (indices_in x)) (are_below (indices_in y)) g.below f.below;
  few = omega (arith, g.few, e, length-append (indices_in x) (indices_in y));
}

pub pair_second : (left : ℕ) (x y : ShapeSeen) → IsFit left (Pair x y) → IsFit left y
pair_second left x y f = record {
  shape = and_second (is_shape x) (is_shape y) f.shape;
  below = and_second (are_below (indices_in x)) (are_below (indices_in y)) (sym (list_all-append (λ i. ltb i 1000000) (indices_in x) (indices_in y)) ∙ f.below);
  few = omega (arith, f.few, length-append (indices_in x) (indices_in y));
}

pub pair_first : (left less : ℕ) (x y : ShapeSeen) → less + length (indices_in y) ≡ left → IsFit left (Pair x y) → IsFit less x
pair_first left less x y e f = record {
  shape = and_first (is_shape x) (is_shape y) f.shape;
  below = and_first (are_below (indices_in x)) (are_below (indices_in y)) (sym (list_all-append (λ i. ltb i 1000000) (indices_in x) (indices_in y)) ∙ f.below);
  few = omega (arith, e, f.few, length-append (indices_in x) (indices_in y));
}

-- ---- choices
pub record IsChoiceFit (left i : ℕ) (x y : ShapeSeen) : Type 0 where
  pub index : ltb i 1000000 ≡ true
  pub some : 0 < left
  pub second : IsFit (left - 1) y
  pub first : IsFit (left - 1 - length (indices_in y)) x

pub choice_fit : (left i : ℕ) (x y : ShapeSeen) → IsChoiceFit left i x y → IsFit left (Choice i x y)
choice_fit left i x y f = record {
  shape = and_both (is_shape x) (is_shape y) f.first.shape f.second.shape;
  below = and_both (ltb i 1000000) (are_below (indices_in x ++ indices_in y)) f.index
      (list_all-append (λ j. ltb j 1000000) (indices_in x) (indices_in y) ∙ and_both (are_below (indices_in x)) (are_below (indices_in y)) f.first.below f.second.below);
  few = omega (arith, f.some, f.second.few, f.first.few, length-append (indices_in x) (indices_in y));
}

pub choice_from : (left i : ℕ) (x y : ShapeSeen) → IsFit left (Choice i x y) → IsChoiceFit left i x y
choice_from left i x y f =
    let below = sym (list_all-append (λ j. ltb j 1000000) (indices_in x) (indices_in y)) ∙ and_second (ltb i 1000000) (are_below (indices_in x ++ indices_in y)) f.below in
    record {
      index = and_first (ltb i 1000000) (are_below (indices_in x ++ indices_in y)) f.below;
      some = omega (arith, f.few);
      second = record {
        shape = and_second (is_shape x) (is_shape y) f.shape;
        below = and_second (are_below (indices_in x)) (are_below (indices_in y)) below;
        few = omega (arith, f.few, length-append (indices_in x) (indices_in y));
      };
      first = record {
        shape = and_first (is_shape x) (is_shape y) f.shape;
        below = and_first (are_below (indices_in x)) (are_below (indices_in y)) below;
        few = omega (arith, f.few, length-append (indices_in x) (indices_in y));
      };
    }

abbrev one_number : ℕ → Option ℕ
one_number i = Some i

choice_of_none : (left : ℕ) (t : Option ℕ) (p q : Option ShapeSeen) → ((i : ℕ) (x y : ShapeSeen) → t ≡ Some i → p ≡ Some x → q ≡ Some y → IsFit left (Choice i x y) → ⊥) → taken left (choice_of t p q) ≡ None
choice_of_none left None p q h = refl
choice_of_none left (Some i) None q h = refl
choice_of_none left (Some i) (Some x) None h = refl
choice_of_none left (Some i) (Some x) (Some y) h = taken_not left (Some (Choice i x y)) (λ s e f. h i x y refl refl refl (subst (IsFit left) (sym (some_same _ _ e)) f))

-- ---- small indices
small_from : (i j : ℕ) (b : Bool) → ltb i 1000000 ≡ b → cond b (one_number i) None ≡ Some j → (i ≡ j) × (ltb j 1000000 ≡ true)
small_from i j true h e = let same : i ≡ j = some_same _ _ e in (same, ap (λ (k : ℕ). ltb k 1000000) (sym same) ∙ h)
small_from i j false h e = absurd cc

pub small_some : (o : Option ℕ) (j : ℕ) → small o ≡ Some j → (o ≡ Some j) × (ltb j 1000000 ≡ true)
small_some None j h = absurd cc
small_some (Some i) j h = let r = small_from i j (ltb i 1000000) refl h in (ap Some r.0, r.1)

small_to : (i : ℕ) (b : Bool) → ltb i 1000000 ≡ b → cond b (one_number i) None ≡ None → b ≡ false
small_to i true h e = absurd cc
small_to i false h e = refl

pub small_none : (o : Option ℕ) → small o ≡ None → (i : ℕ) → o ≡ Some i → ltb i 1000000 ≡ true → ⊥
small_none None h i e t = absurd cc
small_none (Some j) h i e t =
    let same : j ≡ i = some_same _ _ e in
    true_false (ltb j 1000000) (ap (λ (k : ℕ). ltb k 1000000) same ∙ t) (small_to j (ltb j 1000000) refl h)

-- ---- a choice, a part at a time
module _ (left : ℕ) (t : Option ℕ) (p q : Option ShapeSeen) where
  pub choice_no_test : small t ≡ None → taken left (choice_of t p q) ≡ None
  choice_no_test h = choice_of_none left t p q (λ i x y a b c f. small_none t h i a (choice_from left i x y f).index)

  pub choice_no_index : left ≡ 0 → taken left (choice_of t p q) ≡ None
  choice_no_index h = choice_of_none left t p q (λ i x y a b c f. let some = (choice_from left i x y f).some in absurd (omega (arith, some, h)))

  pub choice_no_second : taken (left - 1) q ≡ None → taken left (choice_of t p q) ≡ None
  choice_no_second h = choice_of_none left t p q (λ i x y a b c f. taken_none (left - 1) q h y c (choice_from left i x y f).second)

  module _ (y : ShapeSeen) (less : ℕ) (second : taken (left - 1) q ≡ Some (y, less)) where
    behind : less ≡ left - 1 - length (indices_in y)
    behind = omega (arith, (taken_some (left - 1) q y less second).behind)

    pub choice_no_first : taken less p ≡ None → taken left (choice_of t p q) ≡ None
    choice_no_first h = choice_of_none left t p q (λ i x z a b c f.
        let same : y ≡ z = some_same _ _ (sym (taken_some (left - 1) q y less second).is ∙ c) in
        let count : left - 1 - length (indices_in z) ≡ less = ap (λ (s : ShapeSeen). left - 1 - length (indices_in s)) (sym same) ∙ sym behind in
        taken_none less p h x b (subst (λ (k : ℕ). IsFit k x) count (choice_from left i x z f).first))

    pub choice_taken : (i : ℕ) (x : ShapeSeen) (last : ℕ) → small t ≡ Some i → 0 < left → taken less p ≡ Some (x, last) → taken left (choice_of t p q) ≡ Some (Choice i x y, last)
    choice_taken i x last test some first =
        let index = small_some t i test in
        let snd = taken_some (left - 1) q y less second in
        let fst = taken_some less p x last first in
        taken_is left last (choice_of t p q) (Choice i x y) (λ k. choice_of (index.0 k) (fst.is k) (snd.is k))
        (choice_fit left i x y (record { index = index.1; some = some; second = snd.fit; first = subst (λ (k : ℕ). IsFit k x) behind fst.fit }))
        (omega (arith, some, snd.behind, fst.behind, length-append (indices_in x) (indices_in y)))

-- ---- integers, whose indices are looked at before the shape
abbrev pub all_smaller : Option (List ℕ) → Option (List ℕ)
all_smaller None = None
all_smaller (Some is) = all_small is

smaller_more : (i : ℕ) (b : Bool) → ltb i 1000000 ≡ b → (o : Option (List ℕ)) → both (λ j js. j ∷ js) (cond b (Some i) None) (all_smaller o) ≡ all_smaller (both (λ j js. j ∷ js) (Some i) o)
smaller_more i true h None = refl
smaller_more i true h (Some is) =
    elim (are_below is) as (λ q. both (λ j js. j ∷ js) (Some i) (cond q (Some is) None) ≡ cond (ltb i 1000000 && q) (Some (i ∷ is)) None) [
      | true ↦ ap (λ q. cond (q && true) (Some (i ∷ is)) None) (sym h)
      | false ↦ ap (λ q. cond (q && false) (Some (i ∷ is)) None) (sym h)
    ]
smaller_more i false h None = refl
smaller_more i false h (Some is) = ap (λ q. cond (q && are_below is) (Some (i ∷ is)) None) (sym h)

small_first : (o : Option ℕ) (p : Option (List ℕ)) → both (λ j js. j ∷ js) (small o) (all_smaller p) ≡ all_smaller (both (λ j js. j ∷ js) o p)
small_first None p = refl
small_first (Some i) p = smaller_more i (ltb i 1000000) refl p

pub small_all : (xs : List Object) → all_meant small_index xs ≡ all_smaller (all_meant index_meant xs)
small_all [] = refl
small_all (x ∷ xs) = ap (both (λ j js. j ∷ js) (small_index x)) (small_all xs) ∙ small_first (index_meant x) (all_meant index_meant xs)

pub integer_small : (left : ℕ) (o : Option (List ℕ)) → taken left (option_map Integer (all_smaller o)) ≡ taken left (option_map Integer o)
integer_small left None = refl
integer_small left (Some is) = elim (bool_cases (are_below is)) [
  | inl t ↦ ap (λ q. taken left (option_map Integer (cond q (Some is) None))) t
  | inr f ↦ ap (λ q. taken left (option_map Integer (cond q (Some is) None))) f ∙ sym (taken_not left (Some (Integer is)) (λ s e g.
      let same : Integer is ≡ s = some_same _ _ e in
      let b : are_below is ≡ true = ap (λ (u : ShapeSeen). are_below (indices_in u)) same ∙ g.below in
      true_false (are_below is) b f))
]

-- ---- numbers one step after the other
pub stepped_more : (start step m n : ℕ) → m ≡ n + 1 → stepped start step m ≡ start ∷ stepped (start + step) step n
stepped_more start step m n e = let s : m ≡ suc n = omega (arith, e) in ap (stepped start step) s

pub below_push : (xs : List ℕ) (x : ℕ) → are_below xs ≡ true → ltb x 1000000 ≡ true → are_below (xs ++ x ∷ []) ≡ true
below_push xs x h k = list_all-append (λ i. ltb i 1000000) xs (x ∷ []) ∙ and_both (are_below xs) (are_below (x ∷ [])) h (and_both (ltb x 1000000) true k refl)

below_not : (xs ys : List ℕ) (x : ℕ) → ltb x 1000000 ≡ false → are_below (xs ++ x ∷ ys) ≡ false
below_not xs ys x h = not_true (are_below (xs ++ x ∷ ys)) (λ t.
    let rest = and_second (are_below xs) (are_below (x ∷ ys)) (sym (list_all-append (λ i. ltb i 1000000) xs (x ∷ ys)) ∙ t) in
    true_false (ltb x 1000000) (and_first (ltb x 1000000) (are_below ys) rest) h)

pub all_small_some : (is : List ℕ) → are_below is ≡ true → all_small is ≡ Some is
all_small_some is h = ap (λ b. cond b (Some is) None) h

pub all_small_none : (xs ys : List ℕ) (x : ℕ) → small (Some x) ≡ None → all_small (xs ++ x ∷ ys) ≡ None
all_small_none xs ys x h = ap (λ b. cond b (Some (xs ++ x ∷ ys)) None) (below_not xs ys x (small_to x (ltb x 1000000) refl h))

-- a constant takes no index
abbrev unless_marked : Bool → Object → Option ShapeSeen
unless_marked b x = cond b None (Some (Constant x))

pub constant_taken : (left : ℕ) (b : Bool) (x : Object) (s : ShapeSeen) → unless_marked b x ≡ Some s → taken left (unless_marked b x) ≡ Some (s, left)
constant_taken left true x s h = absurd cc
constant_taken left false x s h =
    let same : Constant x ≡ s = some_same _ _ h in
    taken_is left left (Some (Constant x)) s (ap Some same) (subst (IsFit left) same (record { shape = refl; below = refl; few = omega arith })) (omega (arith, ap (λ (u : ShapeSeen). length (indices_in u)) same))
