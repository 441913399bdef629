-- The meaning of a shape's form, a part at a time.
use Rattle.std.proofs.Common.{◌≡◌, ◌∙◌, ap, sym, refl, subst, ℕ, ◌+◌, ◌-◌, ◌<◌, ◌≤◌, Bool, true, false, cond, List, [], ◌∷◌, reverse, take, length, get_or, Option, Some, None, arith}
use Rattle.std.specs.List.{list_all}
use Rattle.std.specs.Option.{option_and_then}
use Rattle.std.proofs.lemmas.List.{length-reverse, length-take-le, take-take, get_or-take}
use Rattle.gl_logic.specs.Object.{Object, Int, Character, Symbol, Text, Cons, nil}
use Rattle.gl_logic.specs.Lists.{conses, IsAtom}
use Rattle.shape_spec.specs.ShapeSeen.{ShapeSeen, Pair}
use Rattle.shape_spec.specs.Indices.{indices_in}
use Rattle.shape_spec.specs.Heads.{head_of, is_plain}
use Rattle.gl_logic.specs.Wording.{both, elements}
use Rattle.shape_spec.specs.ShapeMeant.{index_meant, atom_meant, shape_meant, choice_meant, test_meant, choice_of, headed, comma_of, call_of, boolean_call, integer_call}
use Rattle.shape_spec.specs.Gives.{taken, before_meant}
use Rattle.gl_logic.proofs.ProperLists.{conses-last, elements_conses}
use Rattle.shape_spec.proofs.Fits.{IsFit, taken_not, taken_none, pair_first, pair_second, some_same, and_first, and_second}

-- ---- what a cons is not
pub index_cons : (es : List Object) (t : Object) → 0 < length es → index_meant (conses es t) ≡ None
index_cons [] t h = absurd (omega (arith, h))
index_cons (x ∷ []) t h = refl
index_cons (x ∷ y ∷ es) t h = index_cons (y ∷ es) (Cons x t) (omega arith)

-- ---- calls behind a comma
many_call : (names : List (List ℕ)) (ys : List Object) → (length ys ≡ 1 → ⊥) → comma_of names (Some ys) ≡ None
many_call names [] h = refl
many_call names (x ∷ []) h = absurd (h refl)
many_call names (x ∷ y ∷ ys) h = refl

pub no_comma : (names : List (List ℕ)) (es : List Object) → (length es ≡ 1 → ⊥) → comma_of names (Some (reverse es)) ≡ None
no_comma names es h = many_call names (reverse es) (λ e. h (sym (length-reverse es) ∙ e))

other_call : (names : List (List ℕ)) (ys : List Object) → (length ys ≡ 2 → ⊥) → (length ys ≡ 4 → ⊥) → call_of names ys ≡ None
other_call names [] h k = refl
other_call names (f ∷ []) h k = refl
other_call names (f ∷ i ∷ []) h k = absurd (h refl)
other_call names (f ∷ a ∷ b ∷ []) h k = refl
other_call names (f ∷ a ∷ b ∷ n ∷ []) h k = absurd (k refl)
other_call names (f ∷ a ∷ b ∷ n ∷ m ∷ ys) h k = refl

pub no_call : (names : List (List ℕ)) (es : List Object) → (length es ≡ 2 → ⊥) → (length es ≡ 4 → ⊥) → call_of names (reverse es) ≡ None
no_call names es h k = other_call names (reverse es) (λ e. h (sym (length-reverse es) ∙ e)) (λ e. k (sym (length-reverse es) ∙ e))

pub call_two : (names : List (List ℕ)) (es : List Object) (f i : Object) → length es ≡ 2 → f ≡ get_or es 1 f → i ≡ get_or es 0 i → call_of names (reverse es) ≡ boolean_call names f i
call_two names [] f i h a b = absurd (omega (arith, h))
call_two names (x ∷ []) f i h a b = absurd (omega (arith, h))
call_two names (x ∷ y ∷ []) f i h a b = λ k. boolean_call names (sym a k) (sym b k)
call_two names (x ∷ y ∷ z ∷ es) f i h a b = absurd (omega (arith, h))

pub call_four : (names : List (List ℕ)) (es : List Object) (f s b n : Object) → length es ≡ 4 → f ≡ get_or es 3 f → s ≡ get_or es 2 s → b ≡ get_or es 1 b → n ≡ get_or es 0 n
    → call_of names (reverse es) ≡ integer_call names f s b n
call_four names [] f s b n h p q r t = absurd (omega (arith, h))
call_four names (w ∷ []) f s b n h p q r t = absurd (omega (arith, h))
call_four names (w ∷ x ∷ []) f s b n h p q r t = absurd (omega (arith, h))
call_four names (w ∷ x ∷ y ∷ []) f s b n h p q r t = absurd (omega (arith, h))
call_four names (w ∷ x ∷ y ∷ z ∷ []) f s b n h p q r t = λ k. integer_call names (sym p k) (sym q k) (sym r k) (sym t k)
call_four names (w ∷ x ∷ y ∷ z ∷ v ∷ es) f s b n h p q r t = absurd (omega (arith, h))

one_comma : (names : List (List ℕ)) (es : List Object) (call : Object) → length es ≡ 1 → call ≡ get_or es 0 call → comma_of names (Some (reverse es)) ≡ option_and_then (call_of names) (elements call)
one_comma names [] call h a = absurd (omega (arith, h))
one_comma names (x ∷ []) call h a = ap (λ (y : Object). option_and_then (call_of names) (elements y)) (sym a)
one_comma names (x ∷ y ∷ es) call h a = absurd (omega (arith, h))

-- what stands behind the mark of comma, where that is a list of one
pub comma_at : (names : List (List ℕ)) (es : List Object) (t call : Object) → t ≡ nil → length es ≡ 1 → call ≡ get_or es 0 call → comma_of names (elements (conses es t)) ≡ option_and_then (call_of names) (elements call)
comma_at names es t call e h a = ap (comma_of names) (elements_conses es t e) ∙ one_comma names es call h a

-- the first two elements of a list
pub choice_parts : (es : List Object) (t x test : Object) → 2 ≤ length es → test ≡ get_or es (length es - 1) test → x ≡ get_or es (length es - 2) x → conses es t ≡ Cons test (Cons x (conses (take (length es - 2) es) t))
choice_parts es t x test some at at2 =
    let n : length (take (length es - 1) es) ≡ length es - 1 = length-take-le (length es - 1) es (omega arith) in
    let k : length (take (length es - 1) es) - 1 ≡ length es - 2 = omega (arith, n) in
    let fewer : take (length (take (length es - 1) es) - 1) (take (length es - 1) es) ≡ take (length es - 2) es = ap (λ (m : ℕ). take m (take (length es - 1) es)) k ∙ take-take (length es - 2) (length es - 1) es (omega arith) in
    let there : x ≡ get_or (take (length es - 1) es) (length (take (length es - 1) es) - 1) x =
    at2 ∙ (sym (get_or-take (length es - 1) es (length es - 2) x (omega (arith, some))) ∙ ap (λ (m : ℕ). get_or (take (length es - 1) es) m x) (sym k)) in
    conses-last es t test (omega (arith, some)) at
    ∙ ap (Cons test) (conses-last (take (length es - 1) es) t x (omega (arith, n, some)) there ∙ ap (λ (ys : List Object). Cons x (conses ys t)) fewer)

module _ (names : List (List ℕ)) (quasi : Bool) where
  pub atom_is : (t : Object) → IsAtom t → shape_meant names quasi t ≡ atom_meant t
  atom_is (Int z) h = refl
  atom_is (Character n) h = refl
  atom_is (Symbol n) h = refl
  atom_is (Text n) h = refl
  atom_is (Cons a d) h = absurd h

  -- a head that is not plain
  pub headed_at : (es : List Object) (t x : Object) → 0 < length es → x ≡ get_or es (length es - 1) x → is_plain (head_of names x) ≡ false
      → shape_meant names quasi (conses es t) ≡ headed names quasi (head_of names x) (conses (take (length es - 1) es) t) (choice_meant names quasi (conses (take (length es - 1) es) t))
  headed_at es t x some at h =
      let d = conses (take (length es - 1) es) t in
      ap (shape_meant names quasi) (conses-last es t x some at)
      ∙ ap (λ b. cond b (both Pair (shape_meant names quasi x) (shape_meant names quasi d)) (headed names quasi (head_of names x) d (choice_meant names quasi d))) h

  -- ---- plain elements
  then_some : (o : Option ShapeSeen) → o ≡ option_and_then (λ s. Some s) o
  then_some None = refl
  then_some (Some s) = refl

  pair_then : (xs : List Object) (p q : Option ShapeSeen) → option_and_then (before_meant names quasi xs) (both Pair p q) ≡ option_and_then (λ s. option_and_then (λ a. before_meant names quasi xs (Pair a s)) p) q
  pair_then xs None None = refl
  pair_then xs None (Some s) = refl
  pair_then xs (Some a) None = refl
  pair_then xs (Some a) (Some s) = refl

  pub plain_meant : (xs : List Object) (t : Object) → list_all (λ x. is_plain (head_of names x)) xs ≡ true → shape_meant names quasi (conses xs t) ≡ option_and_then (before_meant names quasi xs) (shape_meant names quasi t)
  plain_meant [] t h = then_some (shape_meant names quasi t)
  plain_meant (x ∷ xs) t h =
      let first : is_plain (head_of names x) ≡ true = and_first (is_plain (head_of names x)) (list_all (λ y. is_plain (head_of names y)) xs) h in
      let rest : list_all (λ y. is_plain (head_of names y)) xs ≡ true = and_second (is_plain (head_of names x)) (list_all (λ y. is_plain (head_of names y)) xs) h in
      plain_meant xs (Cons x t) rest
      ∙ (ap (λ b. option_and_then (before_meant names quasi xs) (cond b (both Pair (shape_meant names quasi x) (shape_meant names quasi t)) (headed names quasi (head_of names x) t (choice_meant names quasi t)))) first
      ∙ pair_then xs (shape_meant names quasi x) (shape_meant names quasi t))

  -- ---- in front of a shape
  with_first : (left : ℕ) (xs : List Object) (s : ShapeSeen) (o : Option ShapeSeen) → ((a : ShapeSeen) → taken left (before_meant names quasi xs (Pair a s)) ≡ None)
      → taken left (option_and_then (λ a. before_meant names quasi xs (Pair a s)) o) ≡ None
  with_first left xs s None h = refl
  with_first left xs s (Some a) h = h a

  pub unfit_before : (left : ℕ) (xs : List Object) (s : ShapeSeen) → (IsFit left s → ⊥) → taken left (before_meant names quasi xs s) ≡ None
  unfit_before left [] s h = taken_not left (Some s) (λ t e f. h (subst (IsFit left) (sym (some_same s t e)) f))
  unfit_before left (x ∷ xs) s h = with_first left xs s (shape_meant names quasi x) (λ a. unfit_before left xs (Pair a s) (λ f. h (pair_second left a s f)))

  -- where what stands behind doesn't fit, the whole doesn't
  pub none_before : (left : ℕ) (xs : List Object) (o : Option ShapeSeen) → taken left o ≡ None → taken left (option_and_then (before_meant names quasi xs) o) ≡ None
  none_before left xs None h = refl
  none_before left xs (Some s) h = unfit_before left xs s (taken_none left (Some s) h s refl)

  -- one more element in front, or none where it doesn't fit
  pub before_more : (x : Object) (xs : List Object) (s acc : ShapeSeen) → shape_meant names quasi x ≡ Some s → before_meant names quasi (x ∷ xs) acc ≡ before_meant names quasi xs (Pair s acc)
  before_more x xs s acc e = ap (option_and_then (λ a. before_meant names quasi xs (Pair a acc))) e

  first_unfit : (whole left : ℕ) (xs : List Object) (acc : ShapeSeen) → left + length (indices_in acc) ≡ whole → (o : Option ShapeSeen) → ((s : ShapeSeen) → o ≡ Some s → IsFit left s → ⊥)
      → taken whole (option_and_then (λ a. before_meant names quasi xs (Pair a acc)) o) ≡ None
  first_unfit whole left xs acc e None h = refl
  first_unfit whole left xs acc e (Some s) h = unfit_before whole xs (Pair s acc) (λ f. h s refl (pair_first whole left s acc e f))

  pub before_none : (whole left : ℕ) (x : Object) (xs : List Object) (acc : ShapeSeen) → left + length (indices_in acc) ≡ whole → taken left (shape_meant names quasi x) ≡ None
      → taken whole (before_meant names quasi (x ∷ xs) acc) ≡ None
  before_none whole left x xs acc e h = first_unfit whole left xs acc e (shape_meant names quasi x) (taken_none left (shape_meant names quasi x) h)

  -- ---- choices
  pub choice_at : (es : List Object) (t x test : Object) → 2 ≤ length es → test ≡ get_or es (length es - 1) test → x ≡ get_or es (length es - 2) x
      → choice_meant names quasi (conses es t) ≡ choice_of (test_meant names test) (shape_meant names quasi x) (shape_meant names quasi (conses (take (length es - 2) es) t))
  choice_at es t x test some at at2 = ap (choice_meant names quasi) (choice_parts es t x test some at at2)

  pub no_choice : (es : List Object) (t : Object) → length es < 2 → IsAtom t → choice_meant names quasi (conses es t) ≡ None
  no_choice [] (Int z) h a = refl
  no_choice [] (Character z) h a = refl
  no_choice [] (Symbol z) h a = refl
  no_choice [] (Text z) h a = refl
  no_choice [] (Cons p q) h a = absurd a
  no_choice (x ∷ []) (Int z) h a = refl
  no_choice (x ∷ []) (Character z) h a = refl
  no_choice (x ∷ []) (Symbol z) h a = refl
  no_choice (x ∷ []) (Text z) h a = refl
  no_choice (x ∷ []) (Cons p q) h a = absurd a
  no_choice (x ∷ y ∷ es) t h a = absurd (omega (arith, h))
