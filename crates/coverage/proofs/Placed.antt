-- The places of terms in lists.
use Rattle.std.proofs.Common.{◌≡◌, ◌∙◌, ap, sym, refl, subst, ℕ, zero, suc, ◌+◌, ◌-◌, ◌<◌, Bool, true, false, cond, eqb, ltb, eq-eqb, List, Option, Some, None, pos, arith, inl, inr}
use Rattle.std.specs.Option.{option_map}
use Rattle.std.specs.Ordering.{int_eq}
use Rattle.std.proofs.lemmas.Bool.Decides.{Decides-int_eq}
use Rattle.gl_logic.specs.Object.{Int}
use Rattle.gl_logic.specs.Exp.{Exp, Var, Const, If, Prim, Call, Let, Last, More}
use Rattle.gl_logic.specs.PrimCode.{prim_number}
use Rattle.gl_logic.specs.declared.prim.Primitive.{Primitive}
use Rattle.gl_logic.specs.declared.prim.Primitive.TheVariants as prim
use Rattle.gl_logic.proofs.Optional.{none_some, some_same}
use Rattle.shape_spec.specs.ShapeSeen.{ShapeSeen}
use Rattle.coverage.specs.Forms.{is_int, is_literal, one, two, is_prim}
use Rattle.coverage.specs.Subjects.{is_variable, car_of, cdr_of, behind, len_of, nth_of, element_of}
use Rattle.coverage.specs.Covered.{is_covered}
use Rattle.coverage.specs.Parts.{Among}
use Rattle.coverage.specs.Places.{argument_in, one_behind, place_of, by_car, behind_index, by_nth, first_of_both, is_place, is_element}
use Rattle.coverage.proofs.Logic.{bool_cases, and_both, or_either}
use Rattle.coverage.proofs.Ranges.{prim_form, call_form, one_form, two_form, literal_form, int_form, variable_form}
use Rattle.coverage.proofs.Relevance.{Cone, Keeps, cone_itself, keeps_covered, same_truth}

-- ---- how many steps a term is away from its variable: all terms of a subject are equally many
abbrev index_of : Exp → ℕ
index_of (Const (Int (pos i))) = i
index_of t = 0

abbrev steps : Exp → ℕ
steps (Prim q (More u Last)) = suc (steps u)
steps (Call f (More u Last)) = suc (steps u)
steps (Call f (More k (More u Last))) = suc (index_of k + steps u)
steps t = 0

abbrev pub Weighs : (Exp → Bool) → ℕ → Type 0
Weighs S w = (t : Exp) → S t ≡ true → steps t ≡ w

pub weighs_variable : (v : ℕ) → Weighs (is_variable v) 0
weighs_variable v t h = ap steps (variable_form v t h)

module _ (S : Exp → Bool) (w : ℕ) (weighs : Weighs S w) where
  weighs_prim : (p : Primitive) → Weighs (is_prim p (one S)) (suc w)
  weighs_prim p t h =
      let f = prim_form p (one S) t h in
      let a = one_form S f.0 f.1.1 in
      ap steps (f.1.0 ∙ ap (Prim p) a.1.0) ∙ ap suc (weighs a.0 a.1.1)

  pub weighs_car : Weighs (car_of S) (suc w)
  weighs_car t h = weighs_prim prim.Car t h

  pub weighs_cdr : Weighs (cdr_of S) (suc w)
  weighs_cdr t h = weighs_prim prim.Cdr t h

  pub weighs_len : Weighs (len_of S) (suc w)
  weighs_len t h =
      let f = call_form 25 (one S) t h in
      let a = one_form S f.0 f.1.1 in
      ap steps (f.1.0 ∙ ap (Call 25) a.1.0) ∙ ap suc (weighs a.0 a.1.1)

  index_is : (i : ℕ) (k : Exp) → is_literal (is_int (int_eq (pos i))) k ≡ true → k ≡ Const (Int (pos i))
  index_is i k h =
      let l = literal_form (is_int (int_eq (pos i))) k h in
      let z = int_form (int_eq (pos i)) l.0 l.1.1 in
      l.1.0 ∙ ap Const (z.1.0 ∙ ap Int (sym ((Decides-int_eq (pos i) z.0).0 z.1.1)))

  weighs_nth : (i : ℕ) → Weighs (nth_of i S) (suc (i + w))
  weighs_nth i t h =
      let f = call_form 28 (two (is_literal (is_int (int_eq (pos i)))) S) t h in
      let a = two_form (is_literal (is_int (int_eq (pos i)))) S f.0 f.1.1 in
      let e : t ≡ Call 28 (More (Const (Int (pos i))) (More a.1.0 Last)) = f.1.0 ∙ (ap (Call 28) a.1.1.0 ∙ ap (λ k. Call 28 (More k (More a.1.0 Last))) (index_is i a.0 a.1.1.1)) in
      ap steps e ∙ ap (λ n. suc (i + n)) (weighs a.1.0 a.1.1.2)

pub weighs_behind : (S : Exp → Bool) (w : ℕ) → Weighs S w → (i : ℕ) → Weighs (behind i S) (i + w)
weighs_behind S w h zero t k = h t k ∙ omega arith
weighs_behind S w h (suc i) t k = weighs_cdr (behind i S) (i + w) (weighs_behind S w h i) t k ∙ omega arith

pub weighs_element : (S : Exp → Bool) (w : ℕ) → Weighs S w → (i : ℕ) → Weighs (element_of i S) (suc (i + w))
weighs_element S w h i t k = elim (or_either (car_of (behind i S) t) (nth_of i S t) k) [
  | inl a ↦ weighs_car (behind i S) (i + w) (weighs_behind S w h i) t a
  | inr b ↦ weighs_nth S w h i t b
]

-- ---- places
argument_is : (p : Primitive) (u : Exp) → argument_in p (Prim p (More u Last)) ≡ Some u
argument_is p u = ap (λ b. cond b (Some u) None) (eq-eqb (prim_number p) (prim_number p) refl)

module _ (S : Exp → Bool) (w : ℕ) (weighs : Weighs S w) where
  not_itself : (t : Exp) (i : ℕ) → steps t ≡ suc i + w → S t ≡ false
  not_itself t i h = elim (bool_cases (S t)) [
    | inl e ↦ absurd (omega (arith, h, weighs t e))
    | inr e ↦ e
  ]

  pub place_found : (n i : ℕ) (t : Exp) → i < n → behind i S t ≡ true → place_of n S t ≡ Some i
  place_found zero i t l h = absurd (omega (arith, l))
  place_found (suc n) zero t l h = ap (λ b. cond b (Some 0) (one_behind (place_of n S) (argument_in prim.Cdr t))) h
  place_found (suc n) (suc i) t l h =
      let f = prim_form prim.Cdr (one (behind i S)) t h in
      let a = one_form (behind i S) f.0 f.1.1 in
      let e : t ≡ Prim prim.Cdr (More a.0 Last) = f.1.0 ∙ ap (Prim prim.Cdr) a.1.0 in
      let no : S t ≡ false = not_itself t i (weighs_behind S w weighs (suc i) t h) in
      ap (λ b. cond b (Some 0) (one_behind (place_of n S) (argument_in prim.Cdr t))) no
      ∙ (ap (λ u. one_behind (place_of n S) (argument_in prim.Cdr u)) e
      ∙ (ap (one_behind (place_of n S)) (argument_is prim.Cdr a.0)
      ∙ ap (option_map suc) (place_found n i a.0 (omega (arith, l)) a.1.1)))

  pub car_found : (n i : ℕ) (t : Exp) → i < n → car_of (behind i S) t ≡ true → is_element n S i t ≡ true
  car_found n i t l h =
      let f = prim_form prim.Car (one (behind i S)) t h in
      let a = one_form (behind i S) f.0 f.1.1 in
      let e : t ≡ Prim prim.Car (More a.0 Last) = f.1.0 ∙ ap (Prim prim.Car) a.1.0 in
      let p : by_car n S (argument_in prim.Car t) ≡ Some i = ap (λ u. by_car n S (argument_in prim.Car u)) e ∙ (ap (by_car n S) (argument_is prim.Car a.0) ∙ place_found n i a.0 l a.1.1) in
      ap (λ o. is_place i (first_of_both o (by_nth n S t))) p ∙ eq-eqb i i refl

  nth_found : (n i m : ℕ) (t : Exp) → i + m < n → nth_of m (behind i S) t ≡ true → is_element n S (i + m) t ≡ true
  nth_found n i m t l h =
      let f = call_form 28 (two (is_literal (is_int (int_eq (pos m)))) (behind i S)) t h in
      let a = two_form (is_literal (is_int (int_eq (pos m)))) (behind i S) f.0 f.1.1 in
      let e : t ≡ Call 28 (More (Const (Int (pos m))) (More a.1.0 Last)) = f.1.0 ∙ (ap (Call 28) a.1.1.0 ∙ ap (λ k. Call 28 (More k (More a.1.0 Last))) (index_is S w weighs m a.0 a.1.1.1)) in
      let p = place_found (n - m) i a.1.0 (omega (arith, l)) a.1.1.2 in
      let b : ltb m n ≡ true = grind (arith, l) in
      ap (is_element n S (i + m)) e
      ∙ ((λ j. is_place (i + m) (behind_index n S (cond (b j) (Some m) None) a.1.0)) ∙ ((λ j. is_place (i + m) (option_map (λ i. i + m) (p j))) ∙ eq-eqb (i + m) (i + m) refl))

  behind_behind : (m i : ℕ) → behind (i + m) S ≡ behind m (behind i S)
  behind_behind zero i = ap (λ k. behind k S) (omega arith)
  behind_behind (suc m) i = let e : i + suc m ≡ suc (i + m) = omega arith in ap (λ k. behind k S) e ∙ ap cdr_of (behind_behind m i)

  pub element_found : (n i m : ℕ) (t : Exp) → i + m < n → element_of m (behind i S) t ≡ true → is_element n S (i + m) t ≡ true
  element_found n i m t l h = elim (or_either (car_of (behind m (behind i S)) t) (nth_of m (behind i S) t) h) [
    | inl a ↦ car_found n (i + m) t l (ap (λ (T : Exp → Bool). car_of T t) (behind_behind m i) ∙ a)
    | inr b ↦ nth_found n i m t l b
  ]

-- a place that is found is one
mapped : (f : ℕ → ℕ) (o : Option ℕ) (i : ℕ) → option_map f o ≡ Some i → (j : ℕ) × ((o ≡ Some j) × (f j ≡ i))
mapped f None i h = none_some i h
mapped f (Some j) i h = (j, (refl, some_same (f j) i h))

module _ (S : Exp → Bool) (n : ℕ) (sound : (u : Exp) (j : ℕ) → place_of n S u ≡ Some j → behind j S u ≡ true) where
  by_argument : (q : Primitive) (a : Exp) (i : ℕ) (b : Bool) → eqb (prim_number q) (prim_number prim.Cdr) ≡ b → one_behind (place_of n S) (cond b (Some a) None) ≡ Some i → behind i S (Prim q (More a Last)) ≡ true
  by_argument q a i true e h =
      let m = mapped suc (place_of n S a) i h in
      subst (λ k. behind k S (Prim q (More a Last)) ≡ true) m.1.1 (and_both e (sound a m.0 m.1.0))
  by_argument q a i false e h = none_some i h

  behind_sound : (t : Exp) (i : ℕ) → one_behind (place_of n S) (argument_in prim.Cdr t) ≡ Some i → behind i S t ≡ true
  behind_sound (Prim q (More a Last)) i h = by_argument q a i (eqb (prim_number q) (prim_number prim.Cdr)) refl h
  behind_sound (Prim q Last) i h = none_some i h
  behind_sound (Prim q (More a (More b ts))) i h = none_some i h
  behind_sound (Var v) i h = none_some i h
  behind_sound (Const x) i h = none_some i h
  behind_sound (If a b d) i h = none_some i h
  behind_sound (Call f ts) i h = none_some i h
  behind_sound (Let vs ts b) i h = none_some i h

pub place_sound : (S : Exp → Bool) (n : ℕ) (t : Exp) (i : ℕ) → place_of n S t ≡ Some i → behind i S t ≡ true
place_sound S zero t i h = none_some i h
place_sound S (suc n) t i h = elim (bool_cases (S t)) [
  | inl e ↦ let z : 0 ≡ i = some_same 0 i (sym (ap (λ b. cond b (Some 0) (one_behind (place_of n S) (argument_in prim.Cdr t))) e) ∙ h) in subst (λ k. behind k S t ≡ true) z e
  | inr e ↦ behind_sound S n (place_sound S n) t i (sym (ap (λ b. cond b (Some 0) (one_behind (place_of n S) (argument_in prim.Cdr t))) e) ∙ h)
]

-- ---- what is said of an element stands in the conjuncts in which its terms stand
module _ (S : Exp → Bool) (w : ℕ) (weighs : Weighs S w) (n : ℕ) (said part : List Exp) (j : ℕ) (keeps : Keeps (is_element n S j) said part) (of_said : (t : Exp) → Among t part → Among t said) where
  pub same_by_element : (i m : ℕ) (s : ShapeSeen) → i + m ≡ j → j < n → is_covered part (element_of m (behind i S)) s ≡ is_covered said (element_of m (behind i S)) s
  same_by_element i m s e l =
      let c : Cone (is_element n S j) (element_of m (behind i S)) = λ u h. cone_itself (is_element n S j) u (subst (λ k. is_element n S k u ≡ true) e (element_found S w weighs n i m u (omega (arith, e, l)) h)) in
      same_truth _ _ (keeps_covered (is_element n S j) s part said (element_of m (behind i S)) (λ t a p. of_said t a) c) (keeps_covered (is_element n S j) s said part (element_of m (behind i S)) keeps c)

  pub same_by_car : (s : ShapeSeen) → j < n → is_covered part (car_of (behind j S)) s ≡ is_covered said (car_of (behind j S)) s
  same_by_car s l =
      let c : Cone (is_element n S j) (car_of (behind j S)) = λ u h. cone_itself (is_element n S j) u (car_found S w weighs n j u l h) in
      same_truth _ _ (keeps_covered (is_element n S j) s part said (car_of (behind j S)) (λ t a p. of_said t a) c) (keeps_covered (is_element n S j) s said part (car_of (behind j S)) keeps c)
