-- Where nothing is uncovered, each environment that meets the hypothesis is met by an input.
use Rattle.std.proofs.Common.{◌≡◌, ◌∙◌, ap, sym, refl, subst, ℕ, zero, suc, ◌-◌, ◌^◌, ◌<◌, Bool, true, false, not, ◌&&◌, ◌||◌, cond, eqb, List, [], ◌∷◌, ◌++◌, map, length, None, Some, ℤ, pos, neg_ℤ, int_le, int_lt, arith, inl, inr}
use Rattle.std.specs.List.{list_any}
use Rattle.std.specs.Ordering.{int_eq}
use Rattle.std.proofs.lemmas.Bool.{or_left, or_right}
use Rattle.std.proofs.lemmas.Bool.Decides.{Decides-int_eq}
use Rattle.gl_logic.specs.Object.{Object, Int, Character, Symbol, Text, Cons, nil, car, cdr}
use Rattle.gl_logic.specs.ObjectEq.{object_eq, is_nil}
use Rattle.gl_logic.specs.Bytes.{is_signed_byte}
use Rattle.gl_logic.specs.PrimValue.{is_cons}
use Rattle.gl_logic.specs.Definition.{Definition}
use Rattle.gl_logic.specs.Environment.{look}
use Rattle.gl_logic.specs.Exp.{Exp, Var, Const, If, Prim, Call, Let}
use Rattle.gl_logic.specs.IsGround.{AreGround}
use Rattle.gl_logic.specs.RecursiveCalls.{exp_eq}
use Rattle.gl_logic.specs.Walk.{Walk, walk, opened, then}
use Rattle.gl_logic.specs.FreeVariables.{is_free_in, AgreeOn}
use Rattle.gl_logic.proofs.Equality.{equal_from, equal_itself}
use Rattle.gl_logic.proofs.Facts.{exp_eq_is}
use Rattle.gl_logic.proofs.FreeVariables.{agree}
use Rattle.gl_logic.proofs.Optional.{none_some, some_same, then_inverted}
use Rattle.gl_logic.proofs.TwosComplement.{signed}
use Rattle.shape_spec.specs.ShapeSeen.{ShapeSeen, Boolean, Integer, Choice, Constant, Pair}
use Rattle.shape_spec.specs.Indices.{indices_in, width_of, AreApart, IsShape, AreShapes, IsBindings}
use Rattle.shape_spec.specs.InputMeant.{object_meant, truth_of, input_meant, number_of, assignment_numbered}
use Rattle.shape_spec.specs.Theorems.{IsMet, Holds}
use Rattle.shape_spec.proofs.Digits.{number_below, input_by_number}
use Rattle.coverage.specs.Conjuncts.{is_nil_term, conjuncts}
use Rattle.coverage.specs.Forms.{is_int}
use Rattle.coverage.specs.Subjects.{is_variable, car_of, cdr_of, len_of, element_of}
use Rattle.coverage.specs.Rows.{is_consp, is_booleanp, is_true_listp, is_number, equals, is_member, is_unsigned_row, is_signed_row, is_lower, is_upper, is_boolean, is_integer_of, is_from, is_to}
use Rattle.coverage.specs.Covered.{is_integer_row, is_integer_covered, is_boolean_row, conses_in, has_length, by_cases, is_covered, are_covered, is_free_in_either, lacks_cover, first_uncovered}
use Rattle.coverage.specs.Sound.{is_bound_in, AllAreBound}
use Rattle.coverage.proofs.Logic.{bool_cases, never, and_first, and_second, and_both, or_either}
use Rattle.coverage.proofs.Bytes.{IsByte}
use Rattle.coverage.proofs.Values.{To, const_to, if_to}
use Rattle.coverage.proofs.Grounds.{is_list, len_in, nth_in}
use Rattle.coverage.proofs.Ranges.{Denotes, variable_denotes, car_denotes, cdr_denotes, len_denotes, element_denotes, cdrs, nth_cdrs}
use Rattle.coverage.proofs.RowsMet.{Met, few, consp_met, list_met, boolean_met, number_met, equals_met, member_met, unsigned_met, signed_met, lower_met, upper_met}
use Rattle.coverage.proofs.Chosen.{Has, integer_has, boolean_has, constant_has, pair_has, first_has, second_has, apart_left, apart_right, apart_first, apart_second, IsBound, apart_of, all_given, chosen, chosen_object}

-- ---- values that are not NIL
apart : (a b : ℕ) → (a ≡ b → ⊥) → eqb a b ≡ false
apart a b h = grind arith

not_nil : (x : Object) → (x ≡ nil → ⊥) → is_nil x ≡ false
not_nil (Int z) h = refl
not_nil (Character n) h = refl
not_nil (Symbol n) h = apart n 0 (λ e. h (ap Symbol e))
not_nil (Text n) h = refl
not_nil (Cons a d) h = refl

-- an environment with the same objects of the free variables meets the same term
pub met_alike : (definitions : List Definition) (t : Exp) (e e' : List (ℕ × Object)) → AgreeOn (is_free_in t) e e' → IsMet definitions t e → IsMet definitions t e'
met_alike definitions t e e' h m =
    (m.0, (m.1.0, ap (λ o. then o (λ (r : Walk). Some r.value)) (sym (agree (opened definitions m.1.0) t e e' h)) ∙ m.1.1), m.2)

-- ---- what is not lacking
positive : (f k : Bool) → f ≡ true → (f && not k) ≡ false → k ≡ true
positive f true e h = refl
positive true false e h = absurd cc
positive false false e h = never e

eqb_is : (a b : ℕ) → eqb a b ≡ true → a ≡ b
eqb_is a b h = grind arith

rest : (p q : Bool) → p ≡ false → (p || q) ≡ true → q ≡ true
rest true q f h = absurd cc
rest false q f h = h

covered_each : (hyp concl : Exp) (b : List (ℕ × ShapeSeen)) (p : ℕ × ShapeSeen) → first_uncovered hyp concl b ≡ None → IsBound p b → is_free_in_either hyp concl p.0 ≡ true
    → is_covered (conjuncts hyp) (is_variable p.0) p.1 ≡ true
covered_each hyp concl [] p h k f = absurd k
covered_each hyp concl (q ∷ b) p h k f = elim (bool_cases (lacks_cover hyp concl q.0 q.1)) [
  | inl t ↦ absurd (let e = sym (ap (λ l. cond l (Some q.0) (first_uncovered hyp concl b)) t) ∙ h in cc)
  | inr t ↦ elim k [
    | inl e ↦
        let u : (is_free_in_either hyp concl p.0 && not (is_covered (conjuncts hyp) (is_variable p.0) p.1)) ≡ false =
        subst (λ (r : ℕ × ShapeSeen). lacks_cover hyp concl r.0 r.1 ≡ false) (sym e) t in
        positive (is_free_in_either hyp concl p.0) (is_covered (conjuncts hyp) (is_variable p.0) p.1) f u
    | inr l ↦ covered_each hyp concl b p (sym (ap (λ l. cond l (Some q.0) (first_uncovered hyp concl b)) t) ∙ h) l f
  ]
]

-- ---- integers
between : (m : ℕ) (z : ℤ) → 0 < m → is_from m z ≡ true → is_to m z ≡ true → is_signed_byte (pos m) z ≡ true
between zero z p h k = absurd (omega (arith, p))
between (suc w) z p h k =
    let e : suc w - 1 ≡ w = omega arith in
    and_both (subst (λ v. int_le (neg_ℤ (pos (2 ^ v))) z ≡ true) e h) (subst (λ v. int_lt z (pos (2 ^ v)) ≡ true) e k)

byte_is : {m : ℕ} {x : Object} → IsByte m x → is_integer_of m x ≡ true
byte_is {m} {x} h = subst (λ y. is_integer_of m y ≡ true) (sym h.is) (subst (λ k. is_signed_byte (pos k) h.number ≡ true) (sym h.bits) (signed h.beside_sign h.number h.within))

-- ---- lists
cons_parts : (x : Object) → is_cons x ≡ true → (p : Object) × ((q : Object) × (x ≡ Cons p q))
cons_parts (Cons a d) h = (a, (d, refl))
cons_parts (Int k) h = never h
cons_parts (Character k) h = never h
cons_parts (Symbol k) h = never h
cons_parts (Text k) h = never h

cons_of_length : (x : Object) (m : ℕ) → len_in x ≡ suc m → x ≡ Cons (car x) (cdr x)
cons_of_length (Cons a d) m h = refl
cons_of_length (Int k) m h = absurd (omega (arith, h))
cons_of_length (Character k) m h = absurd (omega (arith, h))
cons_of_length (Symbol k) m h = absurd (omega (arith, h))
cons_of_length (Text k) m h = absurd (omega (arith, h))

list_behind : (x : Object) → is_list x ≡ true → is_list (cdr x) ≡ true
list_behind (Cons a d) h = h
list_behind (Int k) h = refl
list_behind (Character k) h = refl
list_behind (Symbol k) h = refl
list_behind (Text k) h = refl

len_behind : (x : Object) (m : ℕ) → len_in x ≡ suc m → len_in (cdr x) ≡ m
len_behind (Cons a d) m h = omega (arith, h)
len_behind (Int k) m h = absurd (omega (arith, h))
len_behind (Character k) m h = absurd (omega (arith, h))
len_behind (Symbol k) m h = absurd (omega (arith, h))
len_behind (Text k) m h = absurd (omega (arith, h))

nil_is : (c : Object) → is_nil c ≡ true → c ≡ nil
nil_is (Symbol k) h = ap Symbol (eqb_is k 0 h)
nil_is (Int k) h = never h
nil_is (Character k) h = never h
nil_is (Text k) h = never h
nil_is (Cons a d) h = never h

nil_rest : (c x : Object) → is_nil c ≡ true → is_list x ≡ true → len_in x ≡ 0 → object_eq c x ≡ true
nil_rest c (Cons a d) h l n = absurd (omega (arith, n))
nil_rest c (Int k) h l n = never l
nil_rest c (Character k) h l n = never l
nil_rest c (Symbol k) h l n = ap (λ y. object_eq y (Symbol k)) (nil_is c h ∙ sym (equal_from (Symbol k) nil l)) ∙ equal_itself (Symbol k)
nil_rest c (Text k) h l n = never l

same_count : (m l : ℕ) → is_int (int_eq (pos m)) (Int (pos l)) ≡ true → l ≡ m
same_count m l h = let e : pos m ≡ pos l = (Decides-int_eq (pos m) (pos l)).0 h in cc

pair_from : (a d : ShapeSeen) (x p : Object) → AreApart (indices_in (Pair a d)) → x ≡ Cons (car x) (cdr x) → p ≡ car x → Has a p → Has d (cdr x) → Has (Pair a d) x
pair_from a d x p h e f k l = subst (Has (Pair a d)) ((λ i. Cons (f i) (cdr x)) ∙ sym e) (pair_has a d p (cdr x) h k l)

either_has : (i : ℕ) (a b : ShapeSeen) (x : Object) → AreApart (indices_in (Choice i a b)) → (p q : Bool) → (p || q) ≡ true → (p ≡ true → Has a x) → (q ≡ true → Has b x) → Has (Choice i a b) x
either_has i a b x h p q e f g = elim (or_either p q e) [
  | inl k ↦ first_has i a b x h (f k)
  | inr k ↦ second_has i a b x h (g k)
]

-- ---- what is met
module _ (ds : List Definition) (known : AreGround ds) (n : ℕ) (env : List (ℕ × Object)) where
  abbrev Meets : Exp → Type 0
  Meets t = Met ds known n env t

  abbrev pub AllMet : List Exp → Type 0
  AllMet [] = Unit {0}
  AllMet (t ∷ ts) = Meets t × AllMet ts

  append_met : (ts us : List Exp) → AllMet ts → AllMet us → AllMet (ts ++ us)
  append_met [] us h k = k
  append_met (t ∷ ts) us h k = (h.0, append_met ts us h.1 k)

  any_met : (row : Exp → Bool) (ts : List Exp) → list_any row ts ≡ true → AllMet ts → (t : Exp) × ((row t ≡ true) × Meets t)
  any_met row [] h m = never h
  any_met row (t ∷ ts) h m = elim (or_either (row t) (list_any row ts) h) [
    | inl k ↦ (t, (k, m.0))
    | inr k ↦ any_met row ts k m.1
  ]

  -- both parts of an `if` whose third part is NIL
  nil_term_value : (d : Exp) (z : Object) → is_nil_term d ≡ true → To (opened ds n) env d z → is_nil z ≡ true
  nil_term_value (Const x) z h k = ap is_nil (const_to (opened ds n) env x z k) ∙ h
  nil_term_value (Var v) z h k = never h
  nil_term_value (If a b d) z h k = never h
  nil_term_value (Prim p ts) z h k = never h
  nil_term_value (Call f ts) z h k = never h
  nil_term_value (Let vs ts b) z h k = never h

  both_met : (a b d : Exp) → is_nil_term d ≡ true → Meets (If a b d) → Meets a × Meets b
  both_met a b d h m =
      let i = if_to (opened ds n) env a b d m.0 m.1.0 in
      elim i.1.1 [
        | inl k ↦ never (sym m.1.1 ∙ nil_term_value d m.0 h k.1)
        | inr k ↦ ((i.0, (i.1.0, k.0)), (m.0, (k.1, m.1.1)))
      ]

  conjuncts_met : (t : Exp) → Meets t → AllMet (conjuncts t)
  conjuncts_met (If a b d) m = elim (bool_cases (is_nil_term d)) [
    | inl h ↦
        let k = both_met a b d h m in
        subst (λ q. AllMet (cond q (conjuncts a ++ conjuncts b) (If a b d ∷ []))) (sym h) (append_met (conjuncts a) (conjuncts b) (conjuncts_met a k.0) (conjuncts_met b k.1))
    | inr h ↦ subst (λ q. AllMet (cond q (conjuncts a ++ conjuncts b) (If a b d ∷ []))) (sym h) (m, tt)
  ]
  conjuncts_met (Var v) m = (m, tt)
  conjuncts_met (Const x) m = (m, tt)
  conjuncts_met (Prim p ts) m = (m, tt)
  conjuncts_met (Call f ts) m = (m, tt)
  conjuncts_met (Let vs ts b) m = (m, tt)

  -- of (if p p q) that is met, one of p and q is
  case_met : (holds_with : Exp → Bool) (t : Exp) → by_cases holds_with t ≡ true → Meets t → (p : Exp) × ((holds_with p ≡ true) × Meets p)
  case_met holds_with (If p r q) h m =
      let e = exp_eq_is p r (and_first (exp_eq p r) (holds_with p && holds_with q) h) in
      let k = and_second (exp_eq p r) (holds_with p && holds_with q) h in
      let i = if_to (opened ds n) env p r q m.0 m.1.0 in
      elim i.1.1 [
        | inl l ↦ (q, (and_second (holds_with p) (holds_with q) k, (m.0, (l.1, m.1.1))))
        | inr l ↦ (p, (and_first (holds_with p) (holds_with q) k, (i.0, (i.1.0, l.0))))
      ]
  case_met holds_with (Var v) h m = never h
  case_met holds_with (Const x) h m = never h
  case_met holds_with (Prim p ts) h m = never h
  case_met holds_with (Call f ts) h m = never h
  case_met holds_with (Let vs ts b) h m = never h

  -- ---- a subject with its object, and what is said
  pub record Known (said : List Exp) (S : Exp → Bool) (x : Object) : Type 0 where
    pub met : AllMet said
    pub denotes : Denotes ds known n env S x

  module _ (said : List Exp) (S : Exp → Bool) (x : Object) (k : Known said S x) where
    integer_row : (m : ℕ) (t : Exp) → is_integer_row m S t ≡ true → Meets t → is_integer_of m x ≡ true
    integer_row m t h e = elim (or_either (is_unsigned_row m S t) _ h) [
      | inl g ↦ byte_is (unsigned_met ds known n env S x k.denotes m t g e)
      | inr g ↦ elim (or_either (is_signed_row m S t) _ g) [
        | inl f ↦ byte_is (signed_met ds known n env S x k.denotes m t f e)
        | inr f ↦ elim (or_either (equals (is_integer_of m) S t) (is_member (is_integer_of m) S t) f) [
          | inl d ↦ equals_met ds known n env S x k.denotes (is_integer_of m) t d e
          | inr d ↦ member_met ds known n env S x k.denotes (is_integer_of m) t d e
        ]
      ]
    ]

    bounded : (m : ℕ) → 0 < m → (list_any (is_number S) said && (list_any (is_lower (is_from m) S) said && list_any (is_upper (is_to m) S) said)) ≡ true → is_integer_of m x ≡ true
    bounded m p h =
        let g = and_second (list_any (is_number S) said) _ h in
        let a = any_met (is_number S) said (and_first (list_any (is_number S) said) _ h) k.met in
        let b = any_met (is_lower (is_from m) S) said (and_first (list_any (is_lower (is_from m) S) said) (list_any (is_upper (is_to m) S) said) g) k.met in
        let c = any_met (is_upper (is_to m) S) said (and_second (list_any (is_lower (is_from m) S) said) (list_any (is_upper (is_to m) S) said) g) k.met in
        let z = number_met ds known n env S x k.denotes a.0 a.1.0 a.1.1 in
        subst (λ y. is_integer_of m y ≡ true) (sym z.1)
        (between m z.0 p (lower_met ds known n env S x k.denotes m z.0 z.1 b.0 b.1.0 b.1.1) (upper_met ds known n env S x k.denotes m z.0 z.1 c.0 c.1.0 c.1.1))

    pub integer_covered : (m : ℕ) → 0 < m → is_integer_covered said S m ≡ true → is_integer_of m x ≡ true
    integer_covered m p h = elim (or_either (list_any (is_integer_row m S) said) _ h) [
      | inl g ↦ let a = any_met (is_integer_row m S) said g k.met in integer_row m a.0 a.1.0 a.1.1
      | inr g ↦ bounded m p g
    ]

    pub boolean_covered : list_any (is_boolean_row S) said ≡ true → is_boolean x ≡ true
    boolean_covered h =
        let a = any_met (is_boolean_row S) said h k.met in
        elim (or_either (is_booleanp S a.0) _ a.1.0) [
          | inl g ↦ boolean_met ds known n env S x k.denotes a.0 g a.1.1
          | inr g ↦ elim (or_either (equals is_boolean S a.0) (is_member is_boolean S a.0) g) [
            | inl d ↦ equals_met ds known n env S x k.denotes is_boolean a.0 d a.1.1
            | inr d ↦ member_met ds known n env S x k.denotes is_boolean a.0 d a.1.1
          ]
        ]

    pub constant_covered : (c : Object) → list_any (equals (object_eq c) S) said ≡ true → object_eq c x ≡ true
    constant_covered c h = let a = any_met (equals (object_eq c) S) said h k.met in equals_met ds known n env S x k.denotes (object_eq c) a.0 a.1.0 a.1.1

    pub consp_covered : list_any (is_consp S) said ≡ true → (p : Object) × ((q : Object) × (x ≡ Cons p q))
    consp_covered h = let a = any_met (is_consp S) said h k.met in cons_parts x (consp_met ds known n env S x k.denotes a.0 a.1.0 a.1.1)

    pub list_covered : (m : ℕ) → has_length said S m ≡ true → (is_list x ≡ true) × (len_in x ≡ m)
    list_covered m h =
        let a = any_met (is_true_listp S) said (and_first (list_any (is_true_listp S) said) _ h) k.met in
        let b = any_met (equals (is_int (int_eq (pos m))) (len_of S)) said (and_second (list_any (is_true_listp S) said) _ h) k.met in
        let e = equals_met ds known n env (len_of S) (Int (pos (len_in x))) (len_denotes ds known n env S x k.denotes (few 25 (omega arith))) (is_int (int_eq (pos m))) b.0 b.1.0 b.1.1 in
        (list_met ds known n env S x k.denotes a.0 a.1.0 a.1.1, same_count m (len_in x) e)

    pub with_more : (p : Exp) → Meets p → Known (said ++ conjuncts p) S x
    with_more p m = record { met = append_met said (conjuncts p) k.met (conjuncts_met p m); denotes = k.denotes }

    pub car_known : Known said (car_of S) (car x)
    car_known = record { met = k.met; denotes = car_denotes ds known n env S x k.denotes }

    pub cdr_known : Known said (cdr_of S) (cdr x)
    cdr_known = record { met = k.met; denotes = cdr_denotes ds known n env S x k.denotes }

    pub element_known : (i : ℕ) → Known said (element_of i S) (nth_in x i)
    element_known i = record { met = k.met; denotes = element_denotes ds known n env S x k.denotes (few 28 (omega arith)) i }

  -- ---- shapes
  abbrev pub IsFine : ShapeSeen → Type 0
  IsFine s = AreApart (indices_in s) × IsShape s

  first_fine : (a d : ShapeSeen) → IsFine (Pair a d) → IsFine a
  first_fine a d h = (apart_left (indices_in a) (indices_in d) h.0, h.1.0)

  second_fine : (a d : ShapeSeen) → IsFine (Pair a d) → IsFine d
  second_fine a d h = (apart_right (indices_in a) (indices_in d) h.0, h.1.1)

  mutual
    pub covered_has : (s : ShapeSeen) (said : List Exp) (S : Exp → Bool) (x : Object) → Known said S x → IsFine s → is_covered said S s ≡ true → Has s x
    covered_has (Integer is) said S x k f h = integer_has is x f.0 (integer_covered said S x k (length is) f.1.0 h)
    covered_has (Boolean i) said S x k f h = boolean_has i x (boolean_covered said S x k h)
    covered_has (Constant c) said S x k f h = constant_has c x (constant_covered said S x k c h)
    covered_has (Pair a d) said S x k f h = elim (or_either (list_any (is_consp S) said && (is_covered said (car_of S) a && is_covered said (cdr_of S) d)) _ h) [
      | inl g ↦
          let e = and_second (list_any (is_consp S) said) _ g in
          let p = consp_covered said S x k (and_first (list_any (is_consp S) said) _ g) in
          let one = covered_has a said (car_of S) (car x) (car_known said S x k) (first_fine a d f) (and_first (is_covered said (car_of S) a) (is_covered said (cdr_of S) d) e) in
          let two = covered_has d said (cdr_of S) (cdr x) (cdr_known said S x k) (second_fine a d f) (and_second (is_covered said (car_of S) a) (is_covered said (cdr_of S) d) e) in
          subst (Has (Pair a d)) (ap (λ y. Cons (car y) (cdr y)) p.1.1 ∙ sym p.1.1) (pair_has a d (car x) (cdr x) f.0 one two)
      | inr g ↦
          let l = list_covered said S x k (suc (conses_in d)) (and_first (has_length said S (suc (conses_in d))) _ g) in
          let e = and_second (has_length said S (suc (conses_in d))) _ g in
          let one = covered_has a said (element_of 0 S) (nth_in x 0) (element_known said S x k 0) (first_fine a d f) (and_first (is_covered said (element_of 0 S) a) (are_covered said S 1 d) e) in
          let two = elements_have d said S x 1 (cdr x) k (second_fine a d f) (and_second (is_covered said (element_of 0 S) a) (are_covered said S 1 d) e) refl (list_behind x l.0) (len_behind x (conses_in d) l.1) in
          pair_from a d x (nth_in x 0) f.0 (cons_of_length x (conses_in d) l.1) (sym (nth_cdrs x 0)) one two
    ]
    covered_has (Choice i a b) said S x k f h = elim (or_either (is_covered said S a || is_covered said S b) _ h) [
      | inl g ↦ either_has i a b x f.0 _ _ g (covered_has a said S x k (apart_first i a b f.0, f.1.0)) (covered_has b said S x k (apart_second i a b f.0, f.1.1))
      | inr g ↦
          let m = any_met (by_cases (λ p. is_covered (said ++ conjuncts p) S a || is_covered (said ++ conjuncts p) S b)) said g k.met in
          let c = case_met (λ p. is_covered (said ++ conjuncts p) S a || is_covered (said ++ conjuncts p) S b) m.0 m.1.0 m.1.1 in
          let w = with_more said S x k c.0 c.1.1 in
          either_has i a b x f.0 _ _ c.1.0 (covered_has a (said ++ conjuncts c.0) S x w (apart_first i a b f.0, f.1.0)) (covered_has b (said ++ conjuncts c.0) S x w (apart_second i a b f.0, f.1.1))
    ]

    elements_have : (s : ShapeSeen) (said : List Exp) (S : Exp → Bool) (x : Object) (i : ℕ) (rest : Object) → Known said S x → IsFine s → are_covered said S i s ≡ true → rest ≡ cdrs i x → is_list rest ≡ true → len_in rest ≡ conses_in s → Has s rest
    elements_have (Pair a d) said S x i rest k f h e l n =
        let one = covered_has a said (element_of i S) (nth_in x i) (element_known said S x k i) (first_fine a d f) (and_first (is_covered said (element_of i S) a) (are_covered said S (suc i) d) h) in
        let two = elements_have d said S x (suc i) (cdr rest) k (second_fine a d f) (and_second (is_covered said (element_of i S) a) (are_covered said S (suc i) d) h) (ap cdr e) (list_behind rest l) (len_behind rest (conses_in d) n) in
        pair_from a d rest (nth_in x i) f.0 (cons_of_length rest (conses_in d) n) (sym (nth_cdrs x i) ∙ ap car (sym e)) one two
    elements_have (Constant c) said S x i rest k f h e l n = constant_has c rest (nil_rest c rest h l n)
    elements_have (Integer is) said S x i rest k f h e l n = never h
    elements_have (Boolean j) said S x i rest k f h e l n = never h
    elements_have (Choice j a b) said S x i rest k f h e l n = never h

-- ---- looking a variable up in an input
abbrev pub made_by : (ShapeSeen → Object) → List (ℕ × ShapeSeen) → List (ℕ × Object)
made_by f b = map (λ p. (p.0, f p.1)) b

look_made : (f : ShapeSeen → Object) (x : Object) (b : List (ℕ × ShapeSeen)) (v : ℕ) → ((p : ℕ × ShapeSeen) → IsBound p b → p.0 ≡ v → f p.1 ≡ x) → is_bound_in b v ≡ true → look (made_by f b) v ≡ x
look_made f x [] v h k = never k
look_made f x (p ∷ b) v h k = elim (bool_cases (eqb p.0 v)) [
  | inl t ↦ ap (λ q. cond q (f p.1) (look (made_by f b) v)) t ∙ h p (inl refl) (eqb_is p.0 v t)
  | inr t ↦ ap (λ q. cond q (f p.1) (look (made_by f b) v)) t ∙ look_made f x b v (λ q l e. h q (inr l) e) (rest (eqb p.0 v) (is_bound_in b v) t k)
]

-- ---- soundness
shape_of_bound : (p : ℕ × ShapeSeen) (b : List (ℕ × ShapeSeen)) → IsBound p b → AreShapes b → IsShape p.1
shape_of_bound p [] k h = absurd k
shape_of_bound p (q ∷ b) k h = elim k [
  | inl e ↦ subst (λ (r : ℕ × ShapeSeen). IsShape r.1) (sym e) h.0
  | inr l ↦ shape_of_bound p b l h.1
]

-- where there are no definitions
pub no_definitions : AreGround []
no_definitions i d e = none_some d e

module _ (definitions : List Definition) (known : AreGround definitions) (hyp concl : Exp) (b : List (ℕ × ShapeSeen)) (proper : IsBindings b) (bound : AllAreBound hyp concl b) (covered : first_uncovered hyp concl b ≡ None) where
  pub some_input : (env : List (ℕ × Object)) → IsMet definitions hyp env → (a : ℕ → Bool) × AgreeOn (is_free_in_either hyp concl) (input_meant b a) env
  some_input env m =
      let n = m.1.0 in
      let i = then_inverted (walk definitions n env hyp) (λ (r : Walk). Some r.value) m.0 m.1.1 in
      let met : is_nil i.0.value ≡ false = ap is_nil (some_same _ _ i.1.1) ∙ not_nil m.0 m.2 in
      let said = conjuncts_met definitions known n env hyp (i.0.value, ((i.0, i.1.0, refl), met)) in
      let wanted = is_free_in_either hyp concl in
      let given = all_given env wanted b proper.indices (λ p k f.
      covered_has definitions known n env p.1 (conjuncts hyp) (is_variable p.0) (look env p.0) (record { met = said; denotes = variable_denotes definitions known n env p.0 })
      (apart_of p b k proper.indices, shape_of_bound p b k proper.shapes) (covered_each hyp concl b p covered k f)) in
      let a = chosen b given.0 in (
        a,
        λ v f. look_made (object_meant (truth_of b a)) (look env v) b v
            (λ p k e. chosen_object b given.0 p k ∙ (given.1 p k (ap wanted e ∙ f) ∙ ap (look env) e))
            (bound v f),
      )

  pub hyp_on_input : (env : List (ℕ × Object)) (m : IsMet definitions hyp env) → IsMet definitions hyp (input_meant b (some_input env m).0)
  hyp_on_input env m =
      let s = some_input env m in
      met_alike definitions hyp env (input_meant b s.0) (λ v f. sym (s.1 v (or_left (is_free_in hyp v) (is_free_in concl v) f))) m

  pub holds_from_inputs : ((a : ℕ → Bool) → IsMet definitions hyp (input_meant b a) → IsMet definitions concl (input_meant b a)) → Holds definitions hyp concl
  holds_from_inputs h env m =
      let s = some_input env m in
      met_alike definitions concl (input_meant b s.0) env (λ v f. s.1 v (or_right (is_free_in hyp v) (is_free_in concl v) f)) (h s.0 (hyp_on_input env m))

  pub holds_from_numbers : ((n : ℕ) → n < 2 ^ width_of b → IsMet definitions hyp (input_meant b (assignment_numbered n)) → IsMet definitions concl (input_meant b (assignment_numbered n))) → Holds definitions hyp concl
  holds_from_numbers h = holds_from_inputs (λ a m.
      let e = input_by_number b a in
      subst (IsMet definitions concl) e (h (number_of (width_of b) a) (number_below (width_of b) a) (subst (IsMet definitions hyp) (sym e) m)))

  pub never_from_numbers : ((n : ℕ) → n < 2 ^ width_of b → IsMet definitions hyp (input_meant b (assignment_numbered n)) → ⊥) → (env : List (ℕ × Object)) → IsMet definitions hyp env → ⊥
  never_from_numbers h env m =
      let s = some_input env m in
      let e = input_by_number b s.0 in
      h (number_of (width_of b) s.0) (number_below (width_of b) s.0) (subst (IsMet definitions hyp) (sym e) (hyp_on_input env m))
