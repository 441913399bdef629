-- Conjuncts in which no term of a set stands say nothing of it, nor of its parts.
use Rattle.std.proofs.Common.{◌≡◌, ◌∙◌, ap, sym, refl, subst, ℕ, zero, suc, Bool, true, false, ◌&&◌, ◌||◌, cond, length, List, [], ◌∷◌, ◌++◌, ℤ, pos, negsuc, ◌+ℤ◌, ◌⊎◌, inl, inr}
use Rattle.std.specs.List.{list_any}
use Rattle.std.specs.Ordering.{int_eq}
use Rattle.gl_logic.specs.Object.{Object}
use Rattle.gl_logic.specs.ObjectEq.{object_eq}
use Rattle.gl_logic.specs.Exp.{Exp, Exps, Var, Const, If, Prim, Call, Let}
use Rattle.gl_logic.specs.RecursiveCalls.{exp_eq}
use Rattle.gl_logic.specs.declared.prim.Primitive.{Primitive}
use Rattle.gl_logic.specs.declared.prim.Primitive.TheVariants as prim
use Rattle.shape_spec.specs.ShapeSeen.{ShapeSeen, Boolean, Integer, Choice, Constant, Pair}
use Rattle.coverage.specs.Conjuncts.{is_nil_term, conjuncts}
use Rattle.coverage.specs.Forms.{is_int, is_literal, one, two, either_order, is_prim, is_call}
use Rattle.coverage.specs.Subjects.{car_of, cdr_of, behind, len_of, nth_of, element_of}
use Rattle.coverage.specs.Rows.{is_consp, is_booleanp, is_true_listp, is_number, equals, are_all, is_member, is_width_in, is_unsigned_row, is_signed_row, is_lower, is_upper, is_boolean, is_integer_of, is_from, is_to}
use Rattle.coverage.specs.Covered.{is_integer_row, is_integer_covered, is_boolean_row, conses_in, has_length, by_cases, is_covered, are_covered}
use Rattle.coverage.specs.Parts.{has_part, any_part, Among}
use Rattle.coverage.proofs.Logic.{never, bool_cases, and_first, and_second, and_both, or_either, or_first, or_second}
use Rattle.coverage.proofs.Ranges.{prim_form, call_form, one_form, two_form}

-- ---- members of lists
found : (row : Exp → Bool) (ts : List Exp) → list_any row ts ≡ true → (t : Exp) × (Among t ts × (row t ≡ true))
found row [] h = never h
found row (t ∷ ts) h = elim (or_either (row t) (list_any row ts) h) [
  | inl k ↦ (t, (inl refl, k))
  | inr k ↦ let f = found row ts k in (f.0, (inr f.1.0, f.1.1))
]

pub there : (row : Exp → Bool) (ts : List Exp) (t : Exp) → Among t ts → row t ≡ true → list_any row ts ≡ true
there row [] t h k = absurd h
there row (u ∷ ts) t h k = elim h [
  | inl e ↦ or_first (row u) (list_any row ts) (ap row (sym e) ∙ k)
  | inr l ↦ or_second (row u) (list_any row ts) (there row ts t l k)
]

pub among_either : (t : Exp) (ts us : List Exp) → Among t (ts ++ us) → Among t ts ⊎ Among t us
among_either t [] us h = inr h
among_either t (u ∷ ts) us h = elim h [
  | inl e ↦ inl (inl e)
  | inr k ↦ elim (among_either t ts us k) [
    | inl l ↦ inl (inr l)
    | inr l ↦ inr l
  ]
]

pub among_left : (t : Exp) (ts us : List Exp) → Among t ts → Among t (ts ++ us)
among_left t [] us h = absurd h
among_left t (u ∷ ts) us h = elim h [ inl e ↦ inl e | inr k ↦ inr (among_left t ts us k) ]

pub among_right : (t : Exp) (ts us : List Exp) → Among t us → Among t (ts ++ us)
among_right t [] us h = h
among_right t (u ∷ ts) us h = inr (among_right t ts us h)

pub same_truth : (a b : Bool) → (a ≡ true → b ≡ true) → (b ≡ true → a ≡ true) → a ≡ b
same_truth true b f g = sym (f refl)
same_truth false true f g = g refl
same_truth false false f g = refl

module _ (T : Exp → Bool) where
  -- in each term of the set stands one of T
  abbrev pub Cone : (Exp → Bool) → Type 0
  Cone S = (u : Exp) → S u ≡ true → has_part T u ≡ true

  here : (t : Exp) → T t ≡ true → has_part T t ≡ true
  here (Var v) h = h
  here (Const x) h = h
  here (If a b d) h = or_first (T (If a b d)) _ h
  here (Prim p ts) h = or_first (T (Prim p ts)) (any_part T ts) h
  here (Call f ts) h = or_first (T (Call f ts)) (any_part T ts) h
  here (Let vs ts b) h = h

  pub cone_itself : Cone T
  cone_itself u h = here u h

  prim_part : (p : Primitive) (test : Exps → Bool) → ((ts : Exps) → test ts ≡ true → any_part T ts ≡ true) → (t : Exp) → is_prim p test t ≡ true → has_part T t ≡ true
  prim_part p test k t h =
      let f = prim_form p test t h in
      subst (λ u. has_part T u ≡ true) (sym f.1.0) (or_second (T (Prim p f.0)) (any_part T f.0) (k f.0 f.1.1))

  call_part : (g : ℕ) (test : Exps → Bool) → ((ts : Exps) → test ts ≡ true → any_part T ts ≡ true) → (t : Exp) → is_call g test t ≡ true → has_part T t ≡ true
  call_part g test k t h =
      let f = call_form g test t h in
      subst (λ u. has_part T u ≡ true) (sym f.1.0) (or_second (T (Call g f.0)) (any_part T f.0) (k f.0 f.1.1))

  module _ (S : Exp → Bool) (cone : Cone S) where
    one_part : (ts : Exps) → one S ts ≡ true → any_part T ts ≡ true
    one_part ts h =
        let f = one_form S ts h in
        subst (λ us. any_part T us ≡ true) (sym f.1.0) (or_first (has_part T f.0) false (cone f.0 f.1.1))

    first_part : (F : Exp → Bool) (ts : Exps) → two S F ts ≡ true → any_part T ts ≡ true
    first_part F ts h =
        let f = two_form S F ts h in
        subst (λ us. any_part T us ≡ true) (sym f.1.1.0) (or_first (has_part T f.0) (has_part T f.1.0 || false) (cone f.0 f.1.1.1))

    second_part : (F : Exp → Bool) (ts : Exps) → two F S ts ≡ true → any_part T ts ≡ true
    second_part F ts h =
        let f = two_form F S ts h in
        subst (λ us. any_part T us ≡ true) (sym f.1.1.0) (or_second (has_part T f.0) (has_part T f.1.0 || false) (or_first (has_part T f.1.0) false (cone f.1.0 f.1.1.2)))

    either_part : (F : Exp → Bool) (ts : Exps) → either_order S F ts ≡ true → any_part T ts ≡ true
    either_part F ts h = elim (or_either (two S F ts) (two F S ts) h) [ inl k ↦ first_part F ts k | inr k ↦ second_part F ts k ]

    -- ---- subjects
    pub cone_car : Cone (car_of S)
    cone_car u h = prim_part prim.Car (one S) one_part u h

    pub cone_cdr : Cone (cdr_of S)
    cone_cdr u h = prim_part prim.Cdr (one S) one_part u h

    cone_len : Cone (len_of S)
    cone_len u h = call_part 25 (one S) one_part u h

    cone_nth : (i : ℕ) → Cone (nth_of i S)
    cone_nth i u h = call_part 28 (two (is_literal (is_int (int_eq (pos i)))) S) (second_part (is_literal (is_int (int_eq (pos i))))) u h

    -- ---- rows
    abbrev Told : (Exp → Bool) → Type 0
    Told row = (t : Exp) → row t ≡ true → has_part T t ≡ true

    told_consp : Told (is_consp S)
    told_consp t h = prim_part prim.Consp (one S) one_part t h

    told_listp : Told (is_true_listp S)
    told_listp t h = call_part 26 (one S) one_part t h

    told_booleanp : Told (is_booleanp S)
    told_booleanp t h = call_part 21 (one S) one_part t h

    told_number : Told (is_number S)
    told_number t h = elim (or_either (is_prim prim.Integerp (one S) t) (is_call 9 (one S) t || is_call 10 (one S) t) h) [
      | inl k ↦ prim_part prim.Integerp (one S) one_part t k
      | inr k ↦ elim (or_either (is_call 9 (one S) t) (is_call 10 (one S) t) k) [
        | inl l ↦ call_part 9 (one S) one_part t l
        | inr l ↦ call_part 10 (one S) one_part t l
      ]
    ]

    pub told_equals : (test : Object → Bool) → Told (equals test S)
    told_equals test t h =
        let asked = either_order S (is_literal test) in
        let part = either_part (is_literal test) in
        elim (or_either (is_prim prim.Equal asked t) (is_call 3 asked t || (is_call 4 asked t || is_call 5 asked t)) h) [
          | inl k ↦ prim_part prim.Equal asked part t k
          | inr k ↦ elim (or_either (is_call 3 asked t) (is_call 4 asked t || is_call 5 asked t) k) [
            | inl l ↦ call_part 3 asked part t l
            | inr l ↦ elim (or_either (is_call 4 asked t) (is_call 5 asked t) l) [
              | inl j ↦ call_part 4 asked part t j
              | inr j ↦ call_part 5 asked part t j
            ]
          ]
        ]

    told_member : (test : Object → Bool) → Told (is_member test S)
    told_member test t h = call_part 31 (two S (is_literal (are_all test))) (first_part (is_literal (are_all test))) t h

    told_unsigned : (n : ℕ) → Told (is_unsigned_row n S)
    told_unsigned n t h = prim_part prim.UnsignedByteP (two (is_literal (is_width_in 0 n)) S) (second_part (is_literal (is_width_in 0 n))) t h

    told_signed : (n : ℕ) → Told (is_signed_row n S)
    told_signed n t h = prim_part prim.SignedByteP (two (is_literal (is_width_in 1 n)) S) (second_part (is_literal (is_width_in 1 n))) t h

    -- below (not ..)
    inner_part : (test : Exps → Bool) → ((ts : Exps) → test ts ≡ true → any_part T ts ≡ true) → (ts : Exps) → one (is_prim prim.Less test) ts ≡ true → any_part T ts ≡ true
    inner_part test k ts h =
        let f = one_form (is_prim prim.Less test) ts h in
        subst (λ us. any_part T us ≡ true) (sym f.1.0) (or_first (has_part T f.0) false (prim_part prim.Less test k f.0 f.1.1))

    told_lower : (test : ℤ → Bool) → Told (is_lower test S)
    told_lower test t h = elim (or_either (is_call 9 (one S) t && test (pos 0)) _ h) [
      | inl k ↦ call_part 9 (one S) one_part t (and_first (is_call 9 (one S) t) (test (pos 0)) k)
      | inr k ↦ elim (or_either (is_call 10 (one S) t && test (pos 1)) _ k) [
        | inl l ↦ call_part 10 (one S) one_part t (and_first (is_call 10 (one S) t) (test (pos 1)) l)
        | inr l ↦ elim (or_either (is_prim prim.Less (two (is_literal (is_int (λ j. test (j +ℤ pos 1)))) S) t) _ l) [
          | inl j ↦ prim_part prim.Less (two (is_literal (is_int (λ j. test (j +ℤ pos 1)))) S) (second_part (is_literal (is_int (λ j. test (j +ℤ pos 1))))) t j
          | inr j ↦ prim_part prim.Not (one (is_prim prim.Less (two S (is_literal (is_int test))))) (inner_part (two S (is_literal (is_int test))) (first_part (is_literal (is_int test)))) t j
        ]
      ]
    ]

    told_upper : (test : ℤ → Bool) → Told (is_upper test S)
    told_upper test t h = elim (or_either (is_prim prim.Less (two S (is_literal (is_int (λ j. test (j +ℤ negsuc 0))))) t) _ h) [
      | inl k ↦ prim_part prim.Less (two S (is_literal (is_int (λ j. test (j +ℤ negsuc 0))))) (first_part (is_literal (is_int (λ j. test (j +ℤ negsuc 0))))) t k
      | inr k ↦ prim_part prim.Not (one (is_prim prim.Less (two (is_literal (is_int test)) S))) (inner_part (two (is_literal (is_int test)) S) (second_part (is_literal (is_int test)))) t k
    ]

    told_integer : (n : ℕ) → Told (is_integer_row n S)
    told_integer n t h = elim (or_either (is_unsigned_row n S t) _ h) [
      | inl k ↦ told_unsigned n t k
      | inr k ↦ elim (or_either (is_signed_row n S t) _ k) [
        | inl l ↦ told_signed n t l
        | inr l ↦ elim (or_either (equals (is_integer_of n) S t) (is_member (is_integer_of n) S t) l) [
          | inl j ↦ told_equals (is_integer_of n) t j
          | inr j ↦ told_member (is_integer_of n) t j
        ]
      ]
    ]

    told_boolean : Told (is_boolean_row S)
    told_boolean t h = elim (or_either (is_booleanp S t) _ h) [
      | inl k ↦ told_booleanp t k
      | inr k ↦ elim (or_either (equals is_boolean S t) (is_member is_boolean S t) k) [
        | inl l ↦ told_equals is_boolean t l
        | inr l ↦ told_member is_boolean t l
      ]
    ]

  pub cone_behind : (S : Exp → Bool) → Cone S → (i : ℕ) → Cone (behind i S)
  cone_behind S c zero = c
  cone_behind S c (suc i) = cone_cdr (behind i S) (cone_behind S c i)

  pub cone_element : (S : Exp → Bool) → Cone S → (i : ℕ) → Cone (element_of i S)
  cone_element S c i u h = elim (or_either (car_of (behind i S) u) (nth_of i S u) h) [
    | inl k ↦ cone_car (behind i S) (cone_behind S c i) u k
    | inr k ↦ cone_nth S c i u k
  ]

  -- ---- parts of conjuncts
  alone : (t u : Exp) → Among u (t ∷ []) → has_part T u ≡ true → has_part T t ≡ true
  alone t u h k = elim h [ inl e ↦ ap (has_part T) (sym e) ∙ k | inr l ↦ absurd l ]

  conjunct_part : (t u : Exp) → Among u (conjuncts t) → has_part T u ≡ true → has_part T t ≡ true
  conjunct_part (If a b d) u h k = elim (bool_cases (is_nil_term d)) [
    | inl e ↦ elim (among_either u (conjuncts a) (conjuncts b) (subst (λ q. Among u (cond q (conjuncts a ++ conjuncts b) (If a b d ∷ []))) e h)) [
      | inl l ↦ or_second (T (If a b d)) _ (or_first (has_part T a) _ (conjunct_part a u l k))
      | inr l ↦ or_second (T (If a b d)) _ (or_second (has_part T a) _ (or_first (has_part T b) (has_part T d) (conjunct_part b u l k)))
    ]
    | inr e ↦ alone (If a b d) u (subst (λ q. Among u (cond q (conjuncts a ++ conjuncts b) (If a b d ∷ []))) e h) k
  ]
  conjunct_part (Var v) u h k = alone (Var v) u h k
  conjunct_part (Const x) u h k = alone (Const x) u h k
  conjunct_part (Prim p ts) u h k = alone (Prim p ts) u h k
  conjunct_part (Call f ts) u h k = alone (Call f ts) u h k
  conjunct_part (Let vs ts b) u h k = alone (Let vs ts b) u h k

  -- ---- lists that keep each conjunct in which a term of T stands
  abbrev pub Keeps : List Exp → List Exp → Type 0
  Keeps A B = (t : Exp) → Among t A → has_part T t ≡ true → Among t B

  kept : (row : Exp → Bool) (A B : List Exp) → Keeps A B → ((t : Exp) → row t ≡ true → has_part T t ≡ true) → list_any row A ≡ true → list_any row B ≡ true
  kept row A B k told h =
      let f = found row A h in
      there row B f.0 (k f.0 f.1.0 (told f.0 f.1.1)) f.1.1

  keeps_more : (A B : List Exp) → Keeps A B → (p : Exp) → Keeps (A ++ conjuncts p) (B ++ conjuncts p)
  keeps_more A B k p t h m = elim (among_either t A (conjuncts p) h) [
    | inl l ↦ among_left t B (conjuncts p) (k t l m)
    | inr l ↦ among_right t B (conjuncts p) l
  ]

  -- the conjuncts of a term in which none stands may be left out
  keeps_without : (A B : List Exp) → Keeps A B → (p : Exp) → has_part T p ≡ false → Keeps (A ++ conjuncts p) B
  keeps_without A B k p n t h m = elim (among_either t A (conjuncts p) h) [
    | inl l ↦ k t l m
    | inr l ↦ never (sym n ∙ conjunct_part p t l m)
  ]

  and_kept : {p q p' q' : Bool} → (p ≡ true → p' ≡ true) → (q ≡ true → q' ≡ true) → (p && q) ≡ true → (p' && q') ≡ true
  and_kept {p} {q} f g h = and_both (f (and_first p q h)) (g (and_second p q h))

  or_kept : {p q p' q' : Bool} → (p ≡ true → p' ≡ true) → (q ≡ true → q' ≡ true) → (p || q) ≡ true → (p' || q') ≡ true
  or_kept {p} {q} {p'} {q'} f g h = elim (or_either p q h) [ inl k ↦ or_first p' q' (f k) | inr k ↦ or_second p' q' (g k) ]

  module _ (A B : List Exp) (k : Keeps A B) (S : Exp → Bool) (cone : Cone S) where
    kept_integer : (n : ℕ) → is_integer_covered A S n ≡ true → is_integer_covered B S n ≡ true
    kept_integer n = or_kept (kept (is_integer_row n S) A B k (told_integer S cone n))
        (and_kept (kept (is_number S) A B k (told_number S cone))
        (and_kept (kept (is_lower (is_from n) S) A B k (told_lower S cone (is_from n))) (kept (is_upper (is_to n) S) A B k (told_upper S cone (is_to n)))))

    kept_length : (n : ℕ) → has_length A S n ≡ true → has_length B S n ≡ true
    kept_length n = and_kept (kept (is_true_listp S) A B k (told_listp S cone))
        (kept (equals (is_int (int_eq (pos n))) (len_of S)) A B k (told_equals (len_of S) (cone_len S cone) (is_int (int_eq (pos n)))))

  pub record IsCase (F : Exp → Bool) (t : Exp) : Type 0 where
    pub test : Exp
    pub again : Exp
    pub rest : Exp
    pub is : t ≡ If test again rest
    pub same : exp_eq test again ≡ true
    pub first : F test ≡ true
    pub second : F rest ≡ true

  case_form : (F : Exp → Bool) (t : Exp) → by_cases F t ≡ true → IsCase F t
  case_form F (If p r q) h =
      let e = and_second (exp_eq p r) (F p && F q) h in
      record { test = p; again = r; rest = q; is = refl; same = and_first (exp_eq p r) (F p && F q) h; first = and_first (F p) (F q) e; second = and_second (F p) (F q) e }
  case_form F (Var v) h = never h
  case_form F (Const x) h = never h
  case_form F (Prim p ts) h = never h
  case_form F (Call f ts) h = never h
  case_form F (Let vs ts b) h = never h

  test_part : (p r q : Exp) → has_part T (If p r q) ≡ false → has_part T p ≡ false
  test_part p r q h = elim (bool_cases (has_part T p)) [
    | inl e ↦ never (sym h ∙ or_second (T (If p r q)) _ (or_first (has_part T p) _ e))
    | inr e ↦ e
  ]

  mutual
    pub keeps_covered : (s : ShapeSeen) (A B : List Exp) (S : Exp → Bool) → Keeps A B → Cone S → is_covered A S s ≡ true → is_covered B S s ≡ true
    keeps_covered (Integer is) A B S k c h = kept_integer A B k S c (length is) h
    keeps_covered (Boolean i) A B S k c h = kept (is_boolean_row S) A B k (told_boolean S c) h
    keeps_covered (Constant x) A B S k c h = kept (equals (object_eq x) S) A B k (told_equals S c (object_eq x)) h
    keeps_covered (Pair a d) A B S k c h = or_kept
        (and_kept (kept (is_consp S) A B k (told_consp S c)) (and_kept (keeps_covered a A B (car_of S) k (cone_car S c)) (keeps_covered d A B (cdr_of S) k (cone_cdr S c))))
        (and_kept (kept_length A B k S c (suc (conses_in d))) (and_kept (keeps_covered a A B (element_of 0 S) k (cone_element S c 0)) (keeps_elements d A B S 1 k c))) h
    keeps_covered (Choice i a b) A B S k c h = elim (or_either (is_covered A S a || is_covered A S b) _ h) [
      | inl g ↦ or_first (is_covered B S a || is_covered B S b) _ (or_kept (keeps_covered a A B S k c) (keeps_covered b A B S k c) g)
      | inr g ↦
          let f = found (by_cases (λ p. is_covered (A ++ conjuncts p) S a || is_covered (A ++ conjuncts p) S b)) A g in
          let m = case_form (λ p. is_covered (A ++ conjuncts p) S a || is_covered (A ++ conjuncts p) S b) f.0 f.1.1 in
          elim (bool_cases (has_part T f.0)) [
            | inl e ↦ or_second (is_covered B S a || is_covered B S b) _
                (there (by_cases (λ p. is_covered (B ++ conjuncts p) S a || is_covered (B ++ conjuncts p) S b)) B f.0 (k f.0 f.1.0 e)
                (subst (λ t. by_cases (λ p. is_covered (B ++ conjuncts p) S a || is_covered (B ++ conjuncts p) S b) t ≡ true) (sym m.is)
                (and_both m.same (and_both
                (or_kept (keeps_covered a (A ++ conjuncts m.test) (B ++ conjuncts m.test) S (keeps_more A B k m.test) c) (keeps_covered b (A ++ conjuncts m.test) (B ++ conjuncts m.test) S (keeps_more A B k m.test) c) m.first)
                (or_kept (keeps_covered a (A ++ conjuncts m.rest) (B ++ conjuncts m.rest) S (keeps_more A B k m.rest) c) (keeps_covered b (A ++ conjuncts m.rest) (B ++ conjuncts m.rest) S (keeps_more A B k m.rest) c) m.second)))))
            | inr e ↦
                let n = test_part m.test m.again m.rest (ap (has_part T) (sym m.is) ∙ e) in
                or_first (is_covered B S a || is_covered B S b) _
                (or_kept (keeps_covered a (A ++ conjuncts m.test) B S (keeps_without A B k m.test n) c) (keeps_covered b (A ++ conjuncts m.test) B S (keeps_without A B k m.test n) c) m.first)
          ]
    ]

    pub keeps_elements : (s : ShapeSeen) (A B : List Exp) (S : Exp → Bool) (i : ℕ) → Keeps A B → Cone S → are_covered A S i s ≡ true → are_covered B S i s ≡ true
    keeps_elements (Pair a d) A B S i k c h = and_kept (keeps_covered a A B (element_of i S) k (cone_element S c i)) (keeps_elements d A B S (suc i) k c) h
    keeps_elements (Constant x) A B S i k c h = h
    keeps_elements (Integer is) A B S i k c h = h
    keeps_elements (Boolean j) A B S i k c h = h
    keeps_elements (Choice j a b) A B S i k c h = h
