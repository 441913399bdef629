-- Places, elements and lists of conjuncts, as the code finds them.
use Rattle.std.proofs.Common.{◌≡◌, ◌∙◌, ap, sym, refl, subst, ℕ, zero, suc, ◌+◌, ◌-◌, ◌<◌, Bool, true, false, ◌||◌, cond, eqb, List, [], ◌∷◌, ◌++◌, map, length, get_or, take, set, Vec, Box, Result, Ok, Err, Global, Bor, Option, Some, None, arith, inl, inr}
use Rattle.std.specs.Option.{option_map}
use Rattle.std.specs.Prelude.{OnOk}
use Rattle.std.proofs.lemmas.List.{get_or-map, length-map, map-set, map-append, take_more}
use Rattle.gl_logic.specs.Exp.{Exp, Exps, Var, Const, If, Prim, Call, Let, Last, More}
use Rattle.gl_logic.specs.TermOf.{term_of, terms_of, exps_of}
use Rattle.gl_logic.specs.PrimCode.{prim_number}
use Rattle.gl_logic.specs.declared.prim.Primitive.{Primitive}
use Rattle.gl_logic.specs.declared.prim.Primitive.TheVariants as prim
use Rattle.gl_logic.specs.declared.term.Term.{Term}
use Rattle.gl_logic.specs.declared.term.Term.TheViews as views
use Rattle.gl_logic.specs.declared.term.Term.TheOpen as open_term
use Rattle.gl_logic.proofs.TermForms.{if_term, prim_term, call_term}
use Rattle.gl_logic.specs.declared.ids.FnId.{FnId}
use Rattle.gl_logic.specs.TermOf.{step}
use Rattle.gl_logic.proofs.Optional.{none_some, some_same}
use Rattle.shape_spec.specs.ShapeSeen.{ShapeSeen}
use Rattle.coverage.specs.Subjects.{car_of, behind, element_of}
use Rattle.coverage.specs.Covered.{is_covered}
use Rattle.coverage.specs.Heads.{arguments_of, only, both, subject_of}
use Rattle.coverage.specs.Parts.{has_part, any_part, list_of, Adds, AreParts}
use Rattle.coverage.specs.Places.{argument_in, one_behind, place_of, by_car, index_below, behind_index, by_nth, first_of_both, element_in, is_place, is_element}
use Rattle.coverage.specs.Dealt.{terms_in, parts_in}
use Rattle.coverage.specs.declared.forms.Head.TheVariants as head
use Rattle.coverage.specs.declared.subject.Subject.{Subject}
use Rattle.coverage.specs.declared.subject.Subject as subject
use Rattle.coverage.proofs.Logic.{never, or_either, or_first, or_second}
use Rattle.coverage.proofs.Placed.{Weighs, weighs_variable, weighs_car, weighs_len, weighs_behind, weighs_element, same_by_element, same_by_car}
use Rattle.coverage.proofs.Divided.{adds_nothing, adds_both, adds_fewer, adds_one, one_dealt}

-- ---- arguments
argument_by : (b : Bool) (ts : Exps) (q p : Primitive) → eqb (prim_number q) (prim_number p) ≡ b → only (cond b (Some ts) None) ≡ argument_in p (Prim q ts)
argument_by true Last q p e = refl
argument_by true (More a Last) q p e = ap (λ c. cond c (Some a) None) (sym e)
argument_by true (More a (More b ts)) q p e = refl
argument_by false Last q p e = refl
argument_by false (More a Last) q p e = ap (λ c. cond c (Some a) None) (sym e)
argument_by false (More a (More b ts)) q p e = refl

pub argument_same : (p : Primitive) (t : Exp) → only (arguments_of (head.Primitive p) t) ≡ argument_in p t
argument_same p (Prim q ts) =
    argument_by (eqb (prim_number q) (prim_number p)) ts q p refl
argument_same p (Var v) = refl
argument_same p (Const x) = refl
argument_same p (If a b d) = refl
argument_same p (Call g ts) = refl
argument_same p (Let vs ts b) = refl

-- ---- places
abbrev pub moved : ℕ → Option ℕ → Option ℕ
moved k o = option_map (λ i. i + k) o

pub moved_none : (k : ℕ) (o : Option ℕ) → k ≡ 0 → moved k o ≡ o
moved_none k (Some i) e = ap Some (omega (arith, e))
moved_none k None e = refl

moved_on : (k m : ℕ) (o : Option ℕ) → m ≡ k + 1 → moved k (option_map suc o) ≡ moved m o
moved_on k m (Some i) e = ap Some (omega (arith, e))
moved_on k m None e = refl

pub place_here : (n k : ℕ) (S : Exp → Bool) (t : Exp) (w : Option ℕ) → 0 < n → true ≡ S t → moved k (place_of n S t) ≡ w → Some k ≡ w
place_here zero k S t w l h e = absurd (omega (arith, l))
place_here (suc m) k S t w l h e =
    let z : k ≡ 0 + k = omega arith in
    ap Some z ∙ ((λ i. moved k (cond (h i) (Some 0) (one_behind (place_of m S) (argument_in prim.Cdr t)))) ∙ e)

pub place_next : (n k m : ℕ) (S : Exp → Bool) (t u : Exp) (w : Option ℕ) → 0 < n → m ≡ k + 1 → false ≡ S t → Some u ≡ argument_in prim.Cdr t → moved k (place_of n S t) ≡ w → moved m (place_of (n - 1) S u) ≡ w
place_next zero k m S t u w l e h a q = absurd (omega (arith, l))
place_next (suc n) k m S t u w l e h a q =
    let z : suc n - 1 ≡ n = omega arith in
    ap (λ j. moved m (place_of j S u)) z
    ∙ (sym (moved_on k m (place_of n S u) e) ∙ ((λ i. moved k (cond (h i) (Some 0) (one_behind (place_of n S) (a i)))) ∙ q))

pub place_stop : (n k : ℕ) (S : Exp → Bool) (t : Exp) (w : Option ℕ) → 0 < n → false ≡ S t → None ≡ argument_in prim.Cdr t → moved k (place_of n S t) ≡ w → None ≡ w
place_stop zero k S t w l h a e = absurd (omega (arith, l))
place_stop (suc n) k S t w l h a e = (λ i. moved k (cond (h i) (Some 0) (one_behind (place_of n S) (a i)))) ∙ e

pub place_end : (n k : ℕ) (S : Exp → Bool) (t : Exp) (w : Option ℕ) → (0 < n → ⊥) → moved k (place_of n S t) ≡ w → None ≡ w
place_end zero k S t w l e = e
place_end (suc n) k S t w l e = absurd (l (omega arith))

-- ---- elements
first_alone : (o : Option ℕ) → o ≡ first_of_both o None
first_alone (Some i) = refl
first_alone None = refl

pub element_by_car : (n : ℕ) (S : Exp → Bool) (t u : Exp) → Some u ≡ argument_in prim.Car t → place_of n S u ≡ element_in n S t
element_by_car n S (Prim q ts) u h = first_alone (place_of n S u) ∙ ap (λ o. first_of_both (by_car n S o) None) h
element_by_car n S (Var v) u h = none_some u (sym h)
element_by_car n S (Const x) u h = none_some u (sym h)
element_by_car n S (If a b d) u h = none_some u (sym h)
element_by_car n S (Call g ts) u h = none_some u (sym h)
element_by_car n S (Let vs ts b) u h = none_some u (sym h)

pub element_not_by_car : (n : ℕ) (S : Exp → Bool) (t : Exp) → None ≡ argument_in prim.Car t → by_nth n S t ≡ element_in n S t
element_not_by_car n S t h = ap (λ o. first_of_both (by_car n S o) (by_nth n S t)) h

picked : (n : ℕ) (S : Exp → Bool) (b : Bool) (ts : Exps) (g : ℕ) (k u : Exp) → eqb g 28 ≡ b → Some (k, u) ≡ both (cond b (Some ts) None) → behind_index n S (index_below n k) u ≡ by_nth n S (Call g ts)
picked n S false ts g k u e h = none_some (k, u) (sym h)
picked n S true Last g k u e h = none_some (k, u) (sym h)
picked n S true (More a Last) g k u e h = none_some (k, u) (sym h)
picked n S true (More a (More b Last)) g k u e h =
    let p : (k, u) ≡ (a, b) = some_same (k, u) (a, b) h in
    (λ i. behind_index n S (index_below n (p i).0) (p i).1) ∙ ap (λ c. cond c (behind_index n S (index_below n a) b) None) (sym e)
picked n S true (More a (More b (More d ts))) g k u e h = none_some (k, u) (sym h)

pub element_by_nth : (n : ℕ) (S : Exp → Bool) (t k u : Exp) → Some (k, u) ≡ both (arguments_of (head.Ground 28) t) → behind_index n S (index_below n k) u ≡ by_nth n S t
element_by_nth n S (Call g ts) k u h = picked n S (eqb g 28) ts g k u refl h
element_by_nth n S (Var v) k u h = none_some (k, u) (sym h)
element_by_nth n S (Const x) k u h = none_some (k, u) (sym h)
element_by_nth n S (If a b d) k u h = none_some (k, u) (sym h)
element_by_nth n S (Prim q ts) k u h = none_some (k, u) (sym h)
element_by_nth n S (Let vs ts b) k u h = none_some (k, u) (sym h)

unpicked : (n : ℕ) (S : Exp → Bool) (b : Bool) (ts : Exps) (g : ℕ) → eqb g 28 ≡ b → None ≡ both (cond b (Some ts) None) → None ≡ by_nth n S (Call g ts)
unpicked n S b Last g e h = refl
unpicked n S b (More k Last) g e h = refl
unpicked n S false (More k (More s Last)) g e h = ap (λ c. cond c (behind_index n S (index_below n k) s) None) (sym e)
unpicked n S true (More k (More s Last)) g e h = none_some (k, s) h
unpicked n S b (More k (More s (More d ts))) g e h = refl

pub no_element_by_nth : (n : ℕ) (S : Exp → Bool) (t : Exp) → None ≡ both (arguments_of (head.Ground 28) t) → None ≡ by_nth n S t
no_element_by_nth n S (Call g ts) h = unpicked n S (eqb g 28) ts g refl h
no_element_by_nth n S (Var v) h = refl
no_element_by_nth n S (Const x) h = refl
no_element_by_nth n S (If a b d) h = refl
no_element_by_nth n S (Prim q ts) h = refl
no_element_by_nth n S (Let vs ts b) h = refl

-- ---- parts of terms
module _ (n : ℕ) (S : Exp → Bool) (t : Exp) where
  abbrev stands : Exp → ℕ → Bool
  stands p j = has_part (is_element n S j) p

  abbrev any_stands : Exps → ℕ → Bool
  any_stands ps j = any_part (is_element n S j) ps

  pub if_dealt : (a b d : Exp) (w x y z : List (List Exp)) → Adds (stands a) t w x → Adds (stands b) t x y → Adds (stands d) t y z → Adds (stands (If a b d)) t w z
  if_dealt a b d w x y z f g h =
      adds_fewer (λ j. stands a j || (stands b j || stands d j)) (stands (If a b d)) t w z (λ j k. k) (adds_both (stands a) (λ j. stands b j || stands d j) t w x z f (adds_both (stands b) (stands d) t x y z g h))

  pub prim_dealt : (q : Primitive) (ps : Exps) (w x y : List (List Exp)) → Adds (λ j. is_place j (element_in n S (Prim q ps))) t w x → Adds (any_stands ps) t x y → Adds (stands (Prim q ps)) t w y
  prim_dealt q ps w x y f g = adds_both (λ j. is_place j (element_in n S (Prim q ps))) (any_stands ps) t w x y f g

  pub call_dealt : (q : ℕ) (ps : Exps) (w x y : List (List Exp)) → Adds (λ j. is_place j (element_in n S (Call q ps))) t w x → Adds (any_stands ps) t x y → Adds (stands (Call q ps)) t w y
  call_dealt q ps w x y f g = adds_both (λ j. is_place j (element_in n S (Call q ps))) (any_stands ps) t w x y f g

-- ---- subjects
weight : Subject → ℕ
weight (subject.Variable v) = 0
weight (subject.Behind' i p s) = i + weight s
weight (subject.First' p s) = suc (weight s)
weight (subject.Element' i p s) = suc (i + weight s)
weight (subject.Length' p s) = suc (weight s)

weighs_subject : (s : Subject) → Weighs (subject_of s) (weight s)
unfolding weight
weighs_subject (subject.Variable v) = weighs_variable v.number
weighs_subject (subject.Behind' i p s) = weighs_behind (subject_of s) (weight s) (weighs_subject s) i
weighs_subject (subject.First' p s) = weighs_car (subject_of s) (weight s) (weighs_subject s)
weighs_subject (subject.Element' i p s) = weighs_element (subject_of s) (weight s) (weighs_subject s) i
weighs_subject (subject.Length' p s) = weighs_len (subject_of s) (weight s) (weighs_subject s)

module _ (s : Subject) (n : ℕ) (said : List Exp) (lists : List (List Exp)) (p : AreParts n (subject_of s) said lists) (j : ℕ) (l : j < n) where
  pub dealt_element : (i m : ℕ) (shape : ShapeSeen) → i + m ≡ j → is_covered (list_of lists j) (element_of m (behind i (subject_of s))) shape ≡ is_covered said (element_of m (behind i (subject_of s))) shape
  dealt_element i m shape e = same_by_element (subject_of s) (weight s) (weighs_subject s) n said (list_of lists j) j (p.kept j l) (p.of_said j) i m shape e l

  pub dealt_car : (shape : ShapeSeen) → is_covered (list_of lists j) (car_of (behind j (subject_of s))) shape ≡ is_covered said (car_of (behind j (subject_of s))) shape
  dealt_car shape = same_by_car (subject_of s) (weight s) (weighs_subject s) n said (list_of lists j) j (p.kept j l) (p.of_said j) shape l

-- ---- lists that the code keeps
get_any : {A : Type 0} (xs : List A) (i : ℕ) (d e : A) → i < length xs → get_or xs i d ≡ get_or xs i e
get_any [] i d e h = absurd (omega (arith, h))
get_any (x ∷ xs) zero d e h = refl
get_any (x ∷ xs) (suc i) d e h = get_any xs i d e (omega (arith, h))

pub part_at : (parts : List (Vec (Bor Term) Global)) (j : ℕ) (v : Vec (Bor Term) Global) → j < length parts → v ≡ get_or parts j v → terms_in v.items ≡ list_of (parts_in parts) j
part_at parts j v h e =
    ap (λ (u : Vec (Bor Term) Global). terms_in u.items) e
    ∙ (sym (get_or-map (λ (u : Vec (Bor Term) Global). terms_in u.items) parts j v (terms_in v.items) h)
    ∙ get_any (parts_in parts) j (terms_in v.items) [] (omega (arith, h, length-map parts (λ (u : Vec (Bor Term) Global). terms_in u.items))))

pub on_ok_mapped : {A E : Type 0} {P Q : Type 0} → (r : Result A E) → (P → Q) → OnOk r P → OnOk r Q
on_ok_mapped (Ok a) f h = f h
on_ok_mapped (Err e) f h = tt

module _ (n : ℕ) (S : Exp → Bool) (t : Exp) where
  same_hits : (p q : Exp) (a b : List (List Exp)) → p ≡ q → Adds (stands n S t p) t a b → Adds (stands n S t q) t a b
  same_hits p q a b e f = subst (λ u. Adds (stands n S t u) t a b) e f

  pub if_found : (p : Term) (a b d : Box Term Global) (x y z : Term) (l0 l1 l2 l3 : List (List Exp)) → p ≡ views.If a b d → x ≡ a.value → y ≡ b.value → z ≡ d.value
      → Adds (stands n S t (term_of x)) t l0 l1 → Adds (stands n S t (term_of y)) t l1 l2 → Adds (stands n S t (term_of z)) t l2 l3 → Adds (stands n S t (term_of p)) t l0 l3
  if_found p a b d x y z l0 l1 l2 l3 e ea eb ed f g h =
      same_hits (If (term_of a.value) (term_of b.value) (term_of d.value)) (term_of p) l0 l3 (sym (ap term_of e ∙ if_term a b d))
      (if_dealt n S t (term_of a.value) (term_of b.value) (term_of d.value) l0 l1 l2 l3
      (same_hits (term_of x) (term_of a.value) l0 l1 (ap term_of ea) f) (same_hits (term_of y) (term_of b.value) l1 l2 (ap term_of eb) g) (same_hits (term_of z) (term_of d.value) l2 l3 (ap term_of ed) h))

  pub prim_found : (p : Term) (q : Primitive) (ts : Vec Term Global) (us : List Term) (o : Option ℕ) (l0 l1 l2 : List (List Exp)) → p ≡ views.Prim q ts → us ≡ ts.items → o ≡ element_in n S (term_of p)
      → Adds (λ j. is_place j o) t l0 l1 → Adds (any_stands n S t (terms_of us)) t l1 l2 → Adds (stands n S t (term_of p)) t l0 l2
  prim_found p q ts us o l0 l1 l2 e eu eo f g =
      let is : term_of p ≡ Prim q (terms_of ts.items) = ap term_of e ∙ prim_term q ts in
      same_hits (Prim q (terms_of ts.items)) (term_of p) l0 l2 (sym is)
      (prim_dealt n S t q (terms_of ts.items) l0 l1 l2
      (subst (λ w. Adds (λ j. is_place j w) t l0 l1) (eo ∙ ap (element_in n S) is) f) (subst (λ vs. Adds (any_stands n S t (terms_of vs)) t l1 l2) eu g))

  pub call_found : (p : Term) (q : FnId) (ts : Vec Term Global) (us : List Term) (o : Option ℕ) (l0 l1 l2 : List (List Exp)) → p ≡ views.Call q ts → us ≡ ts.items → o ≡ element_in n S (term_of p)
      → Adds (λ j. is_place j o) t l0 l1 → Adds (any_stands n S t (terms_of us)) t l1 l2 → Adds (stands n S t (term_of p)) t l0 l2
  call_found p q ts us o l0 l1 l2 e eu eo f g =
      let is : term_of p ≡ Call q.number (terms_of ts.items) = ap term_of e ∙ call_term q ts in
      same_hits (Call q.number (terms_of ts.items)) (term_of p) l0 l2 (sym is)
      (call_dealt n S t q.number (terms_of ts.items) l0 l1 l2
      (subst (λ w. Adds (λ j. is_place j w) t l0 l1) (eo ∙ ap (element_in n S) is) f) (subst (λ vs. Adds (any_stands n S t (terms_of vs)) t l1 l2) eu g))

  -- ---- one argument after another
  last_part : (T : Exp → Bool) (xs : List Exp) (x : Exp) → any_part T (exps_of (xs ++ x ∷ [])) ≡ true → (any_part T (exps_of xs) || has_part T x) ≡ true
  last_part T [] x h = elim (or_either (has_part T x) false h) [ inl k ↦ k | inr k ↦ never k ]
  last_part T (y ∷ xs) x h = elim (or_either (has_part T y) (any_part T (exps_of (xs ++ x ∷ []))) h) [
    | inl k ↦ or_first (has_part T y || any_part T (exps_of xs)) (has_part T x) (or_first (has_part T y) (any_part T (exps_of xs)) k)
    | inr k ↦ elim (or_either (any_part T (exps_of xs)) (has_part T x) (last_part T xs x k)) [
      | inl m ↦ or_first (has_part T y || any_part T (exps_of xs)) (has_part T x) (or_second (has_part T y) (any_part T (exps_of xs)) m)
      | inr m ↦ or_second (has_part T y || any_part T (exps_of xs)) (has_part T x) m
    ]
  ]

  pub none_dealt : (ts : List Term) (a : List (List Exp)) → Adds (any_stands n S t (terms_of (take 0 ts))) t a a
  none_dealt ts a = adds_nothing (any_stands n S t (terms_of (take 0 ts))) t a (λ j. refl)

  pub more_dealt : (ts : List Term) (i : ℕ) (p : Term) (a b c : List (List Exp)) → i < length ts → p ≡ get_or ts i p → Adds (any_stands n S t (terms_of (take i ts))) t a b → Adds (stands n S t (term_of p)) t b c → Adds (any_stands n S t (terms_of (take (i + 1) ts))) t a c
  more_dealt ts i p a b c h at f g =
      let e : map term_of (take (i + 1) ts) ≡ map term_of (take i ts) ++ term_of p ∷ [] = ap (map term_of) (take_more ts i p h ∙ ap (λ u. take i ts ++ u ∷ []) (sym at)) ∙ map-append term_of (take i ts) (p ∷ []) in
      adds_fewer (λ j. any_stands n S t (terms_of (take i ts)) j || stands n S t (term_of p) j) (any_stands n S t (terms_of (take (i + 1) ts))) t a c
      (λ j k. last_part (is_element n S j) (map term_of (take i ts)) (term_of p) (ap (λ us. any_part (is_element n S j) (exps_of us)) (sym e) ∙ k))
      (adds_both (any_stands n S t (terms_of (take i ts))) (stands n S t (term_of p)) t a b c f g)

-- ---- a conjunct put last in a list that the code keeps
pub put_last : (t : Bor Term) (a b : List (Vec (Bor Term) Global)) (v : Vec (Bor Term) Global) (i : ℕ) (o : Option ℕ) → o ≡ Some i → i < length a → b ≡ set a i v → terms_in v.items ≡ list_of (parts_in a) i ++ term_of t.now ∷ []
    → Adds (λ j. is_place j o) (term_of t.now) (parts_in a) (parts_in b)
put_last t a b v i o e h s w =
    let f : Vec (Bor Term) Global → List Exp = λ l. terms_in l.items in
    let q : parts_in b ≡ set (parts_in a) i (list_of (parts_in a) i ++ term_of t.now ∷ []) = ap parts_in s ∙ (map-set f a i v ∙ ap (set (parts_in a) i) w) in
    subst (λ p. Adds (λ j. is_place j p) (term_of t.now) (parts_in a) (parts_in b)) (sym e) (adds_one i (term_of t.now) (parts_in a) (parts_in b) (omega (arith, h, length-map a f)) q)

-- ---- what is said of an element, by the list that the code keeps for it
module _ (s : Subject) (n : ℕ) (said : List Exp) (parts : List (Vec (Bor Term) Global)) (p : AreParts n (subject_of s) said (parts_in parts)) (j : ℕ) (l : j < n) (v : Vec (Bor Term) Global) (us : List (Bor Term)) (at : v ≡ get_or parts j v) (is : us ≡ v.items) where
  same_list : terms_in us ≡ list_of (parts_in parts) j
  same_list = ap terms_in is ∙ part_at parts j v (omega (arith, l, p.count, length-map parts (λ (u : Vec (Bor Term) Global). terms_in u.items))) at

  pub car_dealt : (shape : ShapeSeen) → is_covered (terms_in us) (car_of (behind j (subject_of s))) shape ≡ is_covered said (car_of (behind j (subject_of s))) shape
  car_dealt shape = ap (λ ts. is_covered ts (car_of (behind j (subject_of s))) shape) same_list ∙ dealt_car s n said (parts_in parts) p j l shape

  pub element_dealt : (i m : ℕ) (shape : ShapeSeen) → i + m ≡ j → is_covered (terms_in us) (element_of m (behind i (subject_of s))) shape ≡ is_covered said (element_of m (behind i (subject_of s))) shape
  element_dealt i m shape e = ap (λ ts. is_covered ts (element_of m (behind i (subject_of s))) shape) same_list ∙ dealt_element s n said (parts_in parts) p j l i m shape e

pub pushed : (xs new : List (Bor Term)) (y : Bor Term) → new ≡ xs ++ y ∷ [] → terms_in new ≡ terms_in xs ++ term_of y.now ∷ []
pushed xs new y e = ap terms_in e ∙ map-append (λ (t : Bor Term). term_of t.now) xs (y ∷ [])

pub dealt_more : (n : ℕ) (S : Exp → Bool) (xs : List (Bor Term)) (i : ℕ) (x : Bor Term) (lists new : List (List Exp)) → i < length xs → x ≡ get_or xs i x → AreParts n S (terms_in (take i xs)) lists → Adds (stands n S (term_of x.now) (term_of x.now)) (term_of x.now) lists new
    → AreParts n S (terms_in (take (i + 1) xs)) new
dealt_more n S xs i x lists new h at p f =
    let e : terms_in (take (i + 1) xs) ≡ terms_in (take i xs) ++ term_of x.now ∷ [] = pushed (take i xs) (take (i + 1) xs) x (take_more xs i x h ∙ ap (λ u. take i xs ++ u ∷ []) (sym at)) in
    subst (λ us. AreParts n S us new) (sym e) (one_dealt n S (terms_in (take i xs)) (term_of x.now) lists new p f)

pub the_same_parts : (n m : ℕ) (S : Exp → Bool) (said : List Exp) (us vs : List (Vec (Bor Term) Global)) → n ≡ m → us ≡ vs → AreParts n S said (parts_in vs) → AreParts m S said (parts_in us)
the_same_parts n m S said us vs e f p = subst (λ k. AreParts k S said (parts_in us)) e (subst (λ ws. AreParts n S said (parts_in ws)) (sym f) p)
