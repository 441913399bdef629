-- What the program keeps at a place is what the facts there show.
use Rattle.std.proofs.Common.{◌≡◌, ◌∙◌, ap, sym, refl, inl, inr, ℕ, List, [], ◌∷◌, ◌++◌, Bool, true, false, not, ◌&&◌, ◌||◌, cond, eqb, Option, Some, None, if◌then◌else◌, arith}
use Rattle.std.specs.List.{list_any}
use Rattle.std.proofs.lemmas.Bool.{and_parts, or_parts, or_cases, cases_Bool}
use Rattle.std.proofs.lemmas.List.Folds.{list_any-append}
use Rattle.gl_logic.specs.Exp.{Exp, Exps, Var, Const, If, Prim, Call, Let, Last, More}
use Rattle.gl_logic.specs.PrimCode.{prim_number}
use Rattle.gl_logic.specs.FreeVariables.{is_free_in}
use Rattle.gl_logic.specs.Definition.{MeasureParts, One, Two, measure_parts}
use Rattle.gl_logic.specs.RecursiveCalls.{Fact, Governed, exp_eq, is_nil_term, noted, noted_not, mentions, unbound}
use Rattle.gl_logic.specs.Steps.{on_variable, with_zero, zero_term, less_term, zp_gap, is_true, is_false, tells_cons, tells_positive, tells_nonzero, tells_integer, integerp_of, natp_of, consp_of, atom_of, endp_of, zp_of, posp_of, same_zero, eql_zero, equal_zero, actual_of, row_at, gap_at, count_row, len_row, nat_row, stays_row, gap_row, gap_stays_row, is_unbound, natural_steps, natural_stays, parts_step, measure_steps}
use Rattle.gl_logic.specs.declared.prim.Primitive.{Primitive}
use Rattle.gl_logic.specs.declared.prim.Primitive.TheVariants as prim
use Rattle.gl_logic.specs.declared.def.Natural.{Natural}
use Rattle.gl_logic.specs.declared.def.Natural.TheVariants as natural
use Rattle.gl_logic.specs.declared.def.Measure.{Measure}
use Rattle.gl_logic.proofs.Facts.{exp_eq_is}
use Rattle.admission.specs.declared.part.Part.{Part}
use Rattle.admission.specs.declared.part.Part.TheVariants as part
use Rattle.admission.specs.WhatIsKnown.{known_of, gap_known_of}
use Rattle.admission.specs.Parts.{is_bound, part_of, part_with_fact, part_noted, part_noted_not, part_below, part_steps, part_stays, of_actual, of_actuals}
use Rattle.admission.specs.declared.caller.Caller.TheVariants as caller
use Rattle.admission.specs.Callers.{caller_by, caller_of, caller_noted, caller_below, steps_by, caller_steps}

choose : {A B : Type 0} (f : A → B) (b : Bool) (x y : A) → f (if b then x else y) ≡ (if b then f x else f y)
choose f true x y = refl
choose f false x y = refl

-- ---- one fact more
pub with_fact_is : (m : Natural) (bound : List ℕ) (fs : List Fact) (f : Fact) → part_with_fact f (part_of m bound fs) ≡ part_of m bound (f ∷ fs)
with_fact_is (natural.Count v) bound fs f = choose (part_with_fact f) (is_bound bound v.number) part.Hidden (part.Count v (known_of v.number fs))
with_fact_is (natural.Len v) bound fs f = choose (part_with_fact f) (is_bound bound v.number) part.Hidden (part.Len v (known_of v.number fs))
with_fact_is (natural.Nat v) bound fs f = choose (part_with_fact f) (is_bound bound v.number) part.Hidden (part.Nat v (known_of v.number fs))
with_fact_is (natural.Gap a b) bound fs f = choose (part_with_fact f) (is_bound bound a.number || is_bound bound b.number) part.Hidden (part.Gap a b (gap_known_of a.number b.number fs))

-- ---- what a test says
module _ (m : Natural) (bound : List ℕ) where
  picked : (x : Bool) (p q : Part) (fs gs : List Fact) → p ≡ part_of m bound fs → q ≡ part_of m bound gs → elim x as (λ _. Part) [ true ↦ p | false ↦ q ] ≡ part_of m bound (elim x as (λ _. List Fact) [ true ↦ fs | false ↦ gs ])
  picked true p q fs gs h g = h
  picked false p q fs gs h g = g

  mutual
    pub noted_is : (t : Exp) (v : Bool) (fs : List Fact) → part_noted t v (part_of m bound fs) ≡ part_of m bound (noted t v fs)
    noted_is (If a b c) true fs = picked (is_nil_term c) _ _ (noted a true (noted b true fs)) ((If a b c, true) ∷ fs) (ap (part_noted a true) (noted_is b true fs) ∙ noted_is a true (noted b true fs)) (with_fact_is m bound fs (If a b c, true))
    noted_is (If a b c) false fs = picked (exp_eq a b) _ _ (noted a false (noted c false fs)) ((If a b c, false) ∷ fs) (ap (part_noted a false) (noted_is c false fs) ∙ noted_is a false (noted c false fs)) (with_fact_is m bound fs (If a b c, false))
    noted_is (Prim p ts) v fs = picked (eqb (prim_number p) 9) _ _ (noted_not ts v fs) ((Prim p ts, v) ∷ fs) (noted_not_is ts v fs) (with_fact_is m bound fs (Prim p ts, v))
    noted_is (Var x) v fs = with_fact_is m bound fs (Var x, v)
    noted_is (Const x) v fs = with_fact_is m bound fs (Const x, v)
    noted_is (Call f ts) v fs = with_fact_is m bound fs (Call f ts, v)
    noted_is (Let vs ts b) v fs = with_fact_is m bound fs (Let vs ts b, v)

    pub noted_not_is : (ts : Exps) (v : Bool) (fs : List Fact) → part_noted_not ts v (part_of m bound fs) ≡ part_of m bound (noted_not ts v fs)
    noted_not_is Last v fs = refl
    noted_not_is (More a ts) v fs = noted_is a (not v) fs

-- ---- below a let
-- a fact that meets the test stays there
abbrev Stays : List ℕ → (Fact → Bool) → Type 0
Stays vs test = (f : Fact) → test f ≡ true → mentions vs f.0 ≡ false

dropped_at : (b : Bool) (test : Fact → Bool) (f : Fact) (fs gs : List Fact) → (test f ≡ true → b ≡ false) → list_any test gs ≡ list_any test fs → list_any test (cond (not b) (f ∷ gs) gs) ≡ list_any test (f ∷ fs)
dropped_at false test f fs gs h e = ap (λ (x : Bool). test f || x) e
dropped_at true test f fs gs h e = elim (cases_Bool (test f)) [
  | inl t ↦ let q = h t in absurd cc
  | inr n ↦ e ∙ sym (ap (λ (x : Bool). x || list_any test fs) n)
]

stays : (vs : List ℕ) (test : Fact → Bool) → Stays vs test → (fs : List Fact) → list_any test (unbound vs fs) ≡ list_any test fs
stays vs test h [] = refl
stays vs test h (f ∷ fs) = dropped_at (mentions vs f.0) test f fs (unbound vs fs) (h f) (stays vs test h fs)

-- a term that is about one variable, or about two
none_of : (P : ℕ → Bool) (vs : List ℕ) (t : Exp) → ((u : ℕ) → P u ≡ false → is_free_in t u ≡ false) → list_any P vs ≡ false → mentions vs t ≡ false
none_of P [] t h k = refl
none_of P (u ∷ vs) t h k = let p = or_parts (P u) (list_any P vs) k in λ i. h u p.0 i || none_of P vs t h p.1 i

turned : (a b : ℕ) → eqb a b ≡ eqb b a
turned a b = grind arith

any_turned : (v : ℕ) (vs : List ℕ) → list_any (λ u. eqb u v) vs ≡ list_any (eqb v) vs
any_turned v [] = refl
any_turned v (u ∷ vs) = λ i. turned u v i || any_turned v vs i

pub turned_any : (v : ℕ) (vs : List ℕ) → list_any (eqb v) vs ≡ is_bound vs v
turned_any v vs = sym (any_turned v vs)

either_none : (P Q : ℕ → Bool) (vs : List ℕ) → list_any P vs ≡ false → list_any Q vs ≡ false → list_any (λ u. P u || Q u) vs ≡ false
either_none P Q [] h g = refl
either_none P Q (u ∷ vs) h g = let p = or_parts (P u) (list_any P vs) h in let q = or_parts (Q u) (list_any Q vs) g in λ i. (p.0 i || q.0 i) || either_none P Q vs p.1 q.1 i

module _ (vs : List ℕ) where
  stays_true : (t : Exp) → mentions vs t ≡ false → Stays vs (is_true t)
  stays_true t k f h = ap (mentions vs) (sym (exp_eq_is t f.0 (and_parts (exp_eq t f.0) f.1 h).0)) ∙ k

  stays_false : (t : Exp) → mentions vs t ≡ false → Stays vs (is_false t)
  stays_false t k f h = ap (mentions vs) (sym (exp_eq_is t f.0 (and_parts (exp_eq t f.0) (not f.1) h).0)) ∙ k

  stays_or : (p q : Fact → Bool) → Stays vs p → Stays vs q → Stays vs (λ f. p f || q f)
  stays_or p q h g f k = elim (or_cases (p f) (q f) k) [ inl a ↦ h f a | inr b ↦ g f b ]

  module _ (v : ℕ) (free : is_bound vs v ≡ false) where
    none : list_any (eqb v) vs ≡ false
    none = turned_any v vs ∙ free

    prim_alone : (p : Primitive) → mentions vs (on_variable (Prim p) v) ≡ false
    prim_alone p = none_of (eqb v) vs (on_variable (Prim p) v) (λ u k i. k i || false) none

    call_alone : (f : ℕ) → mentions vs (on_variable (Call f) v) ≡ false
    call_alone f = none_of (eqb v) vs (on_variable (Call f) v) (λ u k i. k i || false) none

    call_zero : (f : ℕ) → mentions vs (with_zero (Call f) v) ≡ false
    call_zero f = none_of (eqb v) vs (with_zero (Call f) v) (λ u k i. k i || false) none

    prim_zero : (p : Primitive) → mentions vs (with_zero (Prim p) v) ≡ false
    prim_zero p = none_of (eqb v) vs (with_zero (Prim p) v) (λ u k i. k i || false) none

    above : mentions vs (less_term zero_term (Var v)) ≡ false
    above = none_of (eqb v) vs (less_term zero_term (Var v)) (λ u k i. k i || false) none

    integer_stays : Stays vs (tells_integer v)
    integer_stays = stays_or _ _ (stays_true (integerp_of v) (prim_alone prim.Integerp)) (stays_or _ _ (stays_true (natp_of v) (call_alone 9)) (stays_true (posp_of v) (call_alone 10)))

    pub known_stays : (fs : List Fact) → known_of v (unbound vs fs) ≡ known_of v fs
    known_stays fs =
        let c = stays vs (tells_cons v) (stays_or _ _ (stays_true (consp_of v) (prim_alone prim.Consp)) (stays_or _ _ (stays_false (atom_of v) (call_alone 0)) (stays_false (endp_of v) (call_alone 1)))) fs in
        let p = stays vs (tells_positive v) (stays_or _ _ (stays_false (zp_of v) (call_alone 7)) (stays_true (posp_of v) (call_alone 10))) fs in
        let i = stays vs (is_true (integerp_of v)) (stays_true (integerp_of v) (prim_alone prim.Integerp)) fs in
        let a = stays vs (is_true (less_term zero_term (Var v))) (stays_true (less_term zero_term (Var v)) above) fs in
        let n = stays vs (is_true (natp_of v)) (stays_true (natp_of v) (call_alone 9)) fs in
        let z = stays vs (tells_nonzero v) (stays_or _ _ (stays_false (same_zero v) (call_zero 5)) (stays_or _ _ (stays_false (eql_zero v) (call_zero 4)) (stays_false (equal_zero v) (prim_zero prim.Equal)))) fs in
        λ j. record { cons = c j; positive = p j; integerp = i j; above_zero = a j; natp = n j; nonzero = z j }

  module _ (a b : ℕ) (free : is_bound vs a ≡ false) (free' : is_bound vs b ≡ false) where
    neither : list_any (λ u. eqb a u || eqb b u) vs ≡ false
    neither = either_none (eqb a) (eqb b) vs (turned_any a vs ∙ free) (turned_any b vs ∙ free')

    below_two : mentions vs (less_term (Var a) (Var b)) ≡ false
    below_two = none_of (λ u. eqb a u || eqb b u) vs (less_term (Var a) (Var b)) (λ u k. let p = or_parts (eqb a u) (eqb b u) k in λ i. p.0 i || (p.1 i || false)) neither

    gap_two : mentions vs (zp_gap a b) ≡ false
    gap_two = none_of (λ u. eqb a u || eqb b u) vs (zp_gap a b) (λ u k. let p = or_parts (eqb a u) (eqb b u) k in λ i. (p.1 i || ((p.0 i || false) || false)) || false) neither

    pub gap_stays_known : (fs : List Fact) → gap_known_of a b (unbound vs fs) ≡ gap_known_of a b fs
    gap_stays_known fs =
        let p = stays vs (is_false (zp_gap a b)) (stays_false (zp_gap a b) gap_two) fs in
        let x = stays vs (tells_integer a) (integer_stays a free) fs in
        let y = stays vs (tells_integer b) (integer_stays b free') fs in
        let l = stays vs (is_true (less_term (Var a) (Var b))) (stays_true (less_term (Var a) (Var b)) below_two) fs in
        λ j. record { positive = p j; first_integer = x j; second_integer = y j; below = l j }

below_by : (b c : Bool) (x y : Part) → (c ≡ false → x ≡ y) → (if b then part.Hidden else (if c then part.Hidden else x)) ≡ (if (c || b) then part.Hidden else y)
below_by true true x y h = refl
below_by true false x y h = refl
below_by false true x y h = refl
below_by false false x y h = h refl

bound_append : (vs bound : List ℕ) (v : ℕ) → is_bound (vs ++ bound) v ≡ (is_bound vs v || is_bound bound v)
bound_append vs bound v = list_any-append (λ u. eqb u v) vs bound

four : (p q r s : Bool) → ((p || q) || (r || s)) ≡ ((p || r) || (q || s))
four true q r s = refl
four false true true s = refl
four false true false s = refl
four false false true s = refl
four false false false s = refl

hidden_at : (x y : Bool) (p : Part) → x ≡ y → (if x then part.Hidden else p) ≡ (if y then part.Hidden else p)
hidden_at x y p e = ap (λ (b : Bool). if b then part.Hidden else p) e

pub below_is : (m : Natural) (vs bound : List ℕ) (fs : List Fact) → part_below vs (part_of m bound fs) ≡ part_of m (vs ++ bound) (unbound vs fs)
below_is (natural.Count v) vs bound fs =
    choose (part_below vs) (is_bound bound v.number) part.Hidden (part.Count v (known_of v.number fs))
    ∙ (below_by (is_bound bound v.number) (is_bound vs v.number) (part.Count v (known_of v.number fs)) (part.Count v (known_of v.number (unbound vs fs))) (λ e. ap (part.Count v) (sym (known_stays vs v.number e fs)))
    ∙ hidden_at _ _ (part.Count v (known_of v.number (unbound vs fs))) (sym (bound_append vs bound v.number)))
below_is (natural.Len v) vs bound fs =
    choose (part_below vs) (is_bound bound v.number) part.Hidden (part.Len v (known_of v.number fs))
    ∙ (below_by (is_bound bound v.number) (is_bound vs v.number) (part.Len v (known_of v.number fs)) (part.Len v (known_of v.number (unbound vs fs))) (λ e. ap (part.Len v) (sym (known_stays vs v.number e fs)))
    ∙ hidden_at _ _ (part.Len v (known_of v.number (unbound vs fs))) (sym (bound_append vs bound v.number)))
below_is (natural.Nat v) vs bound fs =
    choose (part_below vs) (is_bound bound v.number) part.Hidden (part.Nat v (known_of v.number fs))
    ∙ (below_by (is_bound bound v.number) (is_bound vs v.number) (part.Nat v (known_of v.number fs)) (part.Nat v (known_of v.number (unbound vs fs))) (λ e. ap (part.Nat v) (sym (known_stays vs v.number e fs)))
    ∙ hidden_at _ _ (part.Nat v (known_of v.number (unbound vs fs))) (sym (bound_append vs bound v.number)))
below_is (natural.Gap a b) vs bound fs =
    let ca = is_bound vs a.number in
    let cb = is_bound vs b.number in
    let ba = is_bound bound a.number in
    let bb = is_bound bound b.number in
    choose (part_below vs) (ba || bb) part.Hidden (part.Gap a b (gap_known_of a.number b.number fs))
    ∙ (below_by (ba || bb) (ca || cb) (part.Gap a b (gap_known_of a.number b.number fs)) (part.Gap a b (gap_known_of a.number b.number (unbound vs fs))) (λ e. let p = or_parts ca cb e in ap (part.Gap a b) (sym (gap_stays_known vs a.number b.number p.0 p.1 fs)))
    ∙ hidden_at _ _ (part.Gap a b (gap_known_of a.number b.number (unbound vs fs))) (four ca cb ba bb ∙ (λ i. sym (bound_append vs bound a.number) i || sym (bound_append vs bound b.number) i)))

-- ---- steps
row_by : (b : Bool) (row : List Fact → ℕ → Exp → Bool) (c : Governed) (v : ℕ) (o : Option Exp) → is_unbound c v ≡ not b → row_at row c v o ≡ (if b then false else of_actual (row c.facts v) o)
row_by true row c v None e = refl
row_by false row c v None e = refl
row_by true row c v (Some t) e = ap (λ (x : Bool). x && row c.facts v t) e
row_by false row c v (Some t) e = ap (λ (x : Bool). x && row c.facts v t) e

gap_by : (x y : Bool) (row : List Fact → ℕ → ℕ → Exp → Exp → Bool) (c : Governed) (a b : ℕ) (o p : Option Exp) → is_unbound c a ≡ not x → is_unbound c b ≡ not y → gap_at row c a b o p ≡ (if (x || y) then false else of_actuals (row c.facts a b) o p)
gap_by true y row c a b None p e f = refl
gap_by false true row c a b None p e f = refl
gap_by false false row c a b None p e f = refl
gap_by true y row c a b (Some s) None e f = refl
gap_by false true row c a b (Some s) None e f = refl
gap_by false false row c a b (Some s) None e f = refl
gap_by true y row c a b (Some s) (Some t) e f = ap (λ (z : Bool). z && (is_unbound c b && row c.facts a b s t)) e
gap_by false true row c a b (Some s) (Some t) e f = λ i. e i && (f i && row c.facts a b s t)
gap_by false false row c a b (Some s) (Some t) e f = λ i. e i && (f i && row c.facts a b s t)

never : (f : Part → Bool) (b : Bool) (x y : Part) → f x ≡ false → f y ≡ false → false ≡ f (if b then x else y)
never f true x y h g = sym h
never f false x y h g = sym g

pub steps_is : (m k : Natural) (formals : List ℕ) (c : Governed) → natural_steps m k formals c ≡ part_steps (part_of m c.bound c.facts) k formals c.actuals
steps_is (natural.Count v) (natural.Count w) formals c = row_by (is_bound c.bound v.number) count_row c v.number (actual_of formals c.actuals w.number) refl ∙ sym (choose (λ p. part_steps p (natural.Count w) formals c.actuals) (is_bound c.bound v.number) part.Hidden (part.Count v (known_of v.number c.facts)))
steps_is (natural.Len v) (natural.Len w) formals c = row_by (is_bound c.bound v.number) len_row c v.number (actual_of formals c.actuals w.number) refl ∙ sym (choose (λ p. part_steps p (natural.Len w) formals c.actuals) (is_bound c.bound v.number) part.Hidden (part.Len v (known_of v.number c.facts)))
steps_is (natural.Nat v) (natural.Nat w) formals c = row_by (is_bound c.bound v.number) nat_row c v.number (actual_of formals c.actuals w.number) refl ∙ sym (choose (λ p. part_steps p (natural.Nat w) formals c.actuals) (is_bound c.bound v.number) part.Hidden (part.Nat v (known_of v.number c.facts)))
steps_is (natural.Gap a b) (natural.Gap x y) formals c = gap_by (is_bound c.bound a.number) (is_bound c.bound b.number) gap_row c a.number b.number (actual_of formals c.actuals x.number) (actual_of formals c.actuals y.number) refl refl ∙ sym (choose (λ p. part_steps p (natural.Gap x y) formals c.actuals) (is_bound c.bound a.number || is_bound c.bound b.number) part.Hidden (part.Gap a b (gap_known_of a.number b.number c.facts)))
steps_is (natural.Count v) (natural.Len w) formals c = never (λ p. part_steps p (natural.Len w) formals c.actuals) (is_bound c.bound v.number) part.Hidden (part.Count v (known_of v.number c.facts)) refl refl
steps_is (natural.Count v) (natural.Nat w) formals c = never (λ p. part_steps p (natural.Nat w) formals c.actuals) (is_bound c.bound v.number) part.Hidden (part.Count v (known_of v.number c.facts)) refl refl
steps_is (natural.Count v) (natural.Gap x y) formals c = never (λ p. part_steps p (natural.Gap x y) formals c.actuals) (is_bound c.bound v.number) part.Hidden (part.Count v (known_of v.number c.facts)) refl refl
steps_is (natural.Len v) (natural.Count w) formals c = never (λ p. part_steps p (natural.Count w) formals c.actuals) (is_bound c.bound v.number) part.Hidden (part.Len v (known_of v.number c.facts)) refl refl
steps_is (natural.Len v) (natural.Nat w) formals c = never (λ p. part_steps p (natural.Nat w) formals c.actuals) (is_bound c.bound v.number) part.Hidden (part.Len v (known_of v.number c.facts)) refl refl
steps_is (natural.Len v) (natural.Gap x y) formals c = never (λ p. part_steps p (natural.Gap x y) formals c.actuals) (is_bound c.bound v.number) part.Hidden (part.Len v (known_of v.number c.facts)) refl refl
steps_is (natural.Nat v) (natural.Count w) formals c = never (λ p. part_steps p (natural.Count w) formals c.actuals) (is_bound c.bound v.number) part.Hidden (part.Nat v (known_of v.number c.facts)) refl refl
steps_is (natural.Nat v) (natural.Len w) formals c = never (λ p. part_steps p (natural.Len w) formals c.actuals) (is_bound c.bound v.number) part.Hidden (part.Nat v (known_of v.number c.facts)) refl refl
steps_is (natural.Nat v) (natural.Gap x y) formals c = never (λ p. part_steps p (natural.Gap x y) formals c.actuals) (is_bound c.bound v.number) part.Hidden (part.Nat v (known_of v.number c.facts)) refl refl
steps_is (natural.Gap a b) (natural.Count w) formals c = never (λ p. part_steps p (natural.Count w) formals c.actuals) (is_bound c.bound a.number || is_bound c.bound b.number) part.Hidden (part.Gap a b (gap_known_of a.number b.number c.facts)) refl refl
steps_is (natural.Gap a b) (natural.Len w) formals c = never (λ p. part_steps p (natural.Len w) formals c.actuals) (is_bound c.bound a.number || is_bound c.bound b.number) part.Hidden (part.Gap a b (gap_known_of a.number b.number c.facts)) refl refl
steps_is (natural.Gap a b) (natural.Nat w) formals c = never (λ p. part_steps p (natural.Nat w) formals c.actuals) (is_bound c.bound a.number || is_bound c.bound b.number) part.Hidden (part.Gap a b (gap_known_of a.number b.number c.facts)) refl refl

pub stays_is : (m k : Natural) (formals : List ℕ) (c : Governed) → natural_stays m k formals c ≡ part_stays (part_of m c.bound c.facts) k formals c.actuals
stays_is (natural.Count v) (natural.Count w) formals c = row_by (is_bound c.bound v.number) stays_row c v.number (actual_of formals c.actuals w.number) refl ∙ sym (choose (λ p. part_stays p (natural.Count w) formals c.actuals) (is_bound c.bound v.number) part.Hidden (part.Count v (known_of v.number c.facts)))
stays_is (natural.Len v) (natural.Len w) formals c = row_by (is_bound c.bound v.number) stays_row c v.number (actual_of formals c.actuals w.number) refl ∙ sym (choose (λ p. part_stays p (natural.Len w) formals c.actuals) (is_bound c.bound v.number) part.Hidden (part.Len v (known_of v.number c.facts)))
stays_is (natural.Nat v) (natural.Nat w) formals c = row_by (is_bound c.bound v.number) stays_row c v.number (actual_of formals c.actuals w.number) refl ∙ sym (choose (λ p. part_stays p (natural.Nat w) formals c.actuals) (is_bound c.bound v.number) part.Hidden (part.Nat v (known_of v.number c.facts)))
stays_is (natural.Gap a b) (natural.Gap x y) formals c = gap_by (is_bound c.bound a.number) (is_bound c.bound b.number) gap_stays_row c a.number b.number (actual_of formals c.actuals x.number) (actual_of formals c.actuals y.number) refl refl ∙ sym (choose (λ p. part_stays p (natural.Gap x y) formals c.actuals) (is_bound c.bound a.number || is_bound c.bound b.number) part.Hidden (part.Gap a b (gap_known_of a.number b.number c.facts)))
stays_is (natural.Count v) (natural.Len w) formals c = never (λ p. part_stays p (natural.Len w) formals c.actuals) (is_bound c.bound v.number) part.Hidden (part.Count v (known_of v.number c.facts)) refl refl
stays_is (natural.Count v) (natural.Nat w) formals c = never (λ p. part_stays p (natural.Nat w) formals c.actuals) (is_bound c.bound v.number) part.Hidden (part.Count v (known_of v.number c.facts)) refl refl
stays_is (natural.Count v) (natural.Gap x y) formals c = never (λ p. part_stays p (natural.Gap x y) formals c.actuals) (is_bound c.bound v.number) part.Hidden (part.Count v (known_of v.number c.facts)) refl refl
stays_is (natural.Len v) (natural.Count w) formals c = never (λ p. part_stays p (natural.Count w) formals c.actuals) (is_bound c.bound v.number) part.Hidden (part.Len v (known_of v.number c.facts)) refl refl
stays_is (natural.Len v) (natural.Nat w) formals c = never (λ p. part_stays p (natural.Nat w) formals c.actuals) (is_bound c.bound v.number) part.Hidden (part.Len v (known_of v.number c.facts)) refl refl
stays_is (natural.Len v) (natural.Gap x y) formals c = never (λ p. part_stays p (natural.Gap x y) formals c.actuals) (is_bound c.bound v.number) part.Hidden (part.Len v (known_of v.number c.facts)) refl refl
stays_is (natural.Nat v) (natural.Count w) formals c = never (λ p. part_stays p (natural.Count w) formals c.actuals) (is_bound c.bound v.number) part.Hidden (part.Nat v (known_of v.number c.facts)) refl refl
stays_is (natural.Nat v) (natural.Len w) formals c = never (λ p. part_stays p (natural.Len w) formals c.actuals) (is_bound c.bound v.number) part.Hidden (part.Nat v (known_of v.number c.facts)) refl refl
stays_is (natural.Nat v) (natural.Gap x y) formals c = never (λ p. part_stays p (natural.Gap x y) formals c.actuals) (is_bound c.bound v.number) part.Hidden (part.Nat v (known_of v.number c.facts)) refl refl
stays_is (natural.Gap a b) (natural.Count w) formals c = never (λ p. part_stays p (natural.Count w) formals c.actuals) (is_bound c.bound a.number || is_bound c.bound b.number) part.Hidden (part.Gap a b (gap_known_of a.number b.number c.facts)) refl refl
stays_is (natural.Gap a b) (natural.Len w) formals c = never (λ p. part_stays p (natural.Len w) formals c.actuals) (is_bound c.bound a.number || is_bound c.bound b.number) part.Hidden (part.Gap a b (gap_known_of a.number b.number c.facts)) refl refl
stays_is (natural.Gap a b) (natural.Nat w) formals c = never (λ p. part_stays p (natural.Nat w) formals c.actuals) (is_bound c.bound a.number || is_bound c.bound b.number) part.Hidden (part.Gap a b (gap_known_of a.number b.number c.facts)) refl refl

-- ---- callers
noted_by : (m : MeasureParts) (bound : List ℕ) (t : Exp) (v : Bool) (fs : List Fact) → caller_noted t v (caller_by m bound fs) ≡ caller_by m bound (noted t v fs)
noted_by (One m) bound t v fs = ap caller.One (noted_is m bound t v fs)
noted_by (Two m k) bound t v fs = λ i. caller.Two (noted_is m bound t v fs i) (noted_is k bound t v fs i)

pub caller_noted_is : (m : Option Measure) (bound : List ℕ) (t : Exp) (v : Bool) (fs : List Fact) → caller_noted t v (caller_of m bound fs) ≡ caller_of m bound (noted t v fs)
caller_noted_is None bound t v fs = refl
caller_noted_is (Some m) bound t v fs = noted_by (measure_parts m) bound t v fs

below_by_parts : (m : MeasureParts) (vs bound : List ℕ) (fs : List Fact) → caller_below vs (caller_by m bound fs) ≡ caller_by m (vs ++ bound) (unbound vs fs)
below_by_parts (One m) vs bound fs = ap caller.One (below_is m vs bound fs)
below_by_parts (Two m k) vs bound fs = λ i. caller.Two (below_is m vs bound fs i) (below_is k vs bound fs i)

pub caller_below_is : (m : Option Measure) (vs bound : List ℕ) (fs : List Fact) → caller_below vs (caller_of m bound fs) ≡ caller_of m (vs ++ bound) (unbound vs fs)
caller_below_is None vs bound fs = refl
caller_below_is (Some m) vs bound fs = below_by_parts (measure_parts m) vs bound fs

steps_by_is : (m k : MeasureParts) (formals : List ℕ) (c : Governed) → parts_step m k formals c ≡ steps_by (caller_by m c.bound c.facts) k formals c.actuals
steps_by_is (One m) (One k) formals c = steps_is m k formals c
steps_by_is (Two m p) (Two k q) formals c = λ i. steps_is m k formals c i || (stays_is m k formals c i && steps_is p q formals c i)
steps_by_is (One m) (Two k q) formals c = refl
steps_by_is (Two m p) (One k) formals c = refl

unmeasured : (k : MeasureParts) (formals : List ℕ) (ts : Exps) → false ≡ steps_by caller.Unmeasured k formals ts
unmeasured (One k) formals ts = refl
unmeasured (Two k q) formals ts = refl

pub caller_steps_is : (m k : Option Measure) (formals : List ℕ) (c : Governed) → measure_steps m k formals c ≡ caller_steps (caller_of m c.bound c.facts) k formals c.actuals
caller_steps_is (Some m) (Some k) formals c = steps_by_is (measure_parts m) (measure_parts k) formals c
caller_steps_is (Some m) None formals c = refl
caller_steps_is None (Some k) formals c = unmeasured (measure_parts k) formals c.actuals
caller_steps_is None None formals c = refl
