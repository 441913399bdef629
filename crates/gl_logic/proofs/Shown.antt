-- What the facts show of a variable.
use Rattle.std.proofs.Common.{◌≡◌, inl, inr, ◌∙◌, ap, sym, refl, ℕ, zero, suc, ℤ, pos, negsuc, ◌<ℤ◌, List, [], ◌∷◌, Bool, true, false, not, ◌&&◌, Some, subst, arith, slice_get}
use Rattle.std.specs.Prelude.{int_lt, ◌+ℤ◌, neg_ℤ}
use Rattle.std.proofs.lemmas.Bool.{and_parts, or_cases}
use Rattle.std.proofs.lemmas.Int.{ints}
use Rattle.gl_logic.specs.Object.{Object, Int, Character, Symbol, Text, Cons, nil, boolean_object}
use Rattle.gl_logic.specs.ObjectEq.{is_nil}
use Rattle.gl_logic.specs.PrimValue.{is_cons, is_integer, integer_in}
use Rattle.gl_logic.specs.ObjectEq.{object_eq}
use Rattle.gl_logic.specs.Environment.{look}
use Rattle.gl_logic.specs.Definition.{Definition}
use Rattle.gl_logic.specs.Ground.{ground}
use Rattle.gl_logic.specs.Exp.{Exp, Var, Const, If, Prim, Call, Last, More}
use Rattle.gl_logic.specs.declared.prim.Primitive.TheVariants as prim
use Rattle.gl_logic.specs.RecursiveCalls.{Fact, exp_eq}
use Rattle.gl_logic.proofs.Facts.{IsFact, AreFacts}
use Rattle.std.specs.List.{list_any}
use Rattle.gl_logic.specs.Steps.{consp_of, atom_of, endp_of, integerp_of, zp_of, natp_of, posp_of, zero_term, equal_zero, eql_zero, same_zero, less_term, gap_term, zp_gap, is_true, is_false, tells_cons, shows_cons, tells_positive, tells_nonzero, shows_positive, tells_integer, shows_gap}
use Rattle.gl_logic.specs.IsGround.{AreGround}
use Rattle.gl_logic.proofs.SimpleTerms.{simple_value, simple_run, ground_value, ground_handed, ground_two}
use Rattle.gl_logic.proofs.Facts.{exp_eq_is}

-- ---- the ground definitions by their numbers
ground_atom : slice_get ground 0 ≡ Some (record { arity = 1; body = Prim prim.Not (More (Prim prim.Consp (More (Var 0) Last)) Last) })
unfolding ground
ground_atom = refl

ground_endp : slice_get ground 1 ≡ Some (record { arity = 1; body = Call 0 (More (Var 0) Last) })
unfolding ground
ground_endp = refl

ground_zp : slice_get ground 7 ≡ Some (record { arity = 1; body = If (Prim prim.Integerp (More (Var 0) Last)) (Prim prim.Not (More (Prim prim.Less (More (Const (Int (pos 0))) (More (Var 0) Last))) Last)) (Const (Symbol 1)) })
unfolding ground
ground_zp = refl

ground_posp : slice_get ground 10 ≡ Some (record { arity = 1; body = If (Prim prim.Integerp (More (Var 0) Last)) (Prim prim.Less (More (Const (Int (pos 0))) (More (Var 0) Last))) (Const nil) })
unfolding ground
ground_posp = refl

ground_natp : slice_get ground 9 ≡ Some (record { arity = 1; body = If (Prim prim.Integerp (More (Var 0) Last)) (Prim prim.Not (More (Prim prim.Less (More (Var 0) (More (Const (Int (pos 0))) Last))) Last)) (Const nil) })
unfolding ground
ground_natp = refl

ground_eql : slice_get ground 4 ≡ Some (record { arity = 2; body = Prim prim.Equal (More (Var 0) (More (Var 1) Last)) })
unfolding ground
ground_eql = refl

ground_same : slice_get ground 5 ≡ Some (record { arity = 2; body = Prim prim.Equal (More (Var 0) (More (Var 1) Last)) })
unfolding ground
ground_same = refl

-- ---- values of tests
no : (b : Bool) → is_nil (boolean_object b) ≡ true → b ≡ false
no true h = absurd cc
no false h = refl

yes : (b : Bool) → is_nil (boolean_object b) ≡ false → b ≡ true
yes true h = refl
yes false h = absurd cc

no_no : (b : Bool) → is_nil (boolean_object (is_nil (boolean_object b))) ≡ true → b ≡ true
no_no true h = refl
no_no false h = absurd cc

abbrev pub IsPositive : Object → Type 0
IsPositive x = (n : ℕ) × (x ≡ Int (pos (suc n)))

positive_at : (x : Object) → is_integer x ≡ true → int_lt (pos 0) (integer_in x) ≡ true → IsPositive x
positive_at (Int (pos zero)) h g = absurd cc
positive_at (Int (pos (suc n))) h g = (n, refl)
positive_at (Int (negsuc n)) h g = absurd cc
positive_at (Character c) h g = absurd cc
positive_at (Symbol c) h g = absurd cc
positive_at (Text c) h g = absurd cc
positive_at (Cons a d) h g = absurd cc

zp_false : (x : Object) → is_nil (simple_value (If (Prim prim.Integerp (More (Var 0) Last)) (Prim prim.Not (More (Prim prim.Less (More (Const (Int (pos 0))) (More (Var 0) Last))) Last)) (Const (Symbol 1))) ((0, x) ∷ [])) ≡ true → IsPositive x
zp_false (Int z) h = positive_at (Int z) refl (no_no (int_lt (pos 0) z) h)
zp_false (Character c) h = absurd cc
zp_false (Symbol c) h = absurd cc
zp_false (Text c) h = absurd cc
zp_false (Cons a d) h = absurd cc

posp_true : (x : Object) → is_nil (simple_value (If (Prim prim.Integerp (More (Var 0) Last)) (Prim prim.Less (More (Const (Int (pos 0))) (More (Var 0) Last))) (Const nil)) ((0, x) ∷ [])) ≡ false → IsPositive x
posp_true (Int z) h = positive_at (Int z) refl (yes (int_lt (pos 0) z) h)
posp_true (Character c) h = absurd cc
posp_true (Symbol c) h = absurd cc
posp_true (Text c) h = absurd cc
posp_true (Cons a d) h = absurd cc

natp_true : (x : Object) → is_nil (simple_value (If (Prim prim.Integerp (More (Var 0) Last)) (Prim prim.Not (More (Prim prim.Less (More (Var 0) (More (Const (Int (pos 0))) Last))) Last)) (Const nil)) ((0, x) ∷ [])) ≡ false → object_eq x (Int (pos 0)) ≡ false → IsPositive x
natp_true (Int (pos zero)) h g = absurd cc
natp_true (Int (pos (suc n))) h g = (n, refl)
natp_true (Int (negsuc n)) h g = absurd cc
natp_true (Character c) h g = absurd cc
natp_true (Symbol c) h g = absurd cc
natp_true (Text c) h g = absurd cc
natp_true (Cons a d) h g = absurd cc

positive_above : (z : ℤ) → pos 0 <ℤ z → IsPositive (Int z)
positive_above (pos zero) h = absurd (omega (arith, ints, h))
positive_above (pos (suc n)) h = (n, refl)
positive_above (negsuc n) h = absurd (omega (arith, ints, h))

gap_positive : (i j : ℤ) → int_lt i j ≡ true → IsPositive (Int (j +ℤ neg_ℤ i))
gap_positive i j h = positive_above (j +ℤ neg_ℤ i) (omega (arith, ints, h))

module _ (ds : List Definition) (known : AreGround ds) (env : List (ℕ × Object)) where
  as_true : (t : Exp) (f : Fact) → is_true t f ≡ true → IsFact ds env f → IsFact ds env (t, true)
  as_true t f e h = let p = and_parts (exp_eq t f.0) f.1 e in let q : f ≡ (t, true) = λ i. (sym (exp_eq_is t f.0 p.0) i, p.1 i) in subst (λ (g : Fact). IsFact ds env g) q h

  is_not : (b : Bool) → not b ≡ true → b ≡ false
  is_not true h = absurd cc
  is_not false h = refl

  as_false : (t : Exp) (f : Fact) → is_false t f ≡ true → IsFact ds env f → IsFact ds env (t, false)
  as_false t f e h = let p = and_parts (exp_eq t f.0) (not f.1) e in let q : f ≡ (t, false) = λ i. (sym (exp_eq_is t f.0 p.0) i, is_not f.1 p.1 i) in subst (λ (g : Fact). IsFact ds env g) q h

  -- what each fact tells that meets a test, one of them tells
  told : (test : Fact → Bool) (P : Type 0) → ((f : Fact) → test f ≡ true → IsFact ds env f → P) → (fs : List Fact) → AreFacts ds env fs → list_any test fs ≡ true → P
  told test P tells [] h e = absurd cc
  told test P tells (f ∷ fs) h e = elim (or_cases (test f) (list_any test fs) e) [ inl a ↦ tells f a h.0 | inr b ↦ told test P tells fs h.1 b ]

  told_true : (t : Exp) (fs : List Fact) → AreFacts ds env fs → list_any (is_true t) fs ≡ true → IsFact ds env (t, true)
  told_true t fs h e = told (is_true t) (IsFact ds env (t, true)) (λ f k g. as_true t f k g) fs h e

  consp_fact : (v : ℕ) → IsFact ds env (consp_of v, true) → is_cons (look env v) ≡ true
  consp_fact v h = yes (is_cons (look env v)) (ap is_nil (sym (simple_run ds env (consp_of v) h.has refl)) ∙ h.truth)

  atom_fact : (v : ℕ) → IsFact ds env (atom_of v, false) → is_cons (look env v) ≡ true
  atom_fact v h = no_no (is_cons (look env v)) (ap is_nil (sym (ground_value ds known env 0 _ (More (Var v) Last) (look env v) ground_atom refl refl refl refl h.has)) ∙ h.truth)

  endp_fact : (v : ℕ) → IsFact ds env (endp_of v, false) → is_cons (look env v) ≡ true
  endp_fact v h = no_no (is_cons (look env v)) (ap is_nil (sym (ground_handed ds known env 1 0 _ _ (More (Var v) Last) (look env v) ground_endp refl refl ground_atom refl refl refl refl h.has)) ∙ h.truth)

  cons_told : (v : ℕ) (f : Fact) → tells_cons v f ≡ true → IsFact ds env f → is_cons (look env v) ≡ true
  cons_told v f e h = elim (or_cases (is_true (consp_of v) f) _ e) [
    | inl a ↦ consp_fact v (as_true (consp_of v) f a h)
    | inr b ↦ elim (or_cases (is_false (atom_of v) f) (is_false (endp_of v) f) b) [
      | inl c ↦ atom_fact v (as_false (atom_of v) f c h)
      | inr d ↦ endp_fact v (as_false (endp_of v) f d h)
    ]
  ]

  pub cons_shown : (fs : List Fact) (v : ℕ) → AreFacts ds env fs → shows_cons fs v ≡ true → is_cons (look env v) ≡ true
  cons_shown fs v h e = told (tells_cons v) (is_cons (look env v) ≡ true) (cons_told v) fs h e

  zp_fact : (v : ℕ) → IsFact ds env (zp_of v, false) → IsPositive (look env v)
  zp_fact v h = zp_false (look env v) (ap is_nil (sym (ground_value ds known env 7 _ (More (Var v) Last) (look env v) ground_zp refl refl refl refl h.has)) ∙ h.truth)

  posp_fact : (v : ℕ) → IsFact ds env (posp_of v, true) → IsPositive (look env v)
  posp_fact v h = posp_true (look env v) (ap is_nil (sym (ground_value ds known env 10 _ (More (Var v) Last) (look env v) ground_posp refl refl refl refl h.has)) ∙ h.truth)

  positive_told : (v : ℕ) (f : Fact) → tells_positive v f ≡ true → IsFact ds env f → IsPositive (look env v)
  positive_told v f e h = elim (or_cases (is_false (zp_of v) f) (is_true (posp_of v) f) e) [
    | inl a ↦ zp_fact v (as_false (zp_of v) f a h)
    | inr b ↦ posp_fact v (as_true (posp_of v) f b h)
  ]

  less_fact : (v : ℕ) → IsFact ds env (integerp_of v, true) → IsFact ds env (less_term zero_term (Var v), true) → IsPositive (look env v)
  less_fact v h g = positive_at (look env v)
      (yes (is_integer (look env v)) (ap is_nil (sym (simple_run ds env (integerp_of v) h.has refl)) ∙ h.truth))
      (yes (int_lt (pos 0) (integer_in (look env v))) (ap is_nil (sym (simple_run ds env (less_term zero_term (Var v)) g.has refl)) ∙ g.truth))

  nonzero_told : (v : ℕ) (f : Fact) → tells_nonzero v f ≡ true → IsFact ds env f → object_eq (look env v) (Int (pos 0)) ≡ false
  nonzero_told v f e h = elim (or_cases (is_false (same_zero v) f) _ e) [
    | inl a ↦ let g = as_false (same_zero v) f a h in no (object_eq (look env v) (Int (pos 0))) (ap is_nil (sym (ground_two ds known env 5 _ _ (look env v) (Int (pos 0)) ground_same refl refl refl refl g.has)) ∙ g.truth)
    | inr b ↦ elim (or_cases (is_false (eql_zero v) f) (is_false (equal_zero v) f) b) [
      | inl a ↦ let g = as_false (eql_zero v) f a h in no (object_eq (look env v) (Int (pos 0))) (ap is_nil (sym (ground_two ds known env 4 _ _ (look env v) (Int (pos 0)) ground_eql refl refl refl refl g.has)) ∙ g.truth)
      | inr a ↦ let g = as_false (equal_zero v) f a h in no (object_eq (look env v) (Int (pos 0))) (ap is_nil (sym (simple_run ds env (equal_zero v) g.has refl)) ∙ g.truth)
    ]
  ]

  natp_fact : (v : ℕ) → IsFact ds env (natp_of v, true) → object_eq (look env v) (Int (pos 0)) ≡ false → IsPositive (look env v)
  natp_fact v h g = natp_true (look env v) (ap is_nil (sym (ground_value ds known env 9 _ (More (Var v) Last) (look env v) ground_natp refl refl refl refl h.has)) ∙ h.truth) g

  pub positive_shown : (fs : List Fact) (v : ℕ) → AreFacts ds env fs → shows_positive fs v ≡ true → IsPositive (look env v)
  positive_shown fs v h e = elim (or_cases (list_any (tells_positive v) fs) _ e) [
    | inl a ↦ told (tells_positive v) (IsPositive (look env v)) (positive_told v) fs h a
    | inr b ↦ elim (or_cases (list_any (is_true (integerp_of v)) fs && list_any (is_true (less_term zero_term (Var v))) fs) _ b) [
      | inl a ↦ let p = and_parts (list_any (is_true (integerp_of v)) fs) _ a in less_fact v (told_true (integerp_of v) fs h p.0) (told_true (less_term zero_term (Var v)) fs h p.1)
      | inr a ↦ let p = and_parts (list_any (is_true (natp_of v)) fs) _ a in natp_fact v (told_true (natp_of v) fs h p.0) (told (tells_nonzero v) _ (nonzero_told v) fs h p.1)
    ]
  ]

  -- b - a is above zero
  abbrev pub GapOf : ℕ → ℕ → ℤ
  GapOf a b = integer_in (look env b) +ℤ neg_ℤ (integer_in (look env a))

  zp_gap_fact : (a b : ℕ) (f : Fact) → is_false (zp_gap a b) f ≡ true → IsFact ds env f → IsPositive (Int (GapOf a b))
  zp_gap_fact a b f e g = let h = as_false (zp_gap a b) f e g in zp_false (Int (GapOf a b)) (ap is_nil (sym (ground_value ds known env 7 _ (More (gap_term a b) Last) (Int (GapOf a b)) ground_zp refl refl refl refl h.has)) ∙ h.truth)

  less_gap : (a b : ℕ) → IsFact ds env (less_term (Var a) (Var b), true) → IsPositive (Int (GapOf a b))
  less_gap a b h = gap_positive (integer_in (look env a)) (integer_in (look env b)) (yes (int_lt (integer_in (look env a)) (integer_in (look env b))) (ap is_nil (sym (simple_run ds env (less_term (Var a) (Var b)) h.has refl)) ∙ h.truth))

  pub gap_shown : (fs : List Fact) (a b : ℕ) → AreFacts ds env fs → shows_gap fs a b ≡ true → IsPositive (Int (GapOf a b))
  gap_shown fs a b h e = elim (or_cases (list_any (is_false (zp_gap a b)) fs) _ e) [
    | inl c ↦ told (is_false (zp_gap a b)) (IsPositive (Int (GapOf a b))) (zp_gap_fact a b) fs h c
    | inr d ↦ let p = and_parts (list_any (tells_integer a) fs) _ d in let q = and_parts (list_any (tells_integer b) fs) _ p.1 in less_gap a b (told_true (less_term (Var a) (Var b)) fs h q.1)
  ]
