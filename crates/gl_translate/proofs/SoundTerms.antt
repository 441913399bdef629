-- Terms that forms mean.
use Rattle.std.proofs.Common.{pos, negsuc, ◌≡◌, ◌∙◌, ap, sym, refl, subst, ℕ, zero, suc, ◌+◌, Bool, true, false, cond, not, ◌&&◌, ◌||◌, ◌++◌, eqb, List, [], ◌∷◌, map, length, Option, Some, None, arith}
use Rattle.std.specs.Prelude.{nat_lt, Result, Ok, Err, slice_get}
use Rattle.std.specs.List.{list_any}
use Rattle.std.specs.Option.{option_map}
use Rattle.std.proofs.lemmas.List.{map-append}
use Rattle.std.proofs.lemmas.Bool.{eqb-true}
use Rattle.gl_logic.specs.Every.{Every}
use Rattle.gl_logic.specs.Object.{Object, Int, Symbol, Cons, nil}
use Rattle.gl_logic.specs.Named.{object_named}
use Rattle.gl_logic.specs.Exp.{Exp, Exps, Var, Const, If, Prim, Call, Let, Last, More}
use Rattle.gl_logic.specs.TermOf.{exps_of}
use Rattle.gl_logic.specs.Definition.{Definition}
use Rattle.gl_logic.specs.IsTermOf.{count_of, arity_in, IsTermOf, AreTermsOf}
use Rattle.gl_logic.specs.FreeVariables.{is_free_in, is_free_in_some}
use Rattle.gl_logic.specs.PrimValue.{prim_arity}
use Rattle.gl_logic.specs.declared.prim.Primitive.{Primitive}
use Rattle.gl_translate.specs.declared.fault.TermFault.{TermFault}
use Rattle.gl_translate.specs.declared.fault.TermFault.TheVariants as term_fault
use Rattle.gl_logic.specs.Wording.{is_legal}
use Rattle.gl_translate.specs.Setting.{Setting, stands_for_itself}
use Rattle.gl_translate.specs.Meaning.{Meaning, Outcome, and_then, within, symbol, symbol_inside, constant_or, variable, every_part, if_form, if_parts, prim_form, call_form, let_form, let_inside, also_bound, count_at}
use Rattle.gl_translate.specs.Translation.{meaning, function_of}
use Rattle.gl_translate.specs.Answers.{is_visible, IsTermWith, HasVisibleVariables, IsNarrow, HasNarrowConstants, HaveNarrowConstants}
use Rattle.gl_translate.proofs.Closed.{IsKept, meaning_has}

-- ---- outcomes
no_fault : {A : Type 0} {X : Type 0} (e : TermFault) (a : A) → Err e ≡ Ok a → X
no_fault e a h = absurd cc

abbrev given : {A : Type 0} → A → Outcome A
given a = Ok a

same_ok : {A : Type 0} (a b : A) → given a ≡ given b → a ≡ b
same_ok a b h = cc

within_ok : (m : Meaning) (bound : ℕ → Bool) (around : ℕ) (t : Exp) → within m bound around ≡ Ok t → m bound around ≡ Ok t
within_ok m bound around t = elim (nat_lt around 2000) as (λ b. cond b (m bound around) (Err term_fault.TooDeep) ≡ Ok t → m bound around ≡ Ok t) [
  | true ↦ λ e. e
  | false ↦ λ e. no_fault term_fault.TooDeep t e
]

then_ok : {A B : Type 0} {X : Type 0} (o : Outcome A) (f : A → Outcome B) (b : B) → and_then o f ≡ Ok b → ((a : A) → o ≡ Ok a → f a ≡ Ok b → X) → X
then_ok (Ok a) f b e g = g a refl e
then_ok (Err x) f b e g = no_fault x b e

module _ (s : Setting) (IsFine : Object → Type 0) where
  -- each call is of a definition with its count of arguments, each primitive has its count, each let has as many names as terms, each variable is in scope, and each constant is fine
  abbrev mutual
    pub IsSound : (ℕ → Bool) → Exp → Type 0
    IsSound bound (Var v) = is_visible s bound v ≡ true
    IsSound bound (Const x) = IsFine x
    IsSound bound (If a b c) = IsSound bound a × (IsSound bound b × IsSound bound c)
    IsSound bound (Prim p ts) = (prim_arity p ≡ count_of ts) × AreSound bound ts
    IsSound bound (Call f ts) = (count_at (s.functions ++ s.own) f ≡ Some (count_of ts)) × AreSound bound ts
    IsSound bound (Let vs ts b) = (length vs ≡ count_of ts) × (AreSound bound ts × IsSound (also_bound vs bound) b)

    pub AreSound : (ℕ → Bool) → Exps → Type 0
    AreSound bound Last = Unit {0}
    AreSound bound (More t ts) = IsSound bound t × AreSound bound ts

  abbrev pub Gives : Meaning → Type 0
  Gives m = (bound : ℕ → Bool) (around : ℕ) (t : Exp) → m bound around ≡ Ok t → IsSound bound t

  at_term : (bound : ℕ → Bool) (t u : Exp) → given t ≡ given u → IsSound bound t → IsSound bound u
  at_term bound t u e h = subst (IsSound bound) (same_ok t u e) h

  -- ---- parts
  pub record HasParts (bound : ℕ → Bool) (count : ℕ) (ts : List Exp) : Type 0 where
    pub sound : AreSound bound (exps_of ts)
    pub counted : count ≡ count_of (exps_of ts)

  parts_sound : (ms : List Meaning) → Every Gives ms → (bound : ℕ → Bool) (around : ℕ) (ts : List Exp) → every_part ms bound around ≡ Ok ts → HasParts bound (length ms) ts
  parts_sound [] h bound around ts e = subst (HasParts bound 0) (same_ok [] ts e) (record { sound = tt; counted = refl })
  parts_sound (m ∷ ms) h bound around ts e =
      then_ok (m bound around) _ ts e (λ x ex f.
      then_ok (every_part ms bound around) _ ts f (λ xs exs g.
      let rest = parts_sound ms h.1 bound around xs exs in
      subst (HasParts bound (suc (length ms))) (same_ok (x ∷ xs) ts g) (record { sound = (h.0 bound around x ex, rest.sound); counted = omega (arith, rest.counted) })))

  constant_sound : (t : ℕ) (o : Option Object) (bound : ℕ → Bool) (u : Exp) → ((x : Object) → o ≡ Some x → IsFine x) → constant_or o (variable s t bound) ≡ Ok u → IsSound bound u
  constant_sound t (Some x) bound u h = λ e. at_term bound (Const x) u e (h x refl)
  constant_sound t None bound u h = elim (is_visible s bound t) as (λ b. is_visible s bound t ≡ b → cond b (Ok (Var t)) (Err term_fault.UnboundVariable) ≡ Ok u → IsSound bound u) [
    | true ↦ λ q e. at_term bound (Var t) u e q
    | false ↦ λ q e. no_fault term_fault.UnboundVariable u e
  ] refl

  module _ (symbols : (t : ℕ) → IsFine (Symbol t)) (constants : (t : ℕ) (x : Object) → object_named s.constants t ≡ Some x → IsFine x) where
    symbol_sound : (t : ℕ) (bound : ℕ → Bool) (u : Exp) → symbol_inside s t bound ≡ Ok u → IsSound bound u
    symbol_sound t bound u = elim (stands_for_itself s t) as (λ b. cond b (Ok (Const (Symbol t))) (constant_or (object_named s.constants t) (variable s t bound)) ≡ Ok u → IsSound bound u) [
      | true ↦ λ e. at_term bound (Const (Symbol t)) u e (symbols t)
      | false ↦ constant_sound t (object_named s.constants t) bound u (constants t)
    ]

    if_sound : (a b c : Meaning) → Gives a → Gives b → Gives c → Gives (if_form a b c)
    if_sound a b c f g h bound around t e =
        then_ok (a bound (suc around)) _ t (within_ok (λ v n. if_parts a b c v (suc n)) bound around t e) (λ x ex p.
        then_ok (b bound (suc around)) _ t p (λ y ey q.
        then_ok (c bound (suc around)) _ t q (λ z ez r.
        at_term bound (If x y z) t r (f bound (suc around) x ex, (g bound (suc around) y ey, h bound (suc around) z ez)))))

    prim_sound : (p : Primitive) (ms : List Meaning) → prim_arity p ≡ length ms → Every Gives ms → Gives (prim_form p ms)
    prim_sound p ms n h bound around t e =
        then_ok (every_part ms bound (suc around)) _ t (within_ok (λ v i. and_then (every_part ms v (suc i)) (λ ts. Ok (Prim p (exps_of ts)))) bound around t e) (λ ts ets r.
        let all = parts_sound ms h bound (suc around) ts ets in
        at_term bound (Prim p (exps_of ts)) t r (n ∙ all.counted, all.sound))

    call_sound : (f : ℕ) (ms : List Meaning) → count_at (s.functions ++ s.own) f ≡ Some (length ms) → Every Gives ms → Gives (call_form f ms)
    call_sound f ms n h bound around t e =
        then_ok (every_part ms bound (suc around)) _ t (within_ok (λ v i. and_then (every_part ms v (suc i)) (λ ts. Ok (Call f (exps_of ts)))) bound around t e) (λ ts ets r.
        let all = parts_sound ms h bound (suc around) ts ets in
        at_term bound (Call f (exps_of ts)) t r (n ∙ ap Some all.counted, all.sound))

    let_sound : (names : List ℕ) (ms : List Meaning) (b : Meaning) → length names ≡ length ms → Every Gives ms → Gives b → Gives (let_form names ms b)
    let_sound names ms b n h g bound around t e =
        then_ok (every_part ms bound (suc around)) _ t (within_ok (λ v i. let_inside names ms b v (suc i)) bound around t e) (λ ts ets p.
        then_ok (b (also_bound names bound) (suc around)) _ t p (λ x ex r.
        let all = parts_sound ms h bound (suc around) ts ets in
        at_term bound (Let names (exps_of ts) x) t r (n ∙ all.counted, (all.sound, g (also_bound names bound) (suc around) x ex))))

    -- where parts of what is fine are fine, and so are the numbers of the table
    module _ (split : (a d : Object) → IsFine (Cons a d) → IsFine a × IsFine d) (zero_fine : IsFine (Int (pos 0))) (one_fine : IsFine (Int (pos 1))) (minus_one_fine : IsFine (Int (negsuc 0))) where
      all_sound : IsKept s IsFine Gives
      all_sound = record {
        of_fault = λ e bound around t h. no_fault e t (within_ok (λ v n. Err e) bound around t h);
        of_literal = λ x h bound around t e. at_term bound (Const x) t (within_ok (λ v n. Ok (Const x)) bound around t e) h;
        of_symbol = λ t bound around u e. symbol_sound t bound u (within_ok (λ v n. symbol_inside s t v) bound around u e);
        of_if = if_sound;
        of_prim = prim_sound;
        of_call = call_sound;
        of_let = let_sound;
        fine_parts = split;
        fine_nil = symbols 0;
        fine_true = symbols 1;
        fine_zero = zero_fine;
        fine_one = one_fine;
        fine_minus_one = minus_one_fine;
      }

      pub meaning_sound : (x : Object) → IsFine x → Gives (meaning s x)
      meaning_sound = meaning_has s IsFine Gives all_sound

  -- ---- what a sound term is
  module _ (definitions : List Definition) (has : (f n : ℕ) → count_at (s.functions ++ s.own) f ≡ Some n → arity_in definitions f ≡ Some n) where
    mutual
      pub sound_is_term : (t : Exp) (bound : ℕ → Bool) → IsSound bound t → IsTermOf definitions t
      sound_is_term (Var v) bound h = tt
      sound_is_term (Const x) bound h = tt
      sound_is_term (If a b c) bound h = (sound_is_term a bound h.0, sound_is_term b bound h.1.0, sound_is_term c bound h.1.1)
      sound_is_term (Prim p ts) bound h = (h.0, sound_are_terms ts bound h.1)
      sound_is_term (Call f ts) bound h = (has f (count_of ts) h.0, sound_are_terms ts bound h.1)
      sound_is_term (Let vs ts b) bound h = (h.0, sound_are_terms ts bound h.1.0, sound_is_term b (also_bound vs bound) h.1.1)

      sound_are_terms : (ts : Exps) (bound : ℕ → Bool) → AreSound bound ts → AreTermsOf definitions ts
      sound_are_terms Last bound h = tt
      sound_are_terms (More t ts) bound h = (sound_is_term t bound h.0, sound_are_terms ts bound h.1)

  or_true : {X : Type 0} (a b : Bool) → (a || b) ≡ true → (a ≡ true → X) → (b ≡ true → X) → X
  or_true true b e f g = f refl
  or_true false b e f g = g e

  and_true : {X : Type 0} (a b : Bool) → (not a && b) ≡ true → (a ≡ false → b ≡ true → X) → X
  and_true true b e g = absurd cc
  and_true false b e g = g refl e

  eqb_turns : (v u : ℕ) → eqb v u ≡ eqb u v
  eqb_turns v u = elim (eqb v u) as (λ b. eqb v u ≡ b → b ≡ eqb u v) [
    | true ↦ λ q. let same = eqb-true v u q in sym q ∙ (sym (ap (eqb v) same) ∙ ap (λ w. eqb w v) same)
    | false ↦ λ q. elim (eqb u v) as (λ b. eqb u v ≡ b → false ≡ b) [
      | true ↦ λ p. let same = eqb-true u v p in let other : eqb v u ≡ true = ap (λ w. eqb w u) (sym same) ∙ (ap (eqb u) same ∙ p) in sym q ∙ other
      | false ↦ λ p. refl
    ] refl
  ] refl

  turned : (v : ℕ) (vs : List ℕ) → list_any (eqb v) vs ≡ list_any (λ u. eqb u v) vs
  turned v [] = refl
  turned v (u ∷ vs) = λ i. eqb_turns v u i || turned v vs i

  not_bound : (vs : List ℕ) (bound : ℕ → Bool) (v : ℕ) → list_any (λ u. eqb u v) vs ≡ false → is_visible s (also_bound vs bound) v ≡ true → is_visible s bound v ≡ true
  not_bound vs bound v e h = sym (ap (λ b. (b || bound v) || (s.every && is_legal s.names v)) (turned v vs ∙ e)) ∙ h

  mutual
    pub sound_is_visible : (t : Exp) (bound : ℕ → Bool) → IsSound bound t → HasVisibleVariables s bound t
    sound_is_visible (Var u) bound h v e = subst (λ (w : ℕ). is_visible s bound w ≡ true) (eqb-true u v e) h
    sound_is_visible (Const x) bound h v e = absurd cc
    sound_is_visible (If a b c) bound h v e = or_true (is_free_in a v || is_free_in b v) (is_free_in c v) e (λ f. or_true (is_free_in a v) (is_free_in b v) f (sound_is_visible a bound h.0 v) (sound_is_visible b bound h.1.0 v)) (sound_is_visible c bound h.1.1 v)
    sound_is_visible (Prim p ts) bound h v e = sound_are_visible ts bound h.1 v e
    sound_is_visible (Call f ts) bound h v e = sound_are_visible ts bound h.1 v e
    sound_is_visible (Let vs ts b) bound h v e =
        or_true (is_free_in_some ts v) (not (list_any (λ u. eqb u v) vs) && is_free_in b v) e (sound_are_visible ts bound h.1.0 v) (λ f.
        and_true (list_any (λ u. eqb u v) vs) (is_free_in b v) f (λ p q. not_bound vs bound v p (sound_is_visible b (also_bound vs bound) h.1.1 v q)))

    sound_are_visible : (ts : Exps) (bound : ℕ → Bool) → AreSound bound ts → (v : ℕ) → is_free_in_some ts v ≡ true → is_visible s bound v ≡ true
    sound_are_visible Last bound h v e = absurd cc
    sound_are_visible (More t ts) bound h v e = or_true (is_free_in t v) (is_free_in_some ts v) e (sound_is_visible t bound h.0 v) (sound_are_visible ts bound h.1 v)

module _ (s : Setting) where
  mutual
    pub sound_is_narrow : (t : Exp) (bound : ℕ → Bool) → IsSound s IsNarrow bound t → HasNarrowConstants t
    sound_is_narrow (Var v) bound h = tt
    sound_is_narrow (Const x) bound h = h
    sound_is_narrow (If a b c) bound h = (sound_is_narrow a bound h.0, sound_is_narrow b bound h.1.0, sound_is_narrow c bound h.1.1)
    sound_is_narrow (Prim p ts) bound h = sound_are_narrow ts bound h.1
    sound_is_narrow (Call f ts) bound h = sound_are_narrow ts bound h.1
    sound_is_narrow (Let vs ts b) bound h = (sound_are_narrow ts bound h.1.0, sound_is_narrow b (also_bound vs bound) h.1.1)

    sound_are_narrow : (ts : Exps) (bound : ℕ → Bool) → AreSound s IsNarrow bound ts → HaveNarrowConstants ts
    sound_are_narrow Last bound h = tt
    sound_are_narrow (More t ts) bound h = (sound_is_narrow t bound h.0, sound_are_narrow ts bound h.1)
