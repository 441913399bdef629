-- What a test makes true or false holds, and a let keeps what it does not mention.
use Rattle.std.proofs.Common.{◌≡◌, ◌∙◌, ap, sym, refl, ℕ, List, [], ◌∷◌, ◌++◌, Bool, true, false, not, ◌||◌, eqb, cond, Option, Some, subst, arith, get_or}
use Rattle.std.specs.List.{list_any}
use Rattle.std.proofs.lemmas.Bool.{and_parts, or_parts, eqb-true}
use Rattle.std.proofs.lemmas.List.Folds.{list_any-append}
use base.Stored.{Gv, gnil, gnum, gcons}
use Rattle.gl_logic.specs.Object.{Object, nil, boolean_object}
use Rattle.gl_logic.specs.ObjectEq.{is_nil}
use Rattle.gl_logic.specs.PrimCode.{prim_number, prim_at, prim-at-number}
use Rattle.gl_logic.specs.declared.prim.Primitive.{Primitive}
use Rattle.gl_logic.specs.declared.prim.Primitive.TheVariants as prim
use Rattle.gl_logic.specs.Environment.{look, extended}
use Rattle.gl_logic.specs.Definition.{Definition}
use Rattle.gl_logic.specs.Exp.{Exp, Exps, Var, Const, If, Prim, Call, Let, Last, More}
use Rattle.gl_logic.specs.ExpCode.{code_exp, coded_exp}
use Rattle.gl_logic.specs.FreeVariables.{is_free_in}
use Rattle.gl_logic.specs.Walk.{Walk, Walks, then, ended, joined, walks_by, opened, walk}
use Rattle.gl_logic.proofs.Optional.{some_same, then_inverted}
use Rattle.gl_logic.proofs.Walks.{walk_unique}
use Rattle.gl_logic.proofs.FreeVariables.{agree}
use Rattle.gl_logic.specs.RecursiveCalls.{Fact, alike, exp_eq, is_nil_term, noted, noted_not, mentions, unbound}
use Rattle.gl_logic.specs.Every.{Every}
use Rattle.gl_logic.proofs.Runs.{Run}

-- a fact holds where its term has a value, which is NIL or not as the fact says
pub record IsFact (ds : List Definition) (env : List (ℕ × Object)) (f : Fact) : Type 0 where
  pub has : Run ds env f.0
  pub truth : is_nil has.run.value ≡ not f.1

abbrev pub AreFacts : List Definition → List (ℕ × Object) → List Fact → Type 0
AreFacts ds env fs = Every (IsFact ds env) fs

-- the environments give the same to all variables but these
abbrev pub AgreeBut : List ℕ → List (ℕ × Object) → List (ℕ × Object) → Type 0
AgreeBut bound e e' = (v : ℕ) → list_any (λ u. eqb u v) bound ≡ false → look e v ≡ look e' v

-- ---- the test of equal terms
pub alike_is : (a b : Gv) → alike a b ≡ true → a ≡ b
alike_is gnil gnil h = refl
alike_is (gnum m) (gnum n) h = ap gnum (eqb-true m n h)
alike_is (gcons a b) (gcons c d) h = let p = and_parts (alike a c) (alike b d) h in λ i. gcons (alike_is a c p.0 i) (alike_is b d p.1 i)
alike_is _ _ h = absurd cc

pub exp_eq_is : (a b : Exp) → exp_eq a b ≡ true → a ≡ b
exp_eq_is a b h = coded_exp.inj a b (alike_is (code_exp a) (code_exp b) h)

is_not_at : (p : Primitive) → eqb (prim_number p) 9 ≡ true → p ≡ prim.Not
is_not_at p h = sym (prim-at-number p) ∙ ap prim_at (eqb-true (prim_number p) 9 h)

-- ---- what an if's value tells
module _ (ds : List Definition) (env : List (ℕ × Object)) where
  pub record IfRun (t a b : Exp) (r : Walk) : Type 0 where
    pub test : Run ds env t
    pub first : is_nil test.run.value ≡ false → (s : Run ds env a) × (s.run.value ≡ r.value)
    pub second : is_nil test.run.value ≡ true → (s : Run ds env b) × (s.run.value ≡ r.value)

  ended_run : (n : ℕ) (t : Exp) (seen : List Object) (made : _) (r : Walk) → then (walk ds n env t) (ended seen made) ≡ Some r → (s : Run ds env t) × (s.run.value ≡ r.value)
  ended_run n t seen made r e = let i = then_inverted (walk ds n env t) (ended seen made) r e in (record { depth = n; run = i.0; walks = i.1.0 }, ap (λ (w : Walk). w.value) (some_same _ r i.1.1))

  picked_first : {A : Type 0} (c : Bool) (p q : Option A) (r : A) → elim c as (λ _. Option A) [ true ↦ p | false ↦ q ] ≡ Some r → c ≡ true → p ≡ Some r
  picked_first true p q r e h = e
  picked_first false p q r e h = absurd cc

  picked_second : {A : Type 0} (c : Bool) (p q : Option A) (r : A) → elim c as (λ _. Option A) [ true ↦ p | false ↦ q ] ≡ Some r → c ≡ false → q ≡ Some r
  picked_second true p q r e h = absurd cc
  picked_second false p q r e h = e

  pub if_run : (n : ℕ) (t a b : Exp) (r : Walk) → walk ds n env (If t a b) ≡ Some r → IfRun t a b r
  if_run n t a b r e =
      let i = then_inverted (walk ds n env t) _ r e in
      record {
        test = record { depth = n; run = i.0; walks = i.1.0 };
        first = λ h. ended_run n a i.0.seen i.0.made r (picked_second (is_nil i.0.value) _ _ r i.1.1 h);
        second = λ h. ended_run n b i.0.seen i.0.made r (picked_first (is_nil i.0.value) _ _ r i.1.1 h);
      }

  -- a constant NIL has no other value
  nil_term_value : (c : Exp) (s : Run ds env c) → is_nil_term c ≡ true → is_nil s.run.value ≡ true
  nil_term_value (Const x) s h = ap (λ (w : Walk). is_nil w.value) (sym (some_same _ s.run s.walks)) ∙ h
  nil_term_value _ s h = absurd cc

  same_value : (t : Exp) (r s : Run ds env t) → r.run.value ≡ s.run.value
  same_value t r s = ap (λ (w : Walk). w.value) (walk_unique ds r.depth s.depth env t r.run s.run r.walks s.walks)

  fact : (t : Exp) (v : Bool) (r : Run ds env t) → is_nil r.run.value ≡ not v → IsFact ds env (t, v)
  fact t v r h = record { has = r; truth = h }

  -- `and` that is true
  and_at : (x : Bool) (a b c : Exp) (r : Walk) (i : IfRun a b c r) → is_nil i.test.run.value ≡ x → is_nil_term c ≡ true → is_nil r.value ≡ false → IsFact ds env (a, true) × IsFact ds env (b, true)
  and_at true a b c r i e h g = let s = i.second e in let z : is_nil s.0.run.value ≡ true = nil_term_value c s.0 h in let y : is_nil s.0.run.value ≡ false = ap is_nil s.1 ∙ g in absurd cc
  and_at false a b c r i e h g = let s = i.first e in (fact a true i.test e, fact b true s.0 (ap is_nil s.1 ∙ g))

  -- `or` that is false
  or_at : (x : Bool) (a c : Exp) (r : Walk) (i : IfRun a a c r) → is_nil i.test.run.value ≡ x → is_nil r.value ≡ true → IsFact ds env (a, false) × IsFact ds env (c, false)
  or_at true a c r i e g = let s = i.second e in (fact a false i.test e, fact c false s.0 (ap is_nil s.1 ∙ g))
  or_at false a c r i e g = let s = i.first e in let z : is_nil i.test.run.value ≡ true = ap is_nil (same_value a i.test s.0 ∙ s.1) ∙ g in absurd cc

  or_fact : (a b c : Exp) → IsFact ds env (If a b c, false) → a ≡ b → IsFact ds env (a, false) × IsFact ds env (c, false)
  or_fact a b c h e =
      let g = subst (λ (z : Exp). IsFact ds env (If a z c, false)) (sym e) h in
      let i = if_run g.has.depth a a c g.has.run g.has.walks in
      or_at (is_nil i.test.run.value) a c g.has.run i refl g.truth

  boolean_nil : (x : Bool) → is_nil (boolean_object x) ≡ not x
  boolean_nil true = refl
  boolean_nil false = refl

  not_not : (x v : Bool) → not x ≡ not v → x ≡ not (not v)
  not_not true true h = refl
  not_not false false h = refl
  not_not true false h = absurd cc
  not_not false true h = absurd cc

  -- `not`
  not_fact : (a : Exp) (ts : Exps) (v : Bool) → IsFact ds env (Prim prim.Not (More a ts), v) → IsFact ds env (a, not v)
  not_fact a ts v h =
      let r = h.has in
      let i = then_inverted (walks_by (opened ds r.depth) (More a ts) env) _ r.run r.walks in
      let j = then_inverted (walk ds r.depth env a) _ i.0 i.1.0 in
      let k = then_inverted (walks_by (opened ds r.depth) ts env) (joined j.0) i.0 j.1.1 in
      let q : boolean_object (is_nil j.0.value) ≡ r.run.value = ap (λ (w : Walks). boolean_object (is_nil (get_or w.values 0 nil))) (some_same _ i.0 k.1.1) ∙ ap (λ (w : Walk). w.value) (some_same _ r.run i.1.1) in
      fact a (not v) (record { depth = r.depth; run = j.0; walks = j.1.0 }) (not_not (is_nil j.0.value) v (sym (boolean_nil (is_nil j.0.value)) ∙ (ap is_nil q ∙ h.truth)))

  pick_facts : (x : Bool) (p q : List Fact) → (x ≡ true → AreFacts ds env p) → (x ≡ false → AreFacts ds env q) → AreFacts ds env (elim x as (λ _. List Fact) [ true ↦ p | false ↦ q ])
  pick_facts true p q g h = g refl
  pick_facts false p q g h = h refl

  mutual
    pub noted_holds : (t : Exp) (v : Bool) (fs : List Fact) → IsFact ds env (t, v) → AreFacts ds env fs → AreFacts ds env (noted t v fs)
    noted_holds (If a b c) true fs h g = pick_facts (is_nil_term c) (noted a true (noted b true fs)) ((If a b c, true) ∷ fs)
        (λ e. let k = and_at (is_nil (if_run h.has.depth a b c h.has.run h.has.walks).test.run.value) a b c h.has.run (if_run h.has.depth a b c h.has.run h.has.walks) refl e h.truth in noted_holds a true (noted b true fs) k.0 (noted_holds b true fs k.1 g))
        (λ e. (h, g))
    noted_holds (If a b c) false fs h g = pick_facts (exp_eq a b) (noted a false (noted c false fs)) ((If a b c, false) ∷ fs)
        (λ e. let k = or_fact a b c h (exp_eq_is a b e) in noted_holds a false (noted c false fs) k.0 (noted_holds c false fs k.1 g))
        (λ e. (h, g))
    noted_holds (Prim p ts) v fs h g = pick_facts (eqb (prim_number p) 9) (noted_not ts v fs) ((Prim p ts, v) ∷ fs)
        (λ e. noted_not_holds ts v fs (subst (λ (q : Primitive). IsFact ds env (Prim q ts, v)) (is_not_at p e) h) g)
        (λ e. (h, g))
    noted_holds (Var x) v fs h g = (h, g)
    noted_holds (Const x) v fs h g = (h, g)
    noted_holds (Call f ts) v fs h g = (h, g)
    noted_holds (Let vs ts b) v fs h g = (h, g)

    noted_not_holds : (ts : Exps) (v : Bool) (fs : List Fact) → IsFact ds env (Prim prim.Not ts, v) → AreFacts ds env fs → AreFacts ds env (noted_not ts v fs)
    noted_not_holds Last v fs h g = g
    noted_not_holds (More a ts) v fs h g = noted_holds a (not v) fs (not_fact a ts v h) g

-- ---- below a let
none_at : (x : Bool) (u : ℕ) (vs : List ℕ) (b : ℕ → Bool) (v : ℕ) → eqb u v ≡ x → b u ≡ false → b v ≡ true → list_any (λ u. eqb u v) vs ≡ false → (x || list_any (λ u. eqb u v) vs) ≡ false
none_at true u vs b v e h k n = let q : b u ≡ b v = ap b (eqb-true u v e) in absurd cc
none_at false u vs b v e h k n = n

none_of : (vs : List ℕ) (b : ℕ → Bool) (v : ℕ) → list_any b vs ≡ false → b v ≡ true → list_any (λ u. eqb u v) vs ≡ false
none_of [] b v h k = refl
none_of (u ∷ vs) b v h k = let p = or_parts (b u) (list_any b vs) h in none_at (eqb u v) u vs b v refl p.0 k (none_of vs b v p.1 k)

look_past : (vs : List ℕ) (xs : List Object) (env : List (ℕ × Object)) (v : ℕ) → list_any (λ u. eqb u v) vs ≡ false → look env v ≡ look (extended vs xs env) v
look_past [] xs env v h = refl
look_past (u ∷ vs) [] env v h = grind (arith, look_past vs [] env v)
look_past (u ∷ vs) (x ∷ xs) env v h = grind (arith, look_past vs xs env v)

pub agree_past : (vs : List ℕ) (xs : List Object) (bound : List ℕ) (e env : List (ℕ × Object)) → AgreeBut bound e env → AgreeBut (vs ++ bound) e (extended vs xs env)
agree_past vs xs bound e env h v k = let p = or_parts (list_any (λ u. eqb u v) vs) (list_any (λ u. eqb u v) bound) (sym (list_any-append (λ u. eqb u v) vs bound) ∙ k) in h v p.1 ∙ look_past vs xs env v p.0

fact_past : (ds : List Definition) (vs : List ℕ) (xs : List Object) (env : List (ℕ × Object)) (f : Fact) → mentions vs f.0 ≡ false → IsFact ds env f → IsFact ds (extended vs xs env) f
fact_past ds vs xs env f k h =
    let q : walk ds h.has.depth env f.0 ≡ walk ds h.has.depth (extended vs xs env) f.0 = agree (opened ds h.has.depth) f.0 env (extended vs xs env) (λ v e. look_past vs xs env v (none_of vs (is_free_in f.0) v k e)) in
    record { has = record { depth = h.has.depth; run = h.has.run; walks = sym q ∙ h.has.walks }; truth = h.truth }

past_at : (b : Bool) (ds : List Definition) (vs : List ℕ) (xs : List Object) (env : List (ℕ × Object)) (f : Fact) (fs : List Fact) → mentions vs f.0 ≡ b → IsFact ds env f → AreFacts ds (extended vs xs env) (unbound vs fs) → AreFacts ds (extended vs xs env) (cond (not b) (f ∷ unbound vs fs) (unbound vs fs))
past_at true ds vs xs env f fs e h g = g
past_at false ds vs xs env f fs e h g = (fact_past ds vs xs env f e h, g)

pub facts_past : (ds : List Definition) (vs : List ℕ) (xs : List Object) (env : List (ℕ × Object)) (fs : List Fact) → AreFacts ds env fs → AreFacts ds (extended vs xs env) (unbound vs fs)
facts_past ds vs xs env [] h = tt
facts_past ds vs xs env (f ∷ fs) h = past_at (mentions vs f.0) ds vs xs env f fs refl h.0 (facts_past ds vs xs env fs h.1)
