-- Every term has a value, where the calls of new definitions are steps of a measure.
use Rattle.std.proofs.Common.{◌≡◌, ◌∙◌, ap, sym, refl, ℕ, zero, suc, List, [], ◌∷◌, ◌++◌, Bool, true, false, cond, Option, Some, None, subst, arith, slice_get, length}
use Rattle.std.specs.Option.{option_map}
use Rattle.gl_logic.specs.Object.{Object}
use Rattle.gl_logic.specs.Environment.{extended}
use Rattle.gl_logic.specs.Definition.{Definition}
use Rattle.gl_logic.specs.Exp.{Exp, Exps, Var, Const, If, Prim, Call, Let, Last, More}
use Rattle.gl_logic.specs.IsTermOf.{IsTermOf, AreTermsOf, arity_in, count_of}
use Rattle.gl_logic.specs.ConstantCall.{constant_terms}
use Rattle.gl_logic.specs.Walk.{Walk, Walks, walks_by, opened, body_walk}
use Rattle.gl_logic.proofs.Optional.{none_some, some_same, then_inverted}
use Rattle.gl_logic.proofs.MoreDefinitions.{walk_kept}
use Rattle.gl_logic.specs.Every.{Every}
use Rattle.gl_logic.specs.RecursiveCalls.{Fact, Governed, noted, unbound, calls_in, calls_in_all}
use Rattle.gl_logic.specs.IsTotal.{IsTotal}
use Rattle.gl_logic.proofs.Runs.{Run, Runs, run_var, run_const, run_if, run_prim, run_let, run_call, run_last, run_more, value_of_run, run_of_value, values_counted}
use Rattle.gl_logic.proofs.Facts.{AreFacts, AgreeBut, noted_holds, agree_past, facts_past}
use Rattle.gl_logic.proofs.Lexicographic.{Below, by_pairs}

pub every_parts : {A : Type 0} (P : A → Type 0) (xs ys : List A) → Every P (xs ++ ys) → Every P xs × Every P ys
every_parts P [] ys h = (tt, h)
every_parts P (x ∷ xs) ys h = let k = every_parts P xs ys h.1 in ((h.0, k.0), k.1)

pub every_any : {A : Type 0} (P : A → Type 0) (xs : List A) → ((x : A) → P x) → Every P xs
every_any P [] h = tt
every_any P (x ∷ xs) h = (h x, every_any P xs h)

-- a definition that has this arity
defined : (o : Option Definition) (n : ℕ) → option_map (λ d. length d.formals) o ≡ Some n → (d : Definition) × ((o ≡ Some d) × (length d.formals ≡ n))
defined None n e = none_some n e
defined (Some d) n e = (d, (refl, some_same _ _ e))

-- ---- one walk of a term with its facts: where each call opens, the term has a walk
abbrev pub Opens : List Definition → ℕ → List Object → Type 0
Opens ds f xs = (d : Definition) → slice_get ds f ≡ Some d → length xs ≡ length d.formals → Run ds (extended d.formals xs []) d.body

module _ (ds : List Definition) (is_member : ℕ → Bool) (start : List (ℕ × Object)) (Good : Governed → Type 0)
    (members : (c : Governed) → is_member c.callee ≡ true → Good c → (env : List (ℕ × Object)) → AgreeBut c.bound start env → AreFacts ds env c.facts → (rs : Runs ds env c.actuals) → Opens ds c.callee rs.run.values)
    (others : (f : ℕ) (xs : List Object) → is_member f ≡ false → Opens ds f xs) where
  opens_at : (b : Bool) (f : ℕ) (ts : Exps) (env : List (ℕ × Object)) (bound : List ℕ) (fs : List Fact) → is_member f ≡ b → AgreeBut bound start env → AreFacts ds env fs → (rs : Runs ds env ts)
      → Every Good (cond b (record { callee = f; actuals = ts; facts = fs; bound = bound } ∷ []) []) → Opens ds f rs.run.values
  opens_at true f ts env bound fs e a h rs g = members (record { callee = f; actuals = ts; facts = fs; bound = bound }) e g.0 env a h rs
  opens_at false f ts env bound fs e a h rs g = others f rs.run.values e

  mutual
    pub run_of : (t : Exp) (env : List (ℕ × Object)) (bound : List ℕ) (fs : List Fact) → IsTermOf ds t → AgreeBut bound start env → AreFacts ds env fs → Every Good (calls_in is_member bound fs t) → Run ds env t
    run_of (Var v) env bound fs w a h g = run_var ds env v
    run_of (Const x) env bound fs w a h g = run_const ds env x
    run_of (If t p q) env bound fs w a h g =
        let g1 = every_parts Good (calls_in is_member bound fs t) (calls_in is_member bound (noted t true fs) p ++ calls_in is_member bound (noted t false fs) q) g in
        let g2 = every_parts Good (calls_in is_member bound (noted t true fs) p) (calls_in is_member bound (noted t false fs) q) g1.1 in
        let r : Run ds env t = run_of t env bound fs w.0 a h g1.0 in
        run_if ds env t p q r
        (λ e. run_of p env bound (noted t true fs) w.1 a (noted_holds ds env t true fs (record { has = r; truth = e }) h) g2.0)
        (λ e. run_of q env bound (noted t false fs) w.2 a (noted_holds ds env t false fs (record { has = r; truth = e }) h) g2.1)
    run_of (Prim p ts) env bound fs w a h g = run_prim ds env p ts (runs_of ts env bound fs w.1 a h g)
    run_of (Call f ts) env bound fs w a h g =
        let g1 = every_parts Good (cond (is_member f) (record { callee = f; actuals = ts; facts = fs; bound = bound } ∷ []) []) (calls_in_all is_member bound fs ts) g in
        let rs : Runs ds env ts = runs_of ts env bound fs w.1 a h g1.1 in
        let d = defined (slice_get ds f) (count_of ts) w.0 in
        run_call ds env f ts d.0 rs d.1.0 (opens_at (is_member f) f ts env bound fs refl a h rs g1.0 d.0 d.1.0 (values_counted (opened ds rs.depth) ts env rs.run rs.walks ∙ sym d.1.1))
    run_of (Let vs ts b) env bound fs w a h g =
        let g1 = every_parts Good (calls_in_all is_member bound fs ts) (calls_in is_member (vs ++ bound) (unbound vs fs) b) g in
        let rs : Runs ds env ts = runs_of ts env bound fs w.1 a h g1.0 in
        run_let ds env vs ts b rs (run_of b (extended vs rs.run.values env) (vs ++ bound) (unbound vs fs) w.2 (agree_past vs rs.run.values bound start env a) (facts_past ds vs rs.run.values env fs h) g1.1)

    pub runs_of : (ts : Exps) (env : List (ℕ × Object)) (bound : List ℕ) (fs : List Fact) → AreTermsOf ds ts → AgreeBut bound start env → AreFacts ds env fs → Every Good (calls_in_all is_member bound fs ts) → Runs ds env ts
    runs_of Last env bound fs w a h g = run_last ds env
    runs_of (More t ts) env bound fs w a h g =
        let g1 = every_parts Good (calls_in is_member bound fs t) (calls_in_all is_member bound fs ts) g in
        run_more ds env t ts (run_of t env bound fs w.0 a h g1.0) (runs_of ts env bound fs w.1 a h g1.1)

run_kept : (ds group : List Definition) (env : List (ℕ × Object)) (t : Exp) → Run ds env t → Run (ds ++ group) env t
run_kept ds group env t r = record { depth = r.depth; run = r.run; walks = walk_kept ds group r.depth env t r.run r.walks }

-- ---- a call on constants opens a body
constants_counted : (xs : List Object) → count_of (constant_terms xs) ≡ length xs
constants_counted [] = refl
constants_counted (x ∷ xs) = let k = constants_counted xs in omega (arith, k)

constants_terms : (ds : List Definition) (xs : List Object) → AreTermsOf ds (constant_terms xs)
constants_terms ds [] = tt
constants_terms ds (x ∷ xs) = (tt, constants_terms ds xs)

constants_values : (c : ℕ → Walks → Option Walk) (xs : List Object) (env : List (ℕ × Object)) (r : Walks) → walks_by c (constant_terms xs) env ≡ Some r → r.values ≡ xs
constants_values c [] env r e = ap (λ (w : Walks). w.values) (sym (some_same _ r e))
constants_values c (x ∷ xs) env r e =
    let j = then_inverted (walks_by c (constant_terms xs) env) _ r e in
    ap (λ (w : Walks). w.values) (sym (some_same _ r j.1.1)) ∙ ap (λ (ys : List Object). x ∷ ys) (constants_values c xs env j.0 j.1.0)

opened_body : (ds : List Definition) (n : ℕ) (f : ℕ) (xs : Walks) (r : Walk) (d : Definition) → opened ds n f xs ≡ Some r → slice_get ds f ≡ Some d → Run ds (extended d.formals xs.values []) d.body
opened_body ds zero f xs r d e g = none_some r e
opened_body ds (suc n) f xs r d e g =
    let i = then_inverted (body_walk ds n f xs.values) _ r e in
    let j = then_inverted (slice_get ds f) _ i.0 i.1.0 in
    subst (λ (c : Definition). Run ds (extended c.formals xs.values []) c.body) (some_same j.0 d (sym j.1.0 ∙ g)) (record { depth = n; run = i.0; walks = j.1.1 })

-- in a total world each body has its value
pub opens_old : (ds : List Definition) → IsTotal ds → (f : ℕ) (xs : List Object) → Opens ds f xs
opens_old ds total f xs d e l =
    let w : arity_in ds f ≡ Some (count_of (constant_terms xs)) = ap (option_map (λ d. length d.formals)) e ∙ ap Some (sym l ∙ sym (constants_counted xs)) in
    let v = total [] (Call f (constant_terms xs)) (w, constants_terms ds xs) in
    let r = run_of_value ds [] (Call f (constant_terms xs)) v.0 v.1 in
    let i = then_inverted (walks_by (opened ds r.depth) (constant_terms xs) []) (opened ds r.depth f) r.run r.walks in
    subst (λ (ys : List Object). Run ds (extended d.formals ys []) d.body) (constants_values (opened ds r.depth) xs [] i.0 i.1.0) (opened_body ds r.depth f i.0 r.run d i.1.1 e)

-- ---- the law, for any notion of a step
module _ (ds group : List Definition) (is_one : ℕ → Bool) (size : ℕ → List Object → ℕ × ℕ) (Step : Definition → Governed → Type 0)
    (total : IsTotal ds)
    (before : (f : ℕ) (d : Definition) → is_one f ≡ false → slice_get (ds ++ group) f ≡ Some d → slice_get ds f ≡ Some d)
    (terms : (f : ℕ) (d : Definition) → slice_get (ds ++ group) f ≡ Some d → is_one f ≡ true → IsTermOf (ds ++ group) d.body)
    (steps : (f : ℕ) (d : Definition) → slice_get (ds ++ group) f ≡ Some d → is_one f ≡ true → Every (Step d) (calls_in is_one [] [] d.body))
    (falls : (f : ℕ) (d : Definition) (c : Governed) (xs : List Object) (env : List (ℕ × Object)) → slice_get (ds ++ group) f ≡ Some d → Step d c → length xs ≡ length d.formals
    → AgreeBut c.bound (extended d.formals xs []) env → AreFacts (ds ++ group) env c.facts → (r : Runs (ds ++ group) env c.actuals) → Below (size c.callee r.run.values) (size f xs)) where
  opens_kept : (f : ℕ) (xs : List Object) → is_one f ≡ false → Opens (ds ++ group) f xs
  opens_kept f xs h d e l = run_kept ds group (extended d.formals xs []) d.body (opens_old ds total f xs d (before f d h e) l)

  opens_new : (x : ℕ × List Object) → is_one x.0 ≡ true → Opens (ds ++ group) x.0 x.1
  opens_new = by_pairs {A = ℕ × List Object} (λ x. size x.0 x.1) (λ x. is_one x.0 ≡ true → Opens (ds ++ group) x.0 x.1) (λ x next new d e l.
      run_of (ds ++ group) is_one (extended d.formals x.1 []) (Step d)
      (λ c m g env a h rs. next (c.callee, rs.run.values) (falls x.0 d c x.1 env e g l a h rs) m)
      opens_kept
      d.body (extended d.formals x.1 []) [] [] (terms x.0 d e new) (λ v k. refl) tt (steps x.0 d e new))

  opens_at_all : (b : Bool) (f : ℕ) (xs : List Object) → is_one f ≡ b → Opens (ds ++ group) f xs
  opens_at_all true f xs h = opens_new (f, xs) h
  opens_at_all false f xs h = opens_kept f xs h

  opens_all : (f : ℕ) (xs : List Object) → Opens (ds ++ group) f xs
  opens_all f xs = opens_at_all (is_one f) f xs refl

  pub total_kept : IsTotal (ds ++ group)
  total_kept env t w =
      value_of_run (ds ++ group) env t (run_of (ds ++ group) (λ f. false) env (λ c. Unit {0}) (λ c m g env a h rs. opens_all c.callee rs.run.values) (λ f xs h. opens_all f xs) t env [] [] w (λ v k. refl) tt (every_any (λ c. Unit {0}) _ (λ c. tt)))

-- where there is no definition every term has a value
pub nothing_is_total : IsTotal []
nothing_is_total env t w = value_of_run [] env t (run_of [] (λ f. false) env (λ c. Unit {0}) (λ c m g env a h rs d e l. none_some d e) (λ f xs h d e l. none_some d e) t env [] [] w (λ v k. refl) tt (every_any (λ c. Unit {0}) _ (λ c. tt)))
