-- A term has a walk where its parts have theirs.
use Rattle.std.proofs.Common.{◌≡◌, ◌∙◌, ap, sym, refl, ℕ, zero, suc, ◌+◌, ◌-◌, ◌≤◌, List, [], ◌∷◌, Bool, true, false, Option, Some, arith, subst, slice_get, length}
use Rattle.gl_logic.specs.Object.{Object}
use Rattle.gl_logic.specs.ObjectEq.{is_nil}
use Rattle.gl_logic.specs.PrimValue.{prim_value}
use Rattle.gl_logic.specs.Environment.{look, extended}
use Rattle.gl_logic.specs.Definition.{Definition}
use Rattle.gl_logic.specs.IsTermOf.{count_of}
use Rattle.gl_logic.specs.Exp.{Exp, Exps, Var, Const, If, Prim, Call, Let, Last, More}
use Rattle.gl_logic.specs.Walk.{Walk, Walks, then, joined, walk_by, walks_by, opened, body_walk, walk}
use Rattle.gl_logic.specs.Evaluate.{HasValue}
use Rattle.gl_logic.proofs.Optional.{some_same, then_inverted}
use Rattle.gl_logic.proofs.Walks.{grow_all, opened_more, walk_deeper, walk_of_value}

-- a term's walk, and the depth that it takes
pub record Run (ds : List Definition) (env : List (ℕ × Object)) (t : Exp) : Type 0 where
  pub depth : ℕ
  pub run : Walk
  pub walks : walk ds depth env t ≡ Some run

pub record Runs (ds : List Definition) (env : List (ℕ × Object)) (ts : Exps) : Type 0 where
  pub depth : ℕ
  pub run : Walks
  pub walks : walks_by (opened ds depth) ts env ≡ Some run

pub then_is : {A B : Type 0} (p : Option A) (f : A → Option B) (a : A) (b : B) → p ≡ Some a → f a ≡ Some b → then p f ≡ Some b
then_is p f a b e g = ap (λ o. then o f) e ∙ g

pub pick_first : {A : Type 0} (b : Bool) (p q : Option A) (r : A) → b ≡ true → p ≡ Some r → elim b as (λ _. Option A) [ true ↦ p | false ↦ q ] ≡ Some r
pick_first true p q r h e = e
pick_first false p q r h e = absurd cc

pub pick_second : {A : Type 0} (b : Bool) (p q : Option A) (r : A) → b ≡ false → q ≡ Some r → elim b as (λ _. Option A) [ true ↦ p | false ↦ q ] ≡ Some r
pick_second true p q r h e = absurd cc
pick_second false p q r h e = e

-- ---- more depth keeps walks
opened_by_more : (ds : List Definition) (n k : ℕ) (f : ℕ) (xs : Walks) (r : Walk) → opened ds n f xs ≡ Some r → opened ds (k + n) f xs ≡ Some r
opened_by_more ds n zero f xs r e = let z : n ≡ 0 + n = omega arith in subst (λ (m : ℕ). opened ds m f xs ≡ Some r) z e
opened_by_more ds n (suc k) f xs r e = let z : suc (k + n) ≡ suc k + n = omega arith in subst (λ (m : ℕ). opened ds m f xs ≡ Some r) z (opened_more ds (k + n) f xs r (opened_by_more ds n k f xs r e))

pub walks_deeper : (ds : List Definition) (n m : ℕ) (env : List (ℕ × Object)) (ts : Exps) (r : Walks) → n ≤ m → walks_by (opened ds n) ts env ≡ Some r → walks_by (opened ds m) ts env ≡ Some r
walks_deeper ds n m env ts r h e = let z : (m - n) + n ≡ m = omega (arith, h) in subst (λ (k : ℕ). walks_by (opened ds k) ts env ≡ Some r) z (grow_all (opened ds n) (opened ds ((m - n) + n)) (opened_by_more ds n (m - n)) ts env r e)

module _ (ds : List Definition) (env : List (ℕ × Object)) where
  pub run_var : (v : ℕ) → Run ds env (Var v)
  run_var v = record { depth = 0; run = record { value = look env v; seen = look env v ∷ []; made = [] }; walks = refl }

  pub run_const : (x : Object) → Run ds env (Const x)
  run_const x = record { depth = 0; run = record { value = x; seen = x ∷ []; made = [] }; walks = refl }

  run_if_true : (t a b : Exp) (r : Run ds env t) → is_nil r.run.value ≡ false → Run ds env a → Run ds env (If t a b)
  run_if_true t a b r h s =
      let n = r.depth + s.depth in
      record {
        depth = n;
        run = record { value = s.run.value; seen = _; made = _ };
        walks = then_is (walk ds n env t) _ r.run _ (walk_deeper ds r.depth n env t r.run (omega arith) r.walks)
            (pick_second (is_nil r.run.value) _ _ _ h (then_is (walk ds n env a) _ s.run _ (walk_deeper ds s.depth n env a s.run (omega arith) s.walks) refl));
      }

  run_if_false : (t a b : Exp) (r : Run ds env t) → is_nil r.run.value ≡ true → Run ds env b → Run ds env (If t a b)
  run_if_false t a b r h s =
      let n = r.depth + s.depth in
      record {
        depth = n;
        run = record { value = s.run.value; seen = _; made = _ };
        walks = then_is (walk ds n env t) _ r.run _ (walk_deeper ds r.depth n env t r.run (omega arith) r.walks)
            (pick_first (is_nil r.run.value) _ _ _ h (then_is (walk ds n env b) _ s.run _ (walk_deeper ds s.depth n env b s.run (omega arith) s.walks) refl));
      }

  run_if_at : (c : Bool) (t a b : Exp) (r : Run ds env t) → is_nil r.run.value ≡ c → (is_nil r.run.value ≡ false → Run ds env a) → (is_nil r.run.value ≡ true → Run ds env b) → Run ds env (If t a b)
  run_if_at true t a b r h g k = run_if_false t a b r h (k h)
  run_if_at false t a b r h g k = run_if_true t a b r h (g h)

  pub run_if : (t a b : Exp) (r : Run ds env t) → (is_nil r.run.value ≡ false → Run ds env a) → (is_nil r.run.value ≡ true → Run ds env b) → Run ds env (If t a b)
  run_if t a b r g k = run_if_at (is_nil r.run.value) t a b r refl g k

  pub run_prim : (p : _) (ts : Exps) → Runs ds env ts → Run ds env (Prim p ts)
  run_prim p ts rs = record { depth = rs.depth; run = record { value = prim_value p rs.run.values; seen = _; made = _ }; walks = then_is (walks_by (opened ds rs.depth) ts env) _ rs.run _ rs.walks refl }

  pub run_let : (vs : List ℕ) (ts : Exps) (b : Exp) (rs : Runs ds env ts) → Run ds (extended vs rs.run.values env) b → Run ds env (Let vs ts b)
  run_let vs ts b rs s =
      let n = rs.depth + s.depth in
      record {
        depth = n;
        run = record { value = s.run.value; seen = _; made = _ };
        walks = then_is (walks_by (opened ds n) ts env) _ rs.run _ (walks_deeper ds rs.depth n env ts rs.run (omega arith) rs.walks)
            (then_is (walk ds n (extended vs rs.run.values env) b) _ s.run _ (walk_deeper ds s.depth n (extended vs rs.run.values env) b s.run (omega arith) s.walks) refl);
      }

  pub run_call : (f : ℕ) (ts : Exps) (d : Definition) (rs : Runs ds env ts) → slice_get ds f ≡ Some d → Run ds (extended d.formals rs.run.values []) d.body → Run ds env (Call f ts)
  run_call f ts d rs e s =
      let n = rs.depth + s.depth in
      record {
        depth = suc n;
        run = record { value = s.run.value; seen = _; made = _ };
        walks = then_is (walks_by (opened ds (suc n)) ts env) _ rs.run _ (walks_deeper ds rs.depth (suc n) env ts rs.run (omega arith) rs.walks)
            (then_is (body_walk ds n f rs.run.values) _ s.run _
            (then_is (slice_get ds f) _ d _ e (walk_deeper ds s.depth n (extended d.formals rs.run.values []) d.body s.run (omega arith) s.walks)) refl);
      }

  pub run_last : Runs ds env Last
  run_last = record { depth = 0; run = record { values = []; seen = []; made = [] }; walks = refl }

  pub run_more : (t : Exp) (ts : Exps) → Run ds env t → Runs ds env ts → Runs ds env (More t ts)
  run_more t ts r rs =
      let n = r.depth + rs.depth in
      record {
        depth = n;
        run = record { values = r.run.value ∷ rs.run.values; seen = _; made = _ };
        walks = then_is (walk ds n env t) _ r.run _ (walk_deeper ds r.depth n env t r.run (omega arith) r.walks)
            (then_is (walks_by (opened ds n) ts env) _ rs.run _ (walks_deeper ds rs.depth n env ts rs.run (omega arith) rs.walks) refl);
      }

-- ---- a value and a walk
pub value_of_run : (ds : List Definition) (env : List (ℕ × Object)) (t : Exp) → Run ds env t → (x : Object) × HasValue ds env t x
value_of_run ds env t r = (r.run.value, (r.depth, then_is (walk ds r.depth env t) _ r.run _ r.walks refl))

pub run_of_value : (ds : List Definition) (env : List (ℕ × Object)) (t : Exp) (x : Object) → HasValue ds env t x → Run ds env t
run_of_value ds env t x h = let r = walk_of_value ds h.0 env t x h.1 in record { depth = h.0; run = r.0; walks = r.1.0 }

-- ---- the values are as many as the terms
pub values_counted : (c : ℕ → Walks → Option Walk) (ts : Exps) (env : List (ℕ × Object)) (r : Walks) → walks_by c ts env ≡ Some r → length r.values ≡ count_of ts
values_counted c Last env r e = ap (λ (w : Walks). length w.values) (sym (some_same _ r e))
values_counted c (More t ts) env r e =
    let i = then_inverted (walk_by c t env) _ r e in
    let j = then_inverted (walks_by c ts env) (joined i.0) r i.1.1 in
    let k : length j.0.values ≡ count_of ts = values_counted c ts env j.0 j.1.0 in
    let q : r.values ≡ i.0.value ∷ j.0.values = ap (λ (w : Walks). w.values) (sym (some_same _ r j.1.1)) in
    let z : length r.values ≡ suc (length j.0.values) = ap length q in omega (arith, z, k)
