-- A walk of a term without calls and lets has the value that computes; and a ground definition's call has its body's.
use Rattle.std.proofs.Common.{◌≡◌, ◌∙◌, ap, sym, refl, ℕ, zero, suc, List, [], ◌∷◌, Bool, true, false, ◌&&◌, eqb, Option, Some, None, subst, arith, slice_get, length}
use Rattle.std.specs.Prelude.{IfSome}
use Rattle.std.specs.List.{position_or_len}
use Rattle.std.proofs.lemmas.Bool.{and_parts}
use Rattle.gl_logic.specs.Object.{Object}
use Rattle.gl_logic.specs.ObjectEq.{is_nil}
use Rattle.gl_logic.specs.PrimValue.{prim_value}
use Rattle.gl_logic.specs.Environment.{look, extended}
use Rattle.gl_logic.specs.Definition.{Definition}
use Rattle.gl_logic.specs.Ground.{Ground, ground}
use Rattle.gl_logic.specs.IsGround.{AreGround, placed, all_placed}
use Rattle.gl_logic.specs.Exp.{Exp, Exps, Var, Const, If, Prim, Call, Let, Last, More}
use Rattle.gl_logic.specs.Walk.{Walk, Walks, then, ended, joined, walk_by, walks_by, opened, body_walk}
use Rattle.gl_logic.proofs.Optional.{none_some, some_same, then_inverted}
use Rattle.gl_logic.specs.Object.{nil}
use Rattle.gl_logic.proofs.Runs.{Run, Runs}

-- ---- the value of a term without calls and lets, by computation
abbrev mutual
  pub is_simple : Exp → Bool
  is_simple (Var v) = true
  is_simple (Const x) = true
  is_simple (If t a b) = is_simple t && (is_simple a && is_simple b)
  is_simple (Prim p ts) = are_simple ts
  is_simple (Call f ts) = false
  is_simple (Let vs ts b) = false

  pub are_simple : Exps → Bool
  are_simple Last = true
  are_simple (More t ts) = is_simple t && are_simple ts

abbrev mutual
  pub simple_value : Exp → List (ℕ × Object) → Object
  simple_value (Var v) env = look env v
  simple_value (Const x) env = x
  simple_value (If t a b) env = elim (is_nil (simple_value t env)) [ true ↦ simple_value b env | false ↦ simple_value a env ]
  simple_value (Prim p ts) env = prim_value p (simple_values ts env)
  simple_value (Call f ts) env = nil
  simple_value (Let vs ts b) env = nil

  pub simple_values : Exps → List (ℕ × Object) → List Object
  simple_values Last env = []
  simple_values (More t ts) env = simple_value t env ∷ simple_values ts env

abbrev pub pick : Bool → Object → Object → Object
pick x p q = elim x [ true ↦ p | false ↦ q ]

module _ (c : ℕ → Walks → Option Walk) where
  branch : (x : Bool) (p q : Option Walk) (seen : List Object) (made : _) (r : Walk) (u v : Object) → elim x as (λ _. Option Walk) [ true ↦ then p (ended seen made) | false ↦ then q (ended seen made) ] ≡ Some r
      → ((s : Walk) → p ≡ Some s → s.value ≡ u) → ((s : Walk) → q ≡ Some s → s.value ≡ v) → r.value ≡ pick x u v
  branch true p q seen made r u v e g h = let i = then_inverted p (ended seen made) r e in ap (λ (w : Walk). w.value) (sym (some_same _ r i.1.1)) ∙ g i.0 i.1.0
  branch false p q seen made r u v e g h = let i = then_inverted q (ended seen made) r e in ap (λ (w : Walk). w.value) (sym (some_same _ r i.1.1)) ∙ h i.0 i.1.0

  mutual
    pub simple_walk : (t : Exp) (env : List (ℕ × Object)) (r : Walk) → is_simple t ≡ true → walk_by c t env ≡ Some r → r.value ≡ simple_value t env
    simple_walk (Var v) env r h e = ap (λ (w : Walk). w.value) (sym (some_same _ r e))
    simple_walk (Const x) env r h e = ap (λ (w : Walk). w.value) (sym (some_same _ r e))
    simple_walk (If t a b) env r h e =
        let k = and_parts (is_simple t) (is_simple a && is_simple b) h in
        let m = and_parts (is_simple a) (is_simple b) k.1 in
        let i = then_inverted (walk_by c t env) _ r e in
        branch (is_nil i.0.value) _ _ i.0.seen i.0.made r (simple_value b env) (simple_value a env) i.1.1 (λ s. simple_walk b env s m.1) (λ s. simple_walk a env s m.0)
        ∙ ap (λ (x : Object). pick (is_nil x) (simple_value b env) (simple_value a env)) (simple_walk t env i.0 k.0 i.1.0)
    simple_walk (Prim p ts) env r h e =
        let i = then_inverted (walks_by c ts env) _ r e in
        ap (λ (w : Walk). w.value) (sym (some_same _ r i.1.1)) ∙ ap (prim_value p) (simple_walks ts env i.0 h i.1.0)
    simple_walk (Call f ts) env r h e = absurd cc
    simple_walk (Let vs ts b) env r h e = absurd cc

    pub simple_walks : (ts : Exps) (env : List (ℕ × Object)) (r : Walks) → are_simple ts ≡ true → walks_by c ts env ≡ Some r → r.values ≡ simple_values ts env
    simple_walks Last env r h e = ap (λ (w : Walks). w.values) (sym (some_same _ r e))
    simple_walks (More t ts) env r h e =
        let k = and_parts (is_simple t) (are_simple ts) h in
        let i = then_inverted (walk_by c t env) _ r e in
        let j = then_inverted (walks_by c ts env) (joined i.0) r i.1.1 in
        ap (λ (w : Walks). w.values) (sym (some_same _ r j.1.1)) ∙ (λ z. simple_walk t env i.0 k.0 i.1.0 z ∷ simple_walks ts env j.0 k.1 j.1.0 z)

pub simple_run : (ds : List Definition) (env : List (ℕ × Object)) (t : Exp) (r : Run ds env t) → is_simple t ≡ true → r.run.value ≡ simple_value t env
simple_run ds env t r h = simple_walk (opened ds r.depth) t env r.run h r.walks

-- ---- a term and the same with its variables as places
module _ (formals : List ℕ) (env env' : List (ℕ × Object)) (same : (u : ℕ) → look env u ≡ look env' (position_or_len (eqb u) formals)) where
  mutual
    pub placed_value : (t : Exp) → is_simple (placed formals t) ≡ true → (is_simple t ≡ true) × (simple_value t env ≡ simple_value (placed formals t) env')
    placed_value (Var u) h = (refl, same u)
    placed_value (Const x) h = (refl, refl)
    placed_value (If t a b) h =
        let k = and_parts (is_simple (placed formals t)) (is_simple (placed formals a) && is_simple (placed formals b)) h in
        let m = and_parts (is_simple (placed formals a)) (is_simple (placed formals b)) k.1 in
        let pt = placed_value t k.0 in
        let pa = placed_value a m.0 in
        let pb = placed_value b m.1 in
        ((λ i. pt.0 i && (pa.0 i && pb.0 i)), (λ i. pick (is_nil (pt.1 i)) (pb.1 i) (pa.1 i)))
    placed_value (Prim p ts) h = let k = placed_values ts h in (k.0, ap (prim_value p) k.1)
    placed_value (Call f ts) h = absurd cc
    placed_value (Let vs ts b) h = absurd cc

    pub placed_values : (ts : Exps) → are_simple (all_placed formals ts) ≡ true → (are_simple ts ≡ true) × (simple_values ts env ≡ simple_values (all_placed formals ts) env')
    placed_values Last h = (refl, refl)
    placed_values (More t ts) h =
        let k = and_parts (is_simple (placed formals t)) (are_simple (all_placed formals ts)) h in
        let pt = placed_value t k.0 in
        let ps = placed_values ts k.1 in
        ((λ i. pt.0 i && ps.0 i), (λ i. pt.1 i ∷ ps.1 i))

-- ---- calls of ground definitions
one_place : (w : ℕ) (x : Object) (u : ℕ) → look ((w, x) ∷ []) u ≡ look ((0, x) ∷ []) (position_or_len (eqb u) (w ∷ []))
one_place w x u = grind arith

if_some_at : {A : Type 0} (P : A → Type 0) (o : Option A) (a : A) → o ≡ Some a → IfSome o P → P a
if_some_at P None a e h = none_some a e
if_some_at P (Some b) a e h = subst P (some_same b a e) h

-- the parts of a call's run
pub record CallRun (ds : List Definition) (env : List (ℕ × Object)) (f : ℕ) (ts : Exps) (x : Object) : Type 0 where
  pub definition : Definition
  pub there : slice_get ds f ≡ Some definition
  pub actuals : Runs ds env ts
  pub body : Run ds (extended definition.formals actuals.run.values []) definition.body
  pub value : body.run.value ≡ x

call_open : (ds : List Definition) (n : ℕ) (env : List (ℕ × Object)) (f : ℕ) (ts : Exps) (rs : Runs ds env ts) (r : Walk) → opened ds n f rs.run ≡ Some r → CallRun ds env f ts r.value
call_open ds zero env f ts rs r e = none_some r e
call_open ds (suc n) env f ts rs r e =
    let i = then_inverted (body_walk ds n f rs.run.values) _ r e in
    let j = then_inverted (slice_get ds f) _ i.0 i.1.0 in
    record { definition = j.0; there = j.1.0; actuals = rs; body = record { depth = n; run = i.0; walks = j.1.1 }; value = ap (λ (w : Walk). w.value) (some_same _ r i.1.1) }

pub call_run : (ds : List Definition) (env : List (ℕ × Object)) (f : ℕ) (ts : Exps) (r : Run ds env (Call f ts)) → CallRun ds env f ts r.run.value
call_run ds env f ts r =
    let i = then_inverted (walks_by (opened ds r.depth) ts env) (opened ds r.depth f) r.run r.walks in
    call_open ds r.depth env f ts (record { depth = r.depth; run = i.0; walks = i.1.0 }) r.run i.1.1

one_value : (xs : List Object) (x : Object) (d : List ℕ) (t g : Exp) → xs ≡ x ∷ [] → length d ≡ 1 → placed d t ≡ g → is_simple g ≡ true → (is_simple t ≡ true) × (simple_value t (extended d xs []) ≡ simple_value g ((0, x) ∷ []))
one_value xs x [] t g e l p s = absurd (omega (arith, l))
one_value xs x (w ∷ []) t g e l p s =
    let k = placed_value (w ∷ []) ((w, x) ∷ []) ((0, x) ∷ []) (one_place w x) t (ap is_simple p ∙ s) in
    (k.0, ap (λ (ys : List Object). simple_value t (extended (w ∷ []) ys [])) e ∙ (k.1 ∙ ap (λ (z : Exp). simple_value z ((0, x) ∷ [])) p))
one_value xs x (w ∷ (u ∷ d)) t g e l p s = absurd (omega (arith, l))

-- a call of a ground definition of one formal, without calls in its body
pub ground_value : (ds : List Definition) (known : AreGround ds) (env : List (ℕ × Object)) (f : ℕ) (g : Ground) (ts : Exps) (x : Object) → slice_get ground f ≡ Some g → g.arity ≡ 1 → is_simple g.body ≡ true → are_simple ts ≡ true → simple_values ts env ≡ x ∷ []
    → (r : Run ds env (Call f ts)) → r.run.value ≡ simple_value g.body ((0, x) ∷ [])
ground_value ds known env f g ts x e l s sa sv r =
    let c = call_run ds env f ts r in
    let d = c.definition in
    let q : (length d.formals ≡ g.arity) × (placed d.formals d.body ≡ g.body) = if_some_at (λ g. (length d.formals ≡ g.arity) × (placed d.formals d.body ≡ g.body)) (slice_get ground f) g e (known f d c.there) in
    let v : c.actuals.run.values ≡ x ∷ [] = simple_walks (opened ds c.actuals.depth) ts env c.actuals.run sa c.actuals.walks ∙ sv in
    let k = one_value c.actuals.run.values x d.formals d.body g.body v (q.0 ∙ l) q.1 s in
    sym c.value ∙ (simple_run ds (extended d.formals c.actuals.run.values []) d.body c.body k.0 ∙ k.1)

-- ---- a ground definition of one formal that hands it on to another
call_parts : (formals : List ℕ) (t : Exp) (h : ℕ) (ts : Exps) → placed formals t ≡ Call h ts → (us : Exps) × ((t ≡ Call h us) × (all_placed formals us ≡ ts))
call_parts formals (Call f us) h ts e = let p : f ≡ h = cc in (us, (ap (λ (k : ℕ). Call k us) p, cc))
call_parts formals (Var v) h ts e = absurd cc
call_parts formals (Const x) h ts e = absurd cc
call_parts formals (If t a b) h ts e = absurd cc
call_parts formals (Prim p us) h ts e = absurd cc
call_parts formals (Let vs us b) h ts e = absurd cc

handed : (ds : List Definition) (known : AreGround ds) (h : ℕ) (k : Ground) (d : List ℕ) (xs : List Object) (x : Object) (us : Exps) → slice_get ground h ≡ Some k → k.arity ≡ 1 → is_simple k.body ≡ true → length d ≡ 1 → xs ≡ x ∷ [] → all_placed d us ≡ More (Var 0) Last
    → (r : Run ds (extended d xs []) (Call h us)) → r.run.value ≡ simple_value k.body ((0, x) ∷ [])
handed ds known h k [] xs x us e a s l v p r = absurd (omega (arith, l))
handed ds known h k (w ∷ []) xs x us e a s l v p r =
    let m = placed_values (w ∷ []) ((w, x) ∷ []) ((0, x) ∷ []) (one_place w x) us (ap are_simple p) in
    ground_value ds known (extended (w ∷ []) xs []) h k us x e a s m.0 (ap (λ (ys : List Object). simple_values us (extended (w ∷ []) ys [])) v ∙ (m.1 ∙ ap (λ (z : Exps). simple_values z ((0, x) ∷ [])) p)) r
handed ds known h k (w ∷ (u ∷ d)) xs x us e a s l v p r = absurd (omega (arith, l))

pub ground_handed : (ds : List Definition) (known : AreGround ds) (env : List (ℕ × Object)) (f h : ℕ) (g k : Ground) (ts : Exps) (x : Object) → slice_get ground f ≡ Some g → g.arity ≡ 1 → g.body ≡ Call h (More (Var 0) Last)
    → slice_get ground h ≡ Some k → k.arity ≡ 1 → is_simple k.body ≡ true → are_simple ts ≡ true → simple_values ts env ≡ x ∷ [] → (r : Run ds env (Call f ts)) → r.run.value ≡ simple_value k.body ((0, x) ∷ [])
ground_handed ds known env f h g k ts x e l b e' l' s sa sv r =
    let c = call_run ds env f ts r in
    let d = c.definition in
    let q : (length d.formals ≡ g.arity) × (placed d.formals d.body ≡ g.body) = if_some_at (λ g. (length d.formals ≡ g.arity) × (placed d.formals d.body ≡ g.body)) (slice_get ground f) g e (known f d c.there) in
    let v : c.actuals.run.values ≡ x ∷ [] = simple_walks (opened ds c.actuals.depth) ts env c.actuals.run sa c.actuals.walks ∙ sv in
    let m = call_parts d.formals d.body h (More (Var 0) Last) (q.1 ∙ b) in
    let inner = subst (λ (t : Exp). (z : Run ds (extended d.formals c.actuals.run.values []) t) × (z.run.value ≡ r.run.value)) m.1.0 (c.body, c.value) in
    sym inner.1 ∙ handed ds known h k d.formals c.actuals.run.values x m.0 e' l' s (q.0 ∙ l) v m.1.1 inner.0

-- ---- the same of a ground definition of two formals
two_places : (w u : ℕ) (x y : Object) (z : ℕ) → look ((w, x) ∷ ((u, y) ∷ [])) z ≡ look ((0, x) ∷ ((1, y) ∷ [])) (position_or_len (eqb z) (w ∷ (u ∷ [])))
two_places w u x y z = grind arith

two_values : (xs : List Object) (x y : Object) (d : List ℕ) (t g : Exp) → xs ≡ x ∷ (y ∷ []) → length d ≡ 2 → placed d t ≡ g → is_simple g ≡ true → (is_simple t ≡ true) × (simple_value t (extended d xs []) ≡ simple_value g ((0, x) ∷ ((1, y) ∷ [])))
two_values xs x y [] t g e l p s = absurd (omega (arith, l))
two_values xs x y (w ∷ []) t g e l p s = absurd (omega (arith, l))
two_values xs x y (w ∷ (u ∷ [])) t g e l p s =
    let k = placed_value (w ∷ (u ∷ [])) ((w, x) ∷ ((u, y) ∷ [])) ((0, x) ∷ ((1, y) ∷ [])) (two_places w u x y) t (ap is_simple p ∙ s) in
    (k.0, ap (λ (ys : List Object). simple_value t (extended (w ∷ (u ∷ [])) ys [])) e ∙ (k.1 ∙ ap (λ (z : Exp). simple_value z ((0, x) ∷ ((1, y) ∷ []))) p))
two_values xs x y (w ∷ (u ∷ (v ∷ d))) t g e l p s = absurd (omega (arith, l))

pub ground_two : (ds : List Definition) (known : AreGround ds) (env : List (ℕ × Object)) (f : ℕ) (g : Ground) (ts : Exps) (x y : Object) → slice_get ground f ≡ Some g → g.arity ≡ 2 → is_simple g.body ≡ true → are_simple ts ≡ true → simple_values ts env ≡ x ∷ (y ∷ [])
    → (r : Run ds env (Call f ts)) → r.run.value ≡ simple_value g.body ((0, x) ∷ ((1, y) ∷ []))
ground_two ds known env f g ts x y e l s sa sv r =
    let c = call_run ds env f ts r in
    let d = c.definition in
    let q : (length d.formals ≡ g.arity) × (placed d.formals d.body ≡ g.body) = if_some_at (λ g. (length d.formals ≡ g.arity) × (placed d.formals d.body ≡ g.body)) (slice_get ground f) g e (known f d c.there) in
    let v : c.actuals.run.values ≡ x ∷ (y ∷ []) = simple_walks (opened ds c.actuals.depth) ts env c.actuals.run sa c.actuals.walks ∙ sv in
    let k = two_values c.actuals.run.values x y d.formals d.body g.body v (q.0 ∙ l) q.1 s in
    sym c.value ∙ (simple_run ds (extended d.formals c.actuals.run.values []) d.body c.body k.0 ∙ k.1)
