-- Walks that do not open the calls of some functions.
use Rattle.std.proofs.Common.{◌≡◌, ◌∙◌, ap, refl, ℕ, zero, suc, ◌+◌, List, [], ◌∷◌, ◌++◌, Bool, true, false, Option, Some, None, arith, subst, slice_get}
use Rattle.gl_logic.specs.Object.{Object}
use Rattle.gl_logic.specs.ObjectEq.{is_nil}
use Rattle.gl_logic.specs.PrimValue.{prim_value}
use Rattle.gl_logic.specs.Environment.{extended}
use Rattle.gl_logic.specs.Definition.{Definition}
use Rattle.gl_logic.specs.Exp.{Exp, Exps, Var, Const, If, Prim, Call, Let, Last, More}
use Rattle.gl_logic.specs.Walk.{Walk, Walks, CallMade, then, ended, gathered, joined, walk_by, walks_by, body_by, opened, walk}
use Rattle.gl_logic.specs.Counts.{own_opened, is_among}
use Rattle.gl_logic.proofs.Optional.{none_some, some_same, Follows, then_follows, pick_follows}
use Rattle.gl_logic.proofs.Walks.{then_both, grow, body_grows, opened_more}

abbrev pub value_in : Walk → Object
value_in r = r.value

abbrev pub values_in : Walks → List Object
values_in rs = rs.values

pub ended_follows : (before before' : List Object) (made made' : List CallMade) (a a' : Walk) → value_in a' ≡ value_in a → Follows value_in (ended before made a) (ended before' made' a')
ended_follows before before' made made' a a' v r e = (record { value = a'.value; seen = before' ++ a'.seen ++ a'.value ∷ []; made = made' ++ a'.made }, (refl, v ∙ ap value_in (some_same _ _ e)))

pub gathered_follows : (x x' : Object) (a a' : Walks) → x' ≡ x → Follows value_in (gathered x a) (gathered x' a')
gathered_follows x x' a a' v r e = (record { value = x'; seen = a'.seen ++ x' ∷ []; made = a'.made }, (refl, v ∙ ap value_in (some_same _ _ e)))

pub joined_follows : (a a' : Walk) (b b' : Walks) → value_in a' ≡ value_in a → values_in b' ≡ values_in b → Follows values_in (joined a b) (joined a' b')
joined_follows a a' b b' v w r e = (record { values = a'.value ∷ b'.values; seen = a'.seen ++ b'.seen; made = a'.made ++ b'.made }, (refl, (λ i. v i ∷ w i) ∙ ap values_in (some_same _ _ e)))

module _ (c d : ℕ → Walks → Option Walk) (follows : (f : ℕ) (xs xs' : Walks) → values_in xs' ≡ values_in xs → Follows value_in (c f xs) (d f xs')) where
  mutual
    pub walk_follows : (t : Exp) (env env' : List (ℕ × Object)) → env' ≡ env → Follows value_in (walk_by c t env) (walk_by d t env')
    walk_follows (Var v) env env' q = λ r e. (r, (ap (λ x. walk_by d (Var v) x) q ∙ e, refl))
    walk_follows (Const x) env env' q = λ r e. (r, (e, refl))
    walk_follows (If t a b) env env' q = then_follows value_in value_in (walk_by c t env) (walk_by d t env') _ _ (walk_follows t env env' q) (λ x x' v. pick_follows value_in (is_nil x.value) (is_nil x'.value) _ _ _ _ (ap is_nil v)
        (then_follows value_in value_in (walk_by c b env) (walk_by d b env') _ _ (walk_follows b env env' q) (ended_follows _ _ _ _))
        (then_follows value_in value_in (walk_by c a env) (walk_by d a env') _ _ (walk_follows a env env' q) (ended_follows _ _ _ _)))
    walk_follows (Prim p ts) env env' q = then_follows values_in value_in (walks_by c ts env) (walks_by d ts env') _ _ (walks_follow ts env env' q) (λ xs xs' v. gathered_follows _ _ xs xs' (ap (prim_value p) v))
    walk_follows (Call f ts) env env' q = then_follows values_in value_in (walks_by c ts env) (walks_by d ts env') _ _ (walks_follow ts env env' q) (follows f)
    walk_follows (Let vs ts b) env env' q = then_follows values_in value_in (walks_by c ts env) (walks_by d ts env') _ _ (walks_follow ts env env' q) (λ xs xs' v.
        then_follows value_in value_in (walk_by c b (extended vs xs.values env)) (walk_by d b (extended vs xs'.values env')) _ _ (walk_follows b _ _ (λ i. extended vs (v i) (q i))) (ended_follows _ _ _ _))

    pub walks_follow : (ts : Exps) (env env' : List (ℕ × Object)) → env' ≡ env → Follows values_in (walks_by c ts env) (walks_by d ts env')
    walks_follow Last env env' q = λ r e. (r, (e, refl))
    walks_follow (More t ts) env env' q = then_follows value_in values_in (walk_by c t env) (walk_by d t env') _ _ (walk_follows t env env' q) (λ x x' v.
        then_follows values_in values_in (walks_by c ts env) (walks_by d ts env') _ _ (walks_follow ts env env' q) (λ xs xs' w. joined_follows x x' xs xs' v w))

-- a value's walk is there, with the same value, where some functions are not opened
module _ (c d : ℕ → Walks → Option Walk) (h : (f : ℕ) (xs xs' : Walks) → values_in xs' ≡ values_in xs → Follows value_in (c f xs) (d f xs')) where
  body_follows : (o : Option Definition) (xs xs' : List Object) → xs' ≡ xs → Follows value_in (then o (λ k. walk_by c k.body (extended k.formals xs []))) (then o (λ k. walk_by d k.body (extended k.formals xs' [])))
  body_follows None xs xs' v = λ r e. none_some r e
  body_follows (Some k) xs xs' v = walk_follows c d h k.body _ _ (λ i. extended k.formals (v i) [])

  call_follows : (ds : List Definition) (f : ℕ) (xs xs' : Walks) → values_in xs' ≡ values_in xs
      → Follows value_in (then (body_by c ds f xs.values) (ended xs.seen (xs.made ++ (f, xs.values) ∷ []))) (then (body_by d ds f xs'.values) (ended xs'.seen (xs'.made ++ (f, xs'.values) ∷ [])))
  call_follows ds f xs xs' v = then_follows value_in value_in (body_by c ds f xs.values) (body_by d ds f xs'.values) _ _ (body_follows (slice_get ds f) xs.values xs'.values v) (ended_follows _ _ _ _)

opened_again : (ds : List Definition) (n f : ℕ) (xs xs' : Walks) → values_in xs' ≡ values_in xs → Follows value_in (opened ds n f xs) (opened ds n f xs')
opened_again ds zero f xs xs' v = λ r e. none_some r e
opened_again ds (suc n) f xs xs' v = call_follows (opened ds n) (opened ds n) (opened_again ds n) ds f xs xs' v

own_follows_at : (ds : List Definition) (functions : List ℕ) (n f : ℕ) (b : Bool) (xs xs' : Walks) → values_in xs' ≡ values_in xs
    → ((g : ℕ) (ys ys' : Walks) → values_in ys' ≡ values_in ys → Follows value_in (opened ds n g ys) (own_opened ds functions n g ys'))
    → Follows value_in (opened ds (suc n) f xs) (elim b as (λ _. Option Walk) [
      | true ↦ then (opened ds (suc n) f xs') (λ r. gathered r.value xs')
      | false ↦ then (body_by (own_opened ds functions n) ds f xs'.values) (ended xs'.seen (xs'.made ++ (f, xs'.values) ∷ []))
    ])
own_follows_at ds functions n f true xs xs' v h = λ r e.
    let s = opened_again ds (suc n) f xs xs' v r e in
    (record { value = s.0.value; seen = xs'.seen ++ s.0.value ∷ []; made = xs'.made }, (ap (λ o. then o (λ r. gathered r.value xs')) s.1.0, s.1.1))
own_follows_at ds functions n f false xs xs' v h = call_follows (opened ds n) (own_opened ds functions n) h ds f xs xs' v

pub own_follows : (ds : List Definition) (functions : List ℕ) (n f : ℕ) (xs xs' : Walks) → values_in xs' ≡ values_in xs → Follows value_in (opened ds n f xs) (own_opened ds functions n f xs')
own_follows ds functions zero f xs xs' v = λ r e. none_some r e
own_follows ds functions (suc n) f xs xs' v = own_follows_at ds functions n f (is_among functions f) xs xs' v (own_follows ds functions n)

-- ---- more depth
own_more_at : (ds : List Definition) (functions : List ℕ) (n f : ℕ) (b : Bool) (xs : Walks) (r : Walk)
    → ((g : ℕ) (ys : Walks) (s : Walk) → own_opened ds functions n g ys ≡ Some s → own_opened ds functions (suc n) g ys ≡ Some s)
    → elim b as (λ _. Option Walk) [
      | true ↦ then (opened ds (suc n) f xs) (λ r. gathered r.value xs)
      | false ↦ then (body_by (own_opened ds functions n) ds f xs.values) (ended xs.seen (xs.made ++ (f, xs.values) ∷ []))
    ] ≡ Some r
    → elim b as (λ _. Option Walk) [
      | true ↦ then (opened ds (suc (suc n)) f xs) (λ r. gathered r.value xs)
      | false ↦ then (body_by (own_opened ds functions (suc n)) ds f xs.values) (ended xs.seen (xs.made ++ (f, xs.values) ∷ []))
    ] ≡ Some r
own_more_at ds functions n f true xs r h = then_both _ _ _ _ r (opened_more ds (suc n) f xs) (λ y k. k)
own_more_at ds functions n f false xs r h = then_both _ _ _ _ r (body_grows (own_opened ds functions n) (own_opened ds functions (suc n)) h ds f xs.values) (λ y k. k)

pub own_more : (ds : List Definition) (functions : List ℕ) (n f : ℕ) (xs : Walks) (r : Walk) → own_opened ds functions n f xs ≡ Some r → own_opened ds functions (suc n) f xs ≡ Some r
own_more ds functions zero f xs r = none_some r
own_more ds functions (suc n) f xs r = own_more_at ds functions n f (is_among functions f) xs r (own_more ds functions n)

abbrev pub own_walk : List Definition → List ℕ → ℕ → List (ℕ × Object) → Exp → Option Walk
own_walk ds functions n env t = walk_by (own_opened ds functions n) t env

pub own_walk_more : (ds : List Definition) (functions : List ℕ) (n k : ℕ) (env : List (ℕ × Object)) (t : Exp) (r : Walk) → own_walk ds functions n env t ≡ Some r → own_walk ds functions (k + n) env t ≡ Some r
own_walk_more ds functions n zero env t r e = let z : n ≡ 0 + n = omega arith in subst (λ (m : ℕ). own_walk ds functions m env t ≡ Some r) z e
own_walk_more ds functions n (suc k) env t r e =
    let z : suc (k + n) ≡ suc k + n = omega arith in
    subst (λ (m : ℕ). own_walk ds functions m env t ≡ Some r) z (grow (own_opened ds functions (k + n)) (own_opened ds functions (suc (k + n))) (own_more ds functions (k + n)) t env r (own_walk_more ds functions n k env t r e))

pub own_walk_there : (ds : List Definition) (functions : List ℕ) (n : ℕ) (env : List (ℕ × Object)) (t : Exp) (r : Walk) → walk ds n env t ≡ Some r → (s : Walk) × (own_walk ds functions n env t ≡ Some s)
own_walk_there ds functions n env t r e = let s = walk_follows (opened ds n) (own_opened ds functions n) (own_follows ds functions n) t env env refl r e in (s.0, s.1.0)
