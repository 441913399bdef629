-- More depth keeps a walk.
use Rattle.std.proofs.Common.{◌≡◌, ◌∙◌, ap, sym, refl, ℕ, zero, suc, ◌+◌, ◌-◌, ◌≤◌, List, [], Bool, true, false, Option, Some, None, arith, subst, slice_get}
use Rattle.gl_logic.specs.Object.{Object}
use Rattle.gl_logic.specs.ObjectEq.{is_nil}
use Rattle.gl_logic.specs.Environment.{extended}
use Rattle.gl_logic.specs.Definition.{Definition}
use Rattle.gl_logic.specs.Exp.{Exp, Exps, Var, Const, If, Prim, Call, Let, Last, More}
use Rattle.gl_logic.specs.Walk.{Walk, Walks, then, walk_by, walks_by, body_by, opened, body_walk, walk}
use Rattle.gl_logic.specs.Evaluate.{evaluate, HasValue}
use Rattle.gl_logic.proofs.Optional.{none_some, some_same, then_inverted}

pub then_both : {A B : Type 0} (o o' : Option A) (f f' : A → Option B) (r : B) → ((a : A) → o ≡ Some a → o' ≡ Some a) → ((a : A) → f a ≡ Some r → f' a ≡ Some r) → then o f ≡ Some r → then o' f' ≡ Some r
then_both None o' f f' r g h e = none_some r e
then_both (Some a) o' f f' r g h e = rw (g a refl) (h a e)

pub pick_both : {A : Type 0} (b : Bool) (p p' q q' : Option A) (r : A) → (p ≡ Some r → p' ≡ Some r) → (q ≡ Some r → q' ≡ Some r) → elim b as (λ _. Option A) [ true ↦ p | false ↦ q ] ≡ Some r → elim b as (λ _. Option A) [ true ↦ p' | false ↦ q' ] ≡ Some r
pick_both true p p' q q' r g h e = g e
pick_both false p p' q q' r g h e = h e

module _ (c d : ℕ → Walks → Option Walk) (grows : (f : ℕ) (xs : Walks) (r : Walk) → c f xs ≡ Some r → d f xs ≡ Some r) where
  mutual
    pub grow : (t : Exp) (env : List (ℕ × Object)) (r : Walk) → walk_by c t env ≡ Some r → walk_by d t env ≡ Some r
    grow (Var v) env r = λ e. e
    grow (Const x) env r = λ e. e
    grow (If t a b) env r = then_both _ _ _ _ r (grow t env) (λ x. pick_both (is_nil x.value) _ _ _ _ r (then_both _ _ _ _ r (grow b env) (λ y k. k)) (then_both _ _ _ _ r (grow a env) (λ y k. k)))
    grow (Prim p ts) env r = then_both _ _ _ _ r (grow_all ts env) (λ xs k. k)
    grow (Call f ts) env r = then_both _ _ _ _ r (grow_all ts env) (λ xs. grows f xs r)
    grow (Let vs ts b) env r = then_both _ _ _ _ r (grow_all ts env) (λ xs. then_both _ _ _ _ r (grow b (extended vs xs.values env)) (λ y k. k))

    pub grow_all : (ts : Exps) (env : List (ℕ × Object)) (r : Walks) → walks_by c ts env ≡ Some r → walks_by d ts env ≡ Some r
    grow_all Last env r = λ e. e
    grow_all (More t ts) env r = then_both _ _ _ _ r (grow t env) (λ x. then_both _ _ _ _ r (grow_all ts env) (λ y k. k))

  pub body_grows : (ds : List Definition) (f : ℕ) (xs : List Object) (r : Walk) → body_by c ds f xs ≡ Some r → body_by d ds f xs ≡ Some r
  body_grows ds f xs r = then_both (slice_get ds f) (slice_get ds f) _ _ r (λ k e. e) (λ k. grow k.body (extended k.formals xs []) r)

pub opened_more : (ds : List Definition) (n : ℕ) (f : ℕ) (xs : Walks) (r : Walk) → opened ds n f xs ≡ Some r → opened ds (suc n) f xs ≡ Some r
opened_more ds zero f xs r = none_some r
opened_more ds (suc n) f xs r = then_both _ _ _ _ r (body_grows (opened ds n) (opened ds (suc n)) (opened_more ds n) ds f xs.values) (λ y k. k)

pub body_more : (ds : List Definition) (n : ℕ) (f : ℕ) (xs : List Object) (r : Walk) → body_walk ds n f xs ≡ Some r → body_walk ds (suc n) f xs ≡ Some r
body_more ds n = body_grows (opened ds n) (opened ds (suc n)) (opened_more ds n) ds

pub walk_more : (ds : List Definition) (n : ℕ) (env : List (ℕ × Object)) (t : Exp) (r : Walk) → walk ds n env t ≡ Some r → walk ds (suc n) env t ≡ Some r
walk_more ds n env t r = grow (opened ds n) (opened ds (suc n)) (opened_more ds n) t env r

pub walk_by_more : (ds : List Definition) (n k : ℕ) (env : List (ℕ × Object)) (t : Exp) (r : Walk) → walk ds n env t ≡ Some r → walk ds (k + n) env t ≡ Some r
walk_by_more ds n zero env t r e = let z : n ≡ 0 + n = omega arith in subst (λ (m : ℕ). walk ds m env t ≡ Some r) z e
walk_by_more ds n (suc k) env t r e = let z : suc (k + n) ≡ suc k + n = omega arith in subst (λ (m : ℕ). walk ds m env t ≡ Some r) z (walk_more ds (k + n) env t r (walk_by_more ds n k env t r e))

pub walk_deeper : (ds : List Definition) (n m : ℕ) (env : List (ℕ × Object)) (t : Exp) (r : Walk) → n ≤ m → walk ds n env t ≡ Some r → walk ds m env t ≡ Some r
walk_deeper ds n m env t r h e = let z : (m - n) + n ≡ m = omega (arith, h) in subst (λ (k : ℕ). walk ds k env t ≡ Some r) z (walk_by_more ds n (m - n) env t r e)

pub walk_unique : (ds : List Definition) (n m : ℕ) (env : List (ℕ × Object)) (t : Exp) (r s : Walk) → walk ds n env t ≡ Some r → walk ds m env t ≡ Some s → r ≡ s
walk_unique ds n m env t r s e g = some_same r s (sym (walk_deeper ds n (n + m) env t r (omega arith) e) ∙ walk_deeper ds m (n + m) env t s (omega arith) g)

abbrev pub HasWalk : List Definition → ℕ → List (ℕ × Object) → Exp → Object → Type 0
HasWalk ds n env t x = (r : Walk) × ((walk ds n env t ≡ Some r) × (r.value ≡ x))

pub walk_of_value : (ds : List Definition) (n : ℕ) (env : List (ℕ × Object)) (t : Exp) (x : Object) → evaluate ds n env t ≡ Some x → HasWalk ds n env t x
walk_of_value ds n env t x e = let i = then_inverted (walk ds n env t) (λ r. Some r.value) x e in (i.0, (i.1.0, some_same _ _ i.1.1))

pub value_unique : (ds : List Definition) (env : List (ℕ × Object)) (t : Exp) (x y : Object) → HasValue ds env t x → HasValue ds env t y → x ≡ y
value_unique ds env t x y h k =
    let r = walk_of_value ds h.0 env t x h.1 in
    let s = walk_of_value ds k.0 env t y k.1 in
    sym r.1.1 ∙ (ap (λ (w : Walk). w.value) (walk_unique ds h.0 k.0 env t r.0 s.0 r.1.0 s.1.0) ∙ s.1.1)
