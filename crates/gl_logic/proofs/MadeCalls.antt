-- Each call that a walk makes opens a body that has a walk of its own.
use Rattle.std.proofs.Common.{◌≡◌, ℕ, zero, suc, List, [], ◌∷◌, ◌++◌, Bool, true, false, cond, Option, Some, subst, slice_get}
use Rattle.std.specs.List.{filter, list_any}
use Rattle.gl_logic.specs.Every.{Every}
use Rattle.gl_logic.specs.Object.{Object}
use Rattle.gl_logic.specs.ObjectEq.{is_nil}
use Rattle.gl_logic.specs.Environment.{extended}
use Rattle.gl_logic.specs.Definition.{Definition}
use Rattle.gl_logic.specs.Different.{different}
use Rattle.gl_logic.specs.Exp.{Exp, Exps, Var, Const, If, Prim, Call, Let, Last, More}
use Rattle.gl_logic.specs.Walk.{Walk, Walks, CallMade, ended, walk_by, walks_by, body_by, opened, body_walk, walk}
use Rattle.gl_logic.proofs.Optional.{none_some, some_same, Holds, then_holds, pick_holds, then_inverted}
use Rattle.gl_logic.proofs.Walks.{body_more}

pub every_append : {A : Type 0} (P : A → Type 0) (xs ys : List A) → Every P xs → Every P ys → Every P (xs ++ ys)
every_append P [] ys h g = g
every_append P (x ∷ xs) ys h g = (h.0, every_append P xs ys h.1 g)

pub every_map : {A : Type 0} (P Q : A → Type 0) (xs : List A) → ((x : A) → P x → Q x) → Every P xs → Every Q xs
every_map P Q [] f h = tt
every_map P Q (x ∷ xs) f h = (f x h.0, every_map P Q xs f h.1)

every_pick : {A : Type 0} (P : A → Type 0) (b : Bool) (x : A) (xs : List A) → P x → Every P xs → Every P (cond b (x ∷ xs) xs)
every_pick P true x xs h g = (h, g)
every_pick P false x xs h g = g

pub every_filter : {A : Type 0} (P : A → Type 0) (test : A → Bool) (xs : List A) → Every P xs → Every P (filter test xs)
every_filter P test [] h = tt
every_filter P test (x ∷ xs) h = every_pick P (test x) x (filter test xs) h.0 (every_filter P test xs h.1)

every_added : {A : Type 0} (P : A → Type 0) (b : Bool) (x : A) (xs : List A) → P x → Every P xs → Every P (cond b xs (x ∷ xs))
every_added P true x xs h g = g
every_added P false x xs h g = (h, g)

pub every_different : {A : Type 0} (P : A → Type 0) (same : A → A → Bool) (xs : List A) → Every P xs → Every P (different same xs)
every_different P same [] h = tt
every_different P same (x ∷ xs) h = every_added P (list_any (same x) (different same xs)) x (different same xs) h.0 (every_different P same xs h.1)

module _ (c : ℕ → Walks → Option Walk) (P : CallMade → Type 0) (keeps : (f : ℕ) (xs : Walks) → Every P xs.made → Holds (λ (r : Walk). Every P r.made) (c f xs)) where
  abbrev Good : Walk → Type 0
  Good r = Every P r.made

  abbrev AllGood : Walks → Type 0
  AllGood rs = Every P rs.made

  ended_good : (seen : List Object) (made : List CallMade) (a : Walk) → Every P made → Good a → Holds Good (ended seen made a)
  ended_good seen made a h g r e = subst (λ (w : Walk). Every P w.made) (some_same _ _ e) (every_append P made a.made h g)

  mutual
    pub made_good : (t : Exp) (env : List (ℕ × Object)) → Holds Good (walk_by c t env)
    made_good (Var v) env = λ r e. subst (λ (w : Walk). Every P w.made) (some_same _ _ e) tt
    made_good (Const x) env = λ r e. subst (λ (w : Walk). Every P w.made) (some_same _ _ e) tt
    made_good (If t a b) env = then_holds Good Good (walk_by c t env) _ (made_good t env) (λ x h. pick_holds Good (is_nil x.value) _ _
        (then_holds Good Good (walk_by c b env) _ (made_good b env) (λ y g. ended_good x.seen x.made y h g))
        (then_holds Good Good (walk_by c a env) _ (made_good a env) (λ y g. ended_good x.seen x.made y h g)))
    made_good (Prim p ts) env = then_holds AllGood Good (walks_by c ts env) _ (made_all_good ts env) (λ rs h r e. subst (λ (w : Walk). Every P w.made) (some_same _ _ e) h)
    made_good (Call f ts) env = then_holds AllGood Good (walks_by c ts env) _ (made_all_good ts env) (λ rs h. keeps f rs h)
    made_good (Let vs ts b) env = then_holds AllGood Good (walks_by c ts env) _ (made_all_good ts env) (λ rs h. then_holds Good Good (walk_by c b (extended vs rs.values env)) _ (made_good b (extended vs rs.values env)) (λ y g. ended_good rs.seen rs.made y h g))

    pub made_all_good : (ts : Exps) (env : List (ℕ × Object)) → Holds AllGood (walks_by c ts env)
    made_all_good Last env = λ r e. subst (λ (w : Walks). Every P w.made) (some_same _ _ e) tt
    made_all_good (More t ts) env = then_holds Good AllGood (walk_by c t env) _ (made_good t env) (λ x h. then_holds AllGood AllGood (walks_by c ts env) _ (made_all_good ts env) (λ rs g r e. subst (λ (w : Walks). Every P w.made) (some_same _ _ e) (every_append P x.made rs.made h g)))

-- the call has a walk of its own with this depth
pub record OpensAt (ds : List Definition) (n : ℕ) (c : CallMade) : Type 0 where
  pub run : Walk
  pub walks : body_walk ds n c.0 c.1 ≡ Some run

opens_more : (ds : List Definition) (n : ℕ) (c : CallMade) → OpensAt ds n c → OpensAt ds (suc n) c
opens_more ds n c h = record { run = h.run; walks = body_more ds n c.0 c.1 h.run h.walks }

pub body_good : (ds : List Definition) (c : ℕ → Walks → Option Walk) (P : CallMade → Type 0) (keeps : (f : ℕ) (xs : Walks) → Every P xs.made → Holds (λ (r : Walk). Every P r.made) (c f xs)) (f : ℕ) (xs : List Object) → Holds (λ (r : Walk). Every P r.made) (body_by c ds f xs)
body_good ds c P keeps f xs r e = let i = then_inverted (slice_get ds f) _ r e in made_good c P keeps i.0.body (extended i.0.formals xs []) r i.1.1

opened_opens : (ds : List Definition) (n : ℕ) (f : ℕ) (xs : Walks) → Every (OpensAt ds n) xs.made → Holds (λ (r : Walk). Every (OpensAt ds n) r.made) (opened ds n f xs)
opened_opens ds zero f xs h = λ r e. none_some r e
opened_opens ds (suc n) f xs h = λ r e.
    let j = then_inverted (body_walk ds n f xs.values) _ r e in
    let inner : Every (OpensAt ds n) j.0.made = body_good ds (opened ds n) (OpensAt ds n) (opened_opens ds n) f xs.values j.0 j.1.0 in
    let this : OpensAt ds (suc n) (f, xs.values) = record { run = j.0; walks = body_more ds n f xs.values j.0 j.1.0 } in
    subst (λ (w : Walk). Every (OpensAt ds (suc n)) w.made) (some_same _ _ j.1.1)
    (every_append (OpensAt ds (suc n)) (xs.made ++ (f, xs.values) ∷ []) j.0.made (every_append (OpensAt ds (suc n)) xs.made ((f, xs.values) ∷ []) h (this, tt)) (every_map (OpensAt ds n) (OpensAt ds (suc n)) j.0.made (opens_more ds n) inner))

pub calls_open : (ds : List Definition) (n : ℕ) (env : List (ℕ × Object)) (t : Exp) (r : Walk) → walk ds n env t ≡ Some r → Every (OpensAt ds n) r.made
calls_open ds n env t r e = made_good (opened ds n) (OpensAt ds n) (opened_opens ds n) t env r e
