-- Values of threaded walks: each is seen, and is the plain value.
use Rattle.std.proofs.Common.{◌≡◌, ◌∙◌, ap, sym, refl, ℕ, zero, suc, ◌+◌, List, [], ◌∷◌, ◌++◌, Bool, true, false, Option, Some, subst, slice_get, arith}
use Rattle.gl_logic.specs.Object.{Object}
use Rattle.gl_logic.specs.ObjectEq.{is_nil}
use Rattle.gl_logic.specs.PrimValue.{prim_value}
use Rattle.gl_logic.specs.Environment.{look, extended}
use Rattle.gl_logic.specs.Definition.{Definition}
use Rattle.gl_logic.specs.Exp.{Exp, Exps, Var, Const, If, Prim, Call, Let, Last, More}
use Rattle.gl_logic.specs.Walk.{Walk, Walks, CallMade, then, ended, walk_by, walks_by, opened, body_walk, walk}
use Rattle.gl_logic.proofs.Optional.{none_some, some_same, then_inverted, Holds, then_holds}
use Rattle.gl_logic.proofs.Walks.{opened_more}
use Rattle.gl_logic.specs.Every.{Every}
use Rattle.lisp_eval.specs.Threads.{Thread, Threads, after, closed, thread_by, threads_by, stays_shut, finished, skipped, plain_call, threaded, thread}
use Rattle.lisp_eval.specs.CallValue.{IsCallValue}
use Rattle.lisp_eval.proofs.CallsMade.{every_parts}
use Rattle.lisp_eval.proofs.Along.{then_is}
use Rattle.lisp_eval.proofs.Levels.{body_is}

-- ---- the value is seen
module _ (Q : Object → Type 0) (call : ℕ → List Object → List CallMade → Option Thread) where
  abbrev Seen : Thread → Type 0
  Seen r = Every Q r.seen → Q r.value

  after_seen : (before : List Object) (y : Thread) → Holds Seen (after before y)
  after_seen before y r e = subst Seen (some_same _ _ e) (λ h. (every_parts Q (before ++ y.seen) (y.value ∷ []) h).1.0)

  closed_seen : (x : Object) (rs : Threads) → Holds Seen (closed x rs)
  closed_seen x rs r e = subst Seen (some_same _ _ e) (λ h. (every_parts Q rs.seen (x ∷ []) h).1.0)

  any : {A : Type 0} (o : Option A) → Holds (λ _. Unit {0}) o
  any o r e = tt

  pick_seen : (b : Bool) (p q : Option Thread) → Holds Seen p → Holds Seen q → Holds Seen (elim b as (λ _. Option Thread) [ true ↦ p | false ↦ q ])
  pick_seen true p q g h = g
  pick_seen false p q g h = h

  pub value_seen : (t : Exp) (env : List (ℕ × Object)) (k : List CallMade) → Holds Seen (thread_by call t env k)
  value_seen (Var v) env k = λ r e. subst Seen (some_same _ _ e) (λ h. h.0)
  value_seen (Const x) env k = λ r e. subst Seen (some_same _ _ e) (λ h. h.0)
  value_seen (If t a b) env k = then_holds (λ _. Unit {0}) Seen (thread_by call t env k) _ (any (thread_by call t env k)) (λ x _. pick_seen (is_nil x.value) _ _
      (then_holds (λ _. Unit {0}) Seen (thread_by call b env x.kept) _ (any (thread_by call b env x.kept)) (λ y _. after_seen x.seen y))
      (then_holds (λ _. Unit {0}) Seen (thread_by call a env x.kept) _ (any (thread_by call a env x.kept)) (λ y _. after_seen x.seen y)))
  value_seen (Prim p ts) env k = then_holds (λ _. Unit {0}) Seen (threads_by call ts env k) _ (any (threads_by call ts env k)) (λ rs _. closed_seen (prim_value p rs.values) rs)
  value_seen (Call f ts) env k = then_holds (λ _. Unit {0}) Seen (threads_by call ts env k) _ (any (threads_by call ts env k)) (λ rs _. then_holds (λ _. Unit {0}) Seen (call f rs.values rs.kept) _ (any (call f rs.values rs.kept)) (λ y _. after_seen rs.seen y))
  value_seen (Let vs ts b) env k = then_holds (λ _. Unit {0}) Seen (threads_by call ts env k) _ (any (threads_by call ts env k)) (λ rs _. then_holds (λ _. Unit {0}) Seen (thread_by call b (extended vs rs.values env) rs.kept) _ (any (thread_by call b (extended vs rs.values env) rs.kept)) (λ y _. after_seen rs.seen y))

-- ---- the value is the plain one
pub record HasPlain (p : Option Walk) (x : Object) : Type 0 where
  pub seen : List Object
  pub made : List CallMade
  pub is : p ≡ Some (record { value = x; seen = seen; made = made })

pub record HavePlain (p : Option Walks) (xs : List Object) : Type 0 where
  pub seen : List Object
  pub made : List CallMade
  pub is : p ≡ Some (record { values = xs; seen = seen; made = made })

abbrev pub One : Option Walk → Option Thread → Type 0
One p q = (r : Thread) → q ≡ Some r → HasPlain p r.value

abbrev pub Many : Option Walks → Option Threads → Type 0
Many p q = (r : Threads) → q ≡ Some r → HavePlain p r.values

after_plain : (p : Option Walk) (f : Walk → Option Walk) (before : List Object) (y : Thread) (x : HasPlain p y.value) (s : List Object) (m : List CallMade) → f (record { value = y.value; seen = x.seen; made = x.made }) ≡ Some (record { value = y.value; seen = s; made = m }) → One (then p f) (after before y)
after_plain p f before y x s m e r g = subst (λ (z : Thread). HasPlain (then p f) z.value) (some_same _ _ g) (record { seen = s; made = m; is = then_is p f _ _ x.is e })

pick_plain : (b : Bool) (p p' : Option Walk) (q q' : Option Thread) → One p q → One p' q' → One (elim b as (λ _. Option Walk) [ true ↦ p | false ↦ p' ]) (elim b as (λ _. Option Thread) [ true ↦ q | false ↦ q' ])
pick_plain true p p' q q' g h = g
pick_plain false p p' q q' g h = h

then_plain : {A : Type 0} (p : Option A) (f : A → Option Walk) (a : A) (x : Object) → p ≡ Some a → HasPlain (f a) x → HasPlain (then p f) x
then_plain p f a x e h = record { seen = h.seen; made = h.made; is = then_is p f a _ e h.is }

then_plains : {A : Type 0} (p : Option A) (f : A → Option Walks) (a : A) (xs : List Object) → p ≡ Some a → HavePlain (f a) xs → HavePlain (then p f) xs
then_plains p f a xs e h = record { seen = h.seen; made = h.made; is = then_is p f a _ e h.is }

module _ (c : ℕ → Walks → Option Walk) (h : ℕ → List Object → List CallMade → Option Thread) (calls : (f : ℕ) (xs : Walks) (k : List CallMade) (r : Thread) → h f xs.values k ≡ Some r → HasPlain (c f xs) r.value) where
  mutual
    pub plain_one : (t : Exp) (env : List (ℕ × Object)) (k : List CallMade) → One (walk_by c t env) (thread_by h t env k)
    plain_one (Var v) env k = λ r e. subst (λ (z : Thread). HasPlain (walk_by c (Var v) env) z.value) (some_same _ _ e) (record { seen = look env v ∷ []; made = []; is = refl })
    plain_one (Const x) env k = λ r e. subst (λ (z : Thread). HasPlain (walk_by c (Const x) env) z.value) (some_same _ _ e) (record { seen = x ∷ []; made = []; is = refl })
    plain_one (If t a b) env k = λ r e.
        let i = then_inverted (thread_by h t env k) _ r e in
        let x = i.0 in
        let X = plain_one t env k x i.1.0 in
        then_plain (walk_by c t env) _ (record { value = x.value; seen = X.seen; made = X.made }) r.value X.is
        (pick_plain (is_nil x.value) _ _ _ _
        (λ r e. let j = then_inverted (thread_by h b env x.kept) _ r e in let Y = plain_one b env x.kept j.0 j.1.0 in after_plain (walk_by c b env) (ended X.seen X.made) x.seen j.0 Y _ _ refl r j.1.1)
        (λ r e. let j = then_inverted (thread_by h a env x.kept) _ r e in let Y = plain_one a env x.kept j.0 j.1.0 in after_plain (walk_by c a env) (ended X.seen X.made) x.seen j.0 Y _ _ refl r j.1.1)
        r i.1.1)
    plain_one (Prim p ts) env k = λ r e.
        let i = then_inverted (threads_by h ts env k) _ r e in
        let X = plain_many ts env k i.0 i.1.0 in
        then_plain (walks_by c ts env) _ (record { values = i.0.values; seen = X.seen; made = X.made }) r.value X.is
        (record { seen = X.seen ++ prim_value p i.0.values ∷ []; made = X.made; is = ap (λ (z : Thread). Some (record { value = z.value; seen = X.seen ++ prim_value p i.0.values ∷ []; made = X.made })) (some_same _ _ i.1.1) })
    plain_one (Call f ts) env k = λ r e.
        let i = then_inverted (threads_by h ts env k) _ r e in
        let X = plain_many ts env k i.0 i.1.0 in
        let j = then_inverted (h f i.0.values i.0.kept) _ r i.1.1 in
        let v : j.0.value ≡ r.value = ap (λ (z : Thread). z.value) (some_same _ _ j.1.1) in
        then_plain (walks_by c ts env) (c f) (record { values = i.0.values; seen = X.seen; made = X.made }) r.value X.is
        (subst (λ (z : Object). HasPlain (c f (record { values = i.0.values; seen = X.seen; made = X.made })) z) v (calls f (record { values = i.0.values; seen = X.seen; made = X.made }) i.0.kept j.0 j.1.0))
    plain_one (Let vs ts b) env k = λ r e.
        let i = then_inverted (threads_by h ts env k) _ r e in
        let X = plain_many ts env k i.0 i.1.0 in
        let j = then_inverted (thread_by h b (extended vs i.0.values env) i.0.kept) _ r i.1.1 in
        let Y = plain_one b (extended vs i.0.values env) i.0.kept j.0 j.1.0 in
        then_plain (walks_by c ts env) _ (record { values = i.0.values; seen = X.seen; made = X.made }) r.value X.is
        (after_plain (walk_by c b (extended vs i.0.values env)) (ended X.seen X.made) i.0.seen j.0 Y _ _ refl r j.1.1)

    pub plain_many : (ts : Exps) (env : List (ℕ × Object)) (k : List CallMade) → Many (walks_by c ts env) (threads_by h ts env k)
    plain_many Last env k = λ r e. subst (λ (z : Threads). HavePlain (walks_by c Last env) z.values) (some_same _ _ e) (record { seen = []; made = []; is = refl })
    plain_many (More t ts) env k = λ r e.
        let i = then_inverted (thread_by h t env k) _ r e in
        let X = plain_one t env k i.0 i.1.0 in
        let j = then_inverted (threads_by h ts env i.0.kept) _ r i.1.1 in
        let Y = plain_many ts env i.0.kept j.0 j.1.0 in
        let v : i.0.value ∷ j.0.values ≡ r.values = ap (λ (z : Threads). z.values) (some_same _ _ j.1.1) in
        then_plains (walk_by c t env) _ (record { value = i.0.value; seen = X.seen; made = X.made }) r.values X.is
        (then_plains (walks_by c ts env) _ (record { values = j.0.values; seen = Y.seen; made = Y.made }) r.values Y.is
        (record { seen = X.seen ++ Y.seen; made = X.made ++ Y.made; is = ap (λ (zs : List Object). Some (record { values = zs; seen = X.seen ++ Y.seen; made = X.made ++ Y.made })) v }))

-- a call's plain walk, whatever came before it
pub plain_at : (ds : List Definition) (n f : ℕ) (xs : Walks) (r : Walk) → plain_call ds n f xs.values ≡ Some r → HasPlain (opened ds n f xs) r.value
plain_at ds zero f xs r e = none_some r e
plain_at ds (suc n) f xs r e =
    let j = then_inverted (body_walk ds n f xs.values) _ r e in
    let v : j.0.value ≡ r.value = ap (λ (z : Walk). z.value) (some_same _ _ j.1.1) in
    record {
      seen = xs.seen ++ j.0.seen ++ j.0.value ∷ [];
      made = (xs.made ++ (f, xs.values) ∷ []) ++ j.0.made;
      is = then_is (body_walk ds n f xs.values) (ended xs.seen (xs.made ++ (f, xs.values) ∷ [])) j.0 _ j.1.0 (λ z. Some (record { value = v z; seen = xs.seen ++ j.0.seen ++ j.0.value ∷ []; made = (xs.made ++ (f, xs.values) ∷ []) ++ j.0.made }));
    }

threaded_plain_at : (ds : List Definition) (answered functions : List ℕ) (n f : ℕ) (b : Bool) (xs : Walks) (k : List CallMade) (r : Thread)
    → ((t : Exp) (env : List (ℕ × Object)) (k : List CallMade) → One (walk ds n env t) (thread ds answered functions n env t k))
    → elim b as (λ _. Option Thread) [
      | true ↦ then (plain_call ds (suc n) f xs.values) (λ r. skipped k r.value)
      | false ↦ then (slice_get ds f) (λ d. then (thread_by (threaded ds answered functions n) d.body (extended d.formals xs.values []) k) (finished functions f xs.values))
    ] ≡ Some r → HasPlain (opened ds (suc n) f xs) r.value
threaded_plain_at ds answered functions n f true xs k r inner e =
    let i = then_inverted (plain_call ds (suc n) f xs.values) (λ r. skipped k r.value) r e in
    subst (λ (z : Thread). HasPlain (opened ds (suc n) f xs) z.value) (some_same _ _ i.1.1) (plain_at ds (suc n) f xs i.0 i.1.0)
threaded_plain_at ds answered functions n f false xs k r inner e =
    let i = then_inverted (slice_get ds f) _ r e in
    let d = i.0 in
    let j = then_inverted (thread ds answered functions n (extended d.formals xs.values []) d.body k) _ r i.1.1 in
    let X = inner d.body (extended d.formals xs.values []) k j.0 j.1.0 in
    subst (λ (z : Thread). HasPlain (opened ds (suc n) f xs) z.value) (some_same _ _ j.1.1)
    (record {
      seen = xs.seen ++ X.seen ++ j.0.value ∷ [];
      made = (xs.made ++ (f, xs.values) ∷ []) ++ X.made;
      is = then_is (body_walk ds n f xs.values) (ended xs.seen (xs.made ++ (f, xs.values) ∷ [])) (record { value = j.0.value; seen = X.seen; made = X.made }) _
          (body_is (opened ds n) ds f xs.values d (record { value = j.0.value; seen = X.seen; made = X.made }) i.1.0 X.is) refl;
    })

pub threaded_plain : (ds : List Definition) (answered functions : List ℕ) (n f : ℕ) (xs : Walks) (k : List CallMade) (r : Thread) → threaded ds answered functions n f xs.values k ≡ Some r → HasPlain (opened ds n f xs) r.value
threaded_plain ds answered functions zero f xs k r e = none_some r e
threaded_plain ds answered functions (suc n) f xs k r e = threaded_plain_at ds answered functions n f (stays_shut answered functions f xs.values k) xs k r (plain_one (opened ds n) (threaded ds answered functions n) (threaded_plain ds answered functions n)) e

pub thread_plain : (ds : List Definition) (answered functions : List ℕ) (n : ℕ) (t : Exp) (env : List (ℕ × Object)) (k : List CallMade) → One (walk ds n env t) (thread ds answered functions n env t k)
thread_plain ds answered functions n = plain_one (opened ds n) (threaded ds answered functions n) (threaded_plain ds answered functions n)

-- ---- a call's value is one, whatever the depth
opened_by_more : (ds : List Definition) (n k f : ℕ) (xs : Walks) (r : Walk) → opened ds n f xs ≡ Some r → opened ds (k + n) f xs ≡ Some r
opened_by_more ds n zero f xs r e = let z : n ≡ 0 + n = omega arith in subst (λ (m : ℕ). opened ds m f xs ≡ Some r) z e
opened_by_more ds n (suc k) f xs r e = let z : suc (k + n) ≡ suc k + n = omega arith in subst (λ (m : ℕ). opened ds m f xs ≡ Some r) z (opened_more ds (k + n) f xs r (opened_by_more ds n k f xs r e))

pub call_value_unique : (ds : List Definition) (f : ℕ) (xs : List Object) (x y : Object) → IsCallValue ds f xs x → IsCallValue ds f xs y → x ≡ y
call_value_unique ds f xs x y h g =
    let z : h.depth + g.depth ≡ g.depth + h.depth = omega arith in
    let a = opened_by_more ds h.depth g.depth f (record { values = xs; seen = []; made = [] }) h.run h.runs in
    let b = opened_by_more ds g.depth h.depth f (record { values = xs; seen = []; made = [] }) g.run g.runs in
    let q : h.run ≡ g.run = some_same _ _ (sym a ∙ (ap (λ (m : ℕ). plain_call ds m f xs) (sym z) ∙ b)) in
    sym h.value ∙ (ap (λ (w : Walk). w.value) q ∙ g.value)
