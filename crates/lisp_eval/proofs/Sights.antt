-- What a walk sees, its parts see, and cells of it.
use Rattle.std.proofs.Common.{◌≡◌, ◌∙◌, ap, sym, refl, subst, ℕ, zero, suc, Bool, true, false, cond, ◌||◌, ◌&&◌, List, [], ◌∷◌, ◌++◌, Option, Some, slice_get, inl, inr, ◌⊎◌, append_assoc}
use Rattle.gl_logic.specs.Counts.{is_among}
use Rattle.gl_logic.specs.Definition.{Definition}
use Rattle.gl_logic.specs.Environment.{extended}
use Rattle.gl_logic.specs.Every.{Every}
use Rattle.gl_logic.specs.Exp.{Exp, Exps, Const, If, Prim, Call, Last, More}
use Rattle.gl_logic.specs.Object.{Object}
use Rattle.gl_logic.specs.ObjectEq.{is_nil}
use Rattle.gl_logic.specs.PrimValue.{prim_value}
use Rattle.gl_logic.specs.Walk.{CallMade, then}
use Rattle.gl_logic.proofs.Optional.{none_some, some_same, then_inverted, Holds}
use Rattle.hons_arena.specs.Held.{Held, AddsCellsOf, IsWhole, LacksCell}
use Rattle.lisp_eval.specs.Directs.{GivesAtOnce, GiveAtOnce, OpensAtOnce}
use Rattle.lisp_eval.specs.Sights.{Sees, SeeAll, Adds, Lacks}
use Rattle.lisp_eval.specs.Tables.{answered_in}
use Rattle.lisp_eval.specs.Threads.{Thread, Threads, after, closed, chained, keeping, finished, stays_shut, plain_call, skipped, threaded, thread, threads, thread_by, threads_by}
use Rattle.lisp_eval.specs.Within.{IsIn, AreWithin}
use Rattle.lisp_eval.proofs.CallsMade.{every_parts}
use Rattle.lisp_eval.proofs.More.{thread_grow, threaded_more}
use Rattle.lisp_eval.proofs.Seen.{every_in}
use Rattle.lisp_eval.proofs.Values.{value_seen}
use Rattle.lisp_eval.proofs.Within.{stays}

-- ---- of lists
pub in_front : (xs ys : List Object) (x : Object) → IsIn xs x → IsIn (xs ++ ys) x
in_front [] ys x h = none_some x h.1
in_front (y ∷ xs) ys x (zero, e) = (0, e)
in_front (y ∷ xs) ys x (suc k, e) = let h = in_front xs ys x (k, e) in (suc h.0, h.1)

pub in_behind : (xs ys : List Object) (x : Object) → IsIn ys x → IsIn (xs ++ ys) x
in_behind [] ys x h = h
in_behind (y ∷ xs) ys x h = let k = in_behind xs ys x h in (suc k.0, k.1)

pub in_either : (xs ys : List Object) (x : Object) → IsIn (xs ++ ys) x → IsIn xs x ⊎ IsIn ys x
in_either [] ys x h = inr h
in_either (y ∷ xs) ys x (zero, e) = inl (0, e)
in_either (y ∷ xs) ys x (suc k, e) = elim (in_either xs ys x (k, e)) [
  | inl h ↦ inl (suc h.0, h.1)
  | inr h ↦ inr h
]

pub every_at : (P : Object → Type 0) (xs : List Object) → Every P xs → (x : Object) → IsIn xs x → P x
every_at P [] h x i = none_some x i.1
every_at P (y ∷ xs) h x (zero, e) = subst P (some_same y x e) h.0
every_at P (y ∷ xs) h x (suc k, e) = every_at P xs h.1 x (k, e)

-- ---- the values of arguments are seen
pub values_seen : (Q : Object → Type 0) (call : ℕ → List Object → List CallMade → Option Thread) (ts : Exps) (env : List (ℕ × Object)) (k : List CallMade) → Holds (λ r. Every Q r.seen → Every Q r.values) (threads_by call ts env k)
values_seen Q call Last env k r e = subst (λ (z : Threads). Every Q z.seen → Every Q z.values) (some_same _ r e) (λ h. tt)
values_seen Q call (More t ts) env k r e =
    let i = then_inverted (thread_by call t env k) _ r e in
    let j = then_inverted (threads_by call ts env i.0.kept) (chained i.0) r i.1.1 in
    subst (λ (z : Threads). Every Q z.seen → Every Q z.values) (some_same _ r j.1.1) (λ h.
    let p = every_parts Q i.0.seen j.0.seen h in
    (value_seen Q call t env k i.0 i.1.0 p.0, values_seen Q call ts env i.0.kept j.0 j.1.0 p.1))

-- ---- a visit's last part
abbrev whole_after : List Object → Thread → List Object
whole_after before y = before ++ y.seen ++ y.value ∷ []

after_is : (before : List Object) (y r : Thread) (seen : List Object) → after before y ≡ Some r → r.seen ≡ seen → whole_after before y ≡ seen
after_is before y r seen e q = ap (λ (z : Thread). z.seen) (some_same _ r e) ∙ q

first_of_after : (before : List Object) (y r : Thread) (seen : List Object) → after before y ≡ Some r → r.seen ≡ seen → (x : Object) → IsIn before x → IsIn seen x
first_of_after before y r seen e q x h = subst (λ (zs : List Object). IsIn zs x) (after_is before y r seen e q) (in_front (before ++ y.seen) (y.value ∷ []) x (in_front before y.seen x h))

last_of_after : (before : List Object) (y r : Thread) (seen : List Object) → after before y ≡ Some r → r.seen ≡ seen → (x : Object) → IsIn y.seen x → IsIn seen x
last_of_after before y r seen e q x h = subst (λ (zs : List Object). IsIn zs x) (after_is before y r seen e q) (in_front (before ++ y.seen) (y.value ∷ []) x (in_behind before y.seen x h))

closed_is : (v : Object) (rs : Threads) (r : Thread) (seen : List Object) → closed v rs ≡ Some r → r.seen ≡ seen → rs.seen ++ v ∷ [] ≡ seen
closed_is v rs r seen e q = ap (λ (z : Thread). z.seen) (some_same _ r e) ∙ q

module _ (ds : List Definition) (functions : List ℕ) where
  abbrev A : List ℕ
  A = answered_in ds

  abbrev T : ℕ → List (ℕ × Object) → Exp → List CallMade → Option Thread
  T = thread ds A functions

  abbrev Ts : ℕ → List (ℕ × Object) → Exps → List CallMade → Option Threads
  Ts = threads ds A functions

  -- a walk of the term sees only what is here
  abbrev pub SeesWithin : List (ℕ × Object) → Exp → List Object → Type 0
  SeesWithin env t seen = (part : List Object) × (Sees ds functions env t part × ((x : Object) → IsIn part x → IsIn seen x))

  abbrev pub SeeAllWithin : List (ℕ × Object) → Exps → List Object → Type 0
  SeeAllWithin env ts seen = (part : List Object) × (SeeAll ds functions env ts part × ((x : Object) → IsIn part x → IsIn seen x))

  sees_walk : (n : ℕ) (env : List (ℕ × Object)) (t : Exp) (kept : List CallMade) (r : Thread) → T n env t kept ≡ Some r → Sees ds functions env t r.seen
  sees_walk n env t kept r e = record { depth = n; kept = kept; walk = r; walks = e; sight = refl }

  sees_walks : (n : ℕ) (env : List (ℕ × Object)) (ts : Exps) (kept : List CallMade) (r : Threads) → Ts n env ts kept ≡ Some r → SeeAll ds functions env ts r.seen
  sees_walks n env ts kept r e = record { depth = n; kept = kept; walk = r; walks = e; sight = refl }

  -- ---- what a walk is made of
  pub record IfParts (n : ℕ) (env : List (ℕ × Object)) (test a b : Exp) (kept : List CallMade) (r : Thread) : Type 0 where
    pub first : Thread
    pub first_walks : T n env test kept ≡ Some first
    pub later : Thread
    pub later_walks : T n env (cond (is_nil first.value) b a) first.kept ≡ Some later
    pub ends : after first.seen later ≡ Some r

  pub if_parts : (n : ℕ) (env : List (ℕ × Object)) (test a b : Exp) (kept : List CallMade) (r : Thread) → T n env (If test a b) kept ≡ Some r → IfParts n env test a b kept r
  if_parts n env test a b kept r e =
      let i = then_inverted (T n env test kept) _ r e in
      let j = part (is_nil i.0.value) i.0.kept i.0.seen i.1.1 in
      record { first = i.0; first_walks = i.1.0; later = j.0; later_walks = j.1.0; ends = j.1.1 } where
        part : (q : Bool) (k : List CallMade) (seen : List Object) → elim q as (λ _. Option Thread) [ true ↦ then (T n env b k) (after seen) | false ↦ then (T n env a k) (after seen) ] ≡ Some r
            → (later : Thread) × ((T n env (cond q b a) k ≡ Some later) × (after seen later ≡ Some r))
        part true k seen f = then_inverted (T n env b k) (after seen) r f
        part false k seen f = then_inverted (T n env a k) (after seen) r f

  neither : (a b c : Bool) → a ≡ false → b ≡ false → (a || (b && c)) ≡ false
  neither true b c e f = absurd cc
  neither false true c e f = absurd cc
  neither false false c e f = refl

  -- a call that is opened walks as its body
  pub body_walks : (n f : ℕ) (d : Definition) (xs : List Object) (kept : List CallMade) (r : Thread) → OpensAtOnce ds functions f → slice_get ds f ≡ Some d → threaded ds A functions n f xs kept ≡ Some r → T n (extended d.formals xs []) d.body kept ≡ Some r
  body_walks zero f d xs kept r o s e = none_some r e
  body_walks (suc n) f d xs kept r o s e = opened (stays_shut A functions f xs kept) (shut f o) e where
    shut : (f : ℕ) → OpensAtOnce ds functions f → stays_shut A functions f xs kept ≡ false
    shut f o = neither (is_among A f) (is_among functions f) _ o.unanswered o.plain

    opened : (b : Bool) → b ≡ false → elim b as (λ _. Option Thread) [ true ↦ then (plain_call ds (suc n) f xs) (λ w. skipped kept w.value) | false ↦ then (slice_get ds f) (λ c. then (thread_by (threaded ds A functions n) c.body (extended c.formals xs []) kept) (finished functions f xs)) ] ≡ Some r → T (suc n) (extended d.formals xs []) d.body kept ≡ Some r
    opened true z q = absurd cc
    opened false z q =
        let i = then_inverted (slice_get ds f) _ r q in
        let same : i.0 ≡ d = some_same i.0 d (sym i.1.0 ∙ s) in
        let j = then_inverted (T n (extended i.0.formals xs []) i.0.body kept) (finished functions f xs) r i.1.1 in
        let kept_same : keeping functions f xs j.0.kept ≡ j.0.kept = ap (λ b. cond b ((f, xs) ∷ j.0.kept) j.0.kept) o.plain in
        let is : j.0 ≡ r = ap (λ (k : List CallMade). record { value = j.0.value; seen = j.0.seen; kept = k }) (sym kept_same) ∙ some_same _ r j.1.1 in
        let there : T n (extended d.formals xs []) d.body kept ≡ Some j.0 = subst (λ (c : Definition). T n (extended c.formals xs []) c.body kept ≡ Some j.0) same j.1.0 in
        thread_grow (threaded ds A functions n) (threaded ds A functions (suc n)) (threaded_more ds A functions n) d.body (extended d.formals xs []) kept r (there ∙ ap (λ (z : Thread). Some z) is)

  -- ---- the value is seen
  pub found_value_seen : (env : List (ℕ × Object)) (t : Exp) (x : Object) (m : ℕ) → GivesAtOnce ds functions env t x m → (seen : List Object) → Sees ds functions env t seen → IsIn seen x
  found_value_seen env t x m g seen s =
      let ends = g s.depth s.kept s.walk s.walks in
      let here : IsIn s.walk.seen s.walk.value = value_seen (IsIn s.walk.seen) (threaded ds A functions s.depth) t env s.kept s.walk s.walks (every_in s.walk.seen) in
      subst (IsIn seen) ends.value (subst (λ (zs : List Object). IsIn zs s.walk.value) s.sight here)

  pub arguments_seen : (env : List (ℕ × Object)) (ts : Exps) (xs : List Object) (m : ℕ) → GiveAtOnce ds functions env ts xs m → (seen : List Object) → SeeAll ds functions env ts seen → (x : Object) → IsIn xs x → IsIn seen x
  arguments_seen env ts xs m g seen s x i =
      let ends = g s.depth s.kept s.walk s.walks in
      let all : Every (IsIn s.walk.seen) s.walk.values = values_seen (IsIn s.walk.seen) (threaded ds A functions s.depth) ts env s.kept s.walk s.walks (every_in s.walk.seen) in
      let here : IsIn s.walk.values x = subst (λ (zs : List Object). IsIn zs x) (sym ends.values) i in
      subst (λ (zs : List Object). IsIn zs x) s.sight (every_at (IsIn s.walk.seen) s.walk.values all x here)

  pub const_seen : (env : List (ℕ × Object)) (o : Object) (seen : List Object) → Sees ds functions env (Const o) seen → IsIn seen o
  const_seen env o seen s = subst (λ (zs : List Object). IsIn zs o) (ap (λ (w : Thread). w.seen) (some_same _ s.walk s.walks) ∙ s.sight) (0, refl)

  pub prim_value_seen : (env : List (ℕ × Object)) (p : _) (ts : Exps) (xs : List Object) (m : ℕ) → GiveAtOnce ds functions env ts xs m → (seen : List Object) → Sees ds functions env (Prim p ts) seen → IsIn seen (prim_value p xs)
  prim_value_seen env p ts xs m g seen s =
      let i = then_inverted (Ts s.depth env ts s.kept) _ s.walk s.walks in
      let ends = g s.depth s.kept i.0 i.1.0 in
      let v = prim_value p i.0.values in
      let here : IsIn seen v = subst (λ (zs : List Object). IsIn zs v) (closed_is v i.0 s.walk seen i.1.1 s.sight) (in_behind i.0.seen (v ∷ []) v (0, refl)) in
      subst (λ (zs : List Object). IsIn seen (prim_value p zs)) ends.values here

  -- ---- parts
  pub prim_sees_parts : (env : List (ℕ × Object)) (p : _) (ts : Exps) (seen : List Object) → Sees ds functions env (Prim p ts) seen → SeeAllWithin env ts seen
  prim_sees_parts env p ts seen s =
      let i = then_inverted (Ts s.depth env ts s.kept) _ s.walk s.walks in
      let v = prim_value p i.0.values in
      (i.0.seen, (sees_walks s.depth env ts s.kept i.0 i.1.0, λ x h. subst (λ (zs : List Object). IsIn zs x) (closed_is v i.0 s.walk seen i.1.1 s.sight) (in_front i.0.seen (v ∷ []) x h)))

  pub call_sees_parts : (env : List (ℕ × Object)) (f : ℕ) (ts : Exps) (seen : List Object) → Sees ds functions env (Call f ts) seen → SeeAllWithin env ts seen
  call_sees_parts env f ts seen s =
      let i = then_inverted (Ts s.depth env ts s.kept) _ s.walk s.walks in
      let j = then_inverted (threaded ds A functions s.depth f i.0.values i.0.kept) (after i.0.seen) s.walk i.1.1 in
      (i.0.seen, (sees_walks s.depth env ts s.kept i.0 i.1.0, first_of_after i.0.seen j.0 s.walk seen j.1.1 s.sight))

  pub if_sees_test : (env : List (ℕ × Object)) (test a b : Exp) (seen : List Object) → Sees ds functions env (If test a b) seen → SeesWithin env test seen
  if_sees_test env test a b seen s =
      let p = if_parts s.depth env test a b s.kept s.walk s.walks in
      (p.first.seen, (sees_walk s.depth env test s.kept p.first p.first_walks, first_of_after p.first.seen p.later s.walk seen p.ends s.sight))

  pub if_sees_branch : (env : List (ℕ × Object)) (test a b : Exp) (x : Object) (m : ℕ) → GivesAtOnce ds functions env test x m → (seen : List Object) → Sees ds functions env (If test a b) seen → SeesWithin env (cond (is_nil x) b a) seen
  if_sees_branch env test a b x m g seen s =
      let p = if_parts s.depth env test a b s.kept s.walk s.walks in
      let ends = g s.depth s.kept p.first p.first_walks in
      let there = sees_walk s.depth env (cond (is_nil p.first.value) b a) p.first.kept p.later p.later_walks in
      (p.later.seen, (subst (λ (z : Object). Sees ds functions env (cond (is_nil z) b a) p.later.seen) ends.value there, last_of_after p.first.seen p.later s.walk seen p.ends s.sight))

  pub call_sees_body : (env : List (ℕ × Object)) (f : ℕ) (ts : Exps) (d : Definition) (xs : List Object) (m : ℕ) → GiveAtOnce ds functions env ts xs m → OpensAtOnce ds functions f → slice_get ds f ≡ Some d
      → (seen : List Object) → Sees ds functions env (Call f ts) seen → SeesWithin (extended d.formals xs []) d.body seen
  call_sees_body env f ts d xs m g o q seen s =
      let i = then_inverted (Ts s.depth env ts s.kept) _ s.walk s.walks in
      let j = then_inverted (threaded ds A functions s.depth f i.0.values i.0.kept) (after i.0.seen) s.walk i.1.1 in
      let ends = g s.depth s.kept i.0 i.1.0 in
      let there = sees_walk s.depth (extended d.formals i.0.values []) d.body i.0.kept j.0 (body_walks s.depth f d i.0.values i.0.kept j.0 o q j.1.0) in
      (j.0.seen, (subst (λ (zs : List Object). Sees ds functions (extended d.formals zs []) d.body j.0.seen) ends.values there, last_of_after i.0.seen j.0 s.walk seen j.1.1 s.sight))

  -- ---- terms one after the other
  chained_is : (y : Thread) (rs r : Threads) (seen : List Object) → chained y rs ≡ Some r → r.seen ≡ seen → y.seen ++ rs.seen ≡ seen
  chained_is y rs r seen e q = ap (λ (z : Threads). z.seen) (some_same _ r e) ∙ q

  pub first_seen : (env : List (ℕ × Object)) (t : Exp) (ts : Exps) (seen : List Object) → SeeAll ds functions env (More t ts) seen → SeesWithin env t seen
  first_seen env t ts seen s =
      let i = then_inverted (T s.depth env t s.kept) _ s.walk s.walks in
      let j = then_inverted (Ts s.depth env ts i.0.kept) (chained i.0) s.walk i.1.1 in
      (i.0.seen, (sees_walk s.depth env t s.kept i.0 i.1.0, λ x h. subst (λ (zs : List Object). IsIn zs x) (chained_is i.0 j.0 s.walk seen j.1.1 s.sight) (in_front i.0.seen j.0.seen x h)))

  pub rest_seen : (env : List (ℕ × Object)) (t : Exp) (ts : Exps) (seen : List Object) → SeeAll ds functions env (More t ts) seen → SeeAllWithin env ts seen
  rest_seen env t ts seen s =
      let i = then_inverted (T s.depth env t s.kept) _ s.walk s.walks in
      let j = then_inverted (Ts s.depth env ts i.0.kept) (chained i.0) s.walk i.1.1 in
      (j.0.seen, (sees_walks s.depth env ts i.0.kept j.0 j.1.0, λ x h. subst (λ (zs : List Object). IsIn zs x) (chained_is i.0 j.0 s.walk seen j.1.1 s.sight) (in_behind i.0.seen j.0.seen x h)))

-- ---- arenas that grow by cells of what is seen
pub within_more : (start part seen new : List Object) → ((x : Object) → IsIn part x → IsIn seen x) → AreWithin start part new → AreWithin start seen new
within_more start part seen new more h y c = elim (h y c) [
  | inl d ↦ inl d
  | inr d ↦ inr (record { value = d.value; seen_value = more d.value d.seen_value; cell = d.cell })
]

-- grown again
pub within_on : (start seen mid new : List Object) → AreWithin start seen mid → AreWithin mid seen new → AreWithin start seen new
within_on start seen mid new g h y c = elim (h y c) [
  | inl d ↦ g y d
  | inr d ↦ inr d
]

-- whoever sees the one sees the other within it
abbrev pub Covers : (List Object → Type 0) → (List Object → Type 0) → Type 0
Covers sees parts = (seen : List Object) → sees seen → (part : List Object) × (parts part × ((x : Object) → IsIn part x → IsIn seen x))

pub adds_none : (sees : List Object → Type 0) (held : Held) → IsWhole held → Adds sees held held
adds_none sees held whole = record { grown = ([], sym (none held.objects)); limit = refl; whole = whole; within = λ seen s y c. inl c } where
  none : (xs : List Object) → xs ++ [] ≡ xs
  none [] = refl
  none (x ∷ xs) = ap (λ ys. x ∷ ys) (none xs)

pub adds_cells : (sees : List Object → Type 0) (x : Object) (old new : Held) → ((seen : List Object) → sees seen → IsIn seen x) → AddsCellsOf x old.objects new.objects → new.limit ≡ old.limit → IsWhole new → Adds sees old new
adds_cells sees x old new seen_is a l whole = record {
  grown = (a.made, a.is);
  limit = l;
  whole = whole;
  within = λ seen s. stays old.objects seen old.objects new.objects x (seen_is seen s) a (λ y c. inl c);
}

pub adds_on : (sees : List Object → Type 0) (old mid new : Held) → Adds sees old mid → Adds sees mid new → Adds sees old new
adds_on sees old mid new g h = record {
  grown = (g.grown.0 ++ h.grown.0, h.grown.1 ∙ (ap (λ zs. zs ++ h.grown.0) g.grown.1 ∙ append_assoc old.objects g.grown.0 h.grown.0));
  limit = h.limit ∙ g.limit;
  whole = h.whole;
  within = λ seen s. within_on old.objects seen mid.objects new.objects (g.within seen s) (h.within seen s);
}

pub adds_by : (sees parts : List Object → Type 0) (old new : Held) → Covers sees parts → Adds parts old new → Adds sees old new
adds_by sees parts old new c g = record {
  grown = g.grown;
  limit = g.limit;
  whole = g.whole;
  within = λ seen s. let p = c seen s in within_more old.objects p.0 seen new.objects p.1.1 (g.within p.0 p.1.0);
}

pub lacks_cell : (sees : List Object → Type 0) (x : Object) (held : Held) → ((seen : List Object) → sees seen → IsIn seen x) → LacksCell held x → Lacks sees held
lacks_cell sees x held seen_is l seen s = (x, (seen_is seen s, l))

pub lacks_by : (sees parts : List Object → Type 0) (held : Held) → Covers sees parts → Lacks parts held → Lacks sees held
lacks_by sees parts held c l seen s =
    let p = c seen s in
    let k = l p.0 p.1.0 in (k.0, (p.1.1 k.0 k.1.0, k.1.1))
