-- What the parts of a term give at once, it gives.
use Rattle.std.proofs.Common.{◌≡◌, ◌∙◌, ap, sym, refl, subst, ℕ, zero, suc, ◌+◌, Bool, true, false, cond, ◌||◌, ◌&&◌, List, [], ◌∷◌, ◌++◌, length, arith, Option, Some, slice_get}
use Rattle.std.proofs.lemmas.List.{length-append}
use Rattle.gl_logic.specs.Counts.{is_among}
use Rattle.gl_logic.specs.Definition.{Definition}
use Rattle.gl_logic.specs.Environment.{look, extended}
use Rattle.gl_logic.specs.Every.{Every}
use Rattle.gl_logic.specs.Exp.{Exp, Exps, Var, Const, If, Prim, Call, Last, More}
use Rattle.gl_logic.specs.Object.{Object}
use Rattle.gl_logic.specs.ObjectEq.{is_nil}
use Rattle.gl_logic.specs.PrimValue.{prim_value}
use Rattle.gl_logic.specs.Walk.{CallMade, then}
use Rattle.gl_logic.proofs.MadeCalls.{every_append}
use Rattle.gl_logic.proofs.Optional.{none_some, some_same, then_inverted}
use Rattle.lisp_eval.specs.Directs.{Ends, AllEnd, GivesAtOnce, GiveAtOnce, OpensAtOnce}
use Rattle.lisp_eval.specs.Narrow.{IsNarrow}
use Rattle.lisp_eval.specs.Tables.{answered_in}
use Rattle.lisp_eval.specs.CallValue.{IsCallValue}
use Rattle.lisp_eval.specs.Threads.{Thread, Threads, after, chained, is_kept, keeping, finished, stays_shut, plain_call, skipped, threaded, thread, threads, thread_by}
use Rattle.lisp_eval.proofs.Values.{value_seen, call_value_unique}

module _ (ds : List Definition) (functions : List ℕ) where
  abbrev A : List ℕ
  A = answered_in ds

  abbrev T : ℕ → List (ℕ × Object) → Exp → List CallMade → Option Thread
  T = thread ds A functions

  abbrev Ts : ℕ → List (ℕ × Object) → Exps → List CallMade → Option Threads
  Ts = threads ds A functions

  abbrev Gives : List (ℕ × Object) → Exp → Object → ℕ → Type 0
  Gives = GivesAtOnce ds functions

  abbrev Give : List (ℕ × Object) → Exps → List Object → ℕ → Type 0
  Give = GiveAtOnce ds functions

  -- a value that is there
  pub met_gives : (env : List (ℕ × Object)) (t : Exp) (x : Object) → ((n : ℕ) (kept : List CallMade) → T n env t kept ≡ Some (record { value = x; seen = x ∷ []; kept = kept })) → IsNarrow x → Gives env t x 1
  met_gives env t x is h n kept r e = subst (Ends kept x 1) (some_same _ r (sym (is n kept) ∙ e)) (record { value = refl; count = refl; narrow = (h, tt); calls = refl })

  pub var_gives : (env : List (ℕ × Object)) (v : ℕ) → IsNarrow (look env v) → Gives env (Var v) (look env v) 1
  var_gives env v = met_gives env (Var v) (look env v) (λ n kept. refl)

  pub const_gives : (env : List (ℕ × Object)) (x : Object) → IsNarrow x → Gives env (Const x) x 1
  const_gives env x = met_gives env (Const x) x (λ n kept. refl)

  -- behind what was seen before the last part
  after_ends : (seen : List Object) (kept : List CallMade) (m k : ℕ) (y : Object) (s r : Thread) → length seen ≡ m → Every IsNarrow seen → Ends kept y k s → IsNarrow s.value → after seen s ≡ Some r → Ends kept y (m + k + 1) r
  after_ends seen kept m k y s r c h g v e = subst (Ends kept y (m + k + 1)) (some_same _ r e) (record {
    value = g.value;
    count = omega (arith, c, g.count, length-append (seen ++ s.seen) (s.value ∷ []), length-append seen s.seen);
    narrow = every_append IsNarrow (seen ++ s.seen) (s.value ∷ []) (every_append IsNarrow seen s.seen h g.narrow) (v, tt);
    calls = g.calls;
  })

  narrow_value : (n : ℕ) (env : List (ℕ × Object)) (t : Exp) (kept : List CallMade) (r : Thread) → T n env t kept ≡ Some r → Every IsNarrow r.seen → IsNarrow r.value
  narrow_value n env t kept r e h = value_seen IsNarrow (threaded ds A functions n) t env kept r e h

  pub if_gives : (env : List (ℕ × Object)) (t a b : Exp) (x y : Object) (m k : ℕ) → Gives env t x m → Gives env (cond (is_nil x) b a) y k → Gives env (If t a b) y (m + k + 1)
  if_gives env t a b x y m k g h n kept r e =
      let i = then_inverted (T n env t kept) _ r e in
      let s = i.0 in
      let p = g n kept s i.1.0 in
      part (is_nil s.value) s p (ap is_nil (sym p.value)) i.1.1 where
        part : (q : Bool) (s : Thread) → Ends kept x m s → is_nil x ≡ q → elim q as (λ _. Option Thread) [ true ↦ then (T n env b s.kept) (after s.seen) | false ↦ then (T n env a s.kept) (after s.seen) ] ≡ Some r → Ends kept y (m + k + 1) r
        part true s p z f =
            let j = then_inverted (T n env b s.kept) (after s.seen) r f in
            let here : T n env b kept ≡ Some j.0 = ap (T n env b) (sym p.calls) ∙ j.1.0 in
            let l = subst (λ (u : Exp). Gives env u y k) (ap (λ c. cond c b a) z) h n kept j.0 here in
            after_ends s.seen kept m k y j.0 r p.count p.narrow l (narrow_value n env b kept j.0 here l.narrow) j.1.1
        part false s p z f =
            let j = then_inverted (T n env a s.kept) (after s.seen) r f in
            let here : T n env a kept ≡ Some j.0 = ap (T n env a) (sym p.calls) ∙ j.1.0 in
            let l = subst (λ (u : Exp). Gives env u y k) (ap (λ c. cond c b a) z) h n kept j.0 here in
            after_ends s.seen kept m k y j.0 r p.count p.narrow l (narrow_value n env a kept j.0 here l.narrow) j.1.1

  -- arguments
  pub none_give : (env : List (ℕ × Object)) → Give env Last [] 0
  none_give env n kept r e = subst (AllEnd kept [] 0) (some_same _ r e) (record { values = refl; count = refl; narrow = tt; calls = refl })

  pub more_give : (env : List (ℕ × Object)) (t : Exp) (ts : Exps) (x : Object) (xs : List Object) (m k : ℕ) → Gives env t x m → Give env ts xs k → Give env (More t ts) (x ∷ xs) (m + k)
  more_give env t ts x xs m k g h n kept r e =
      let i = then_inverted (T n env t kept) _ r e in
      let s = i.0 in
      let p = g n kept s i.1.0 in
      let j = then_inverted (Ts n env ts s.kept) (chained s) r i.1.1 in
      let q = h n kept j.0 (ap (Ts n env ts) (sym p.calls) ∙ j.1.0) in
      subst (AllEnd kept (x ∷ xs) (m + k)) (some_same _ r j.1.1) (record {
        values = λ l. p.value l ∷ q.values l;
        count = omega (arith, p.count, q.count, length-append s.seen j.0.seen);
        narrow = every_append IsNarrow s.seen j.0.seen p.narrow q.narrow;
        calls = q.calls;
      })

  pub prim_gives : (env : List (ℕ × Object)) (p : _) (ts : Exps) (xs : List Object) (y : Object) (m : ℕ) → Give env ts xs m → prim_value p xs ≡ y → IsNarrow y → Gives env (Prim p ts) y (m + 1)
  prim_gives env p ts xs y m g v h n kept r e =
      let i = then_inverted (Ts n env ts kept) _ r e in
      let s = i.0 in
      let q = g n kept s i.1.0 in
      let is : prim_value p s.values ≡ y = ap (prim_value p) q.values ∙ v in
      subst (Ends kept y (m + 1)) (some_same _ r i.1.1) (record {
        value = is;
        count = omega (arith, q.count, length-append s.seen (prim_value p s.values ∷ []));
        narrow = every_append IsNarrow s.seen (prim_value p s.values ∷ []) q.narrow (subst IsNarrow (sym is) h, tt);
        calls = q.calls;
      })

  -- a call that is opened
  neither : (a b c : Bool) → a ≡ false → b ≡ false → (a || (b && c)) ≡ false
  neither true b c e f = absurd cc
  neither false true c e f = absurd cc
  neither false false c e f = refl

  body_ends : (f : ℕ) (d : Definition) (xs : List Object) (y : Object) (k n : ℕ) (kept : List CallMade) (r : Thread) → OpensAtOnce ds functions f → slice_get ds f ≡ Some d → Gives (extended d.formals xs []) d.body y k → threaded ds A functions n f xs kept ≡ Some r → Ends kept y k r × IsNarrow r.value
  body_ends f d xs y k zero kept r o s g e = none_some r e
  body_ends f d xs y k (suc n) kept r o s g e = opened (stays_shut A functions f xs kept) (shut f o) e where
    shut : (f : ℕ) → OpensAtOnce ds functions f → stays_shut A functions f xs kept ≡ false
    shut f o = neither (is_among A f) (is_among functions f) _ o.unanswered o.plain

    opened : (b : Bool) → b ≡ false → elim b as (λ _. Option Thread) [ true ↦ then (plain_call ds (suc n) f xs) (λ w. skipped kept w.value) | false ↦ then (slice_get ds f) (λ c. then (thread_by (threaded ds A functions n) c.body (extended c.formals xs []) kept) (finished functions f xs)) ] ≡ Some r → Ends kept y k r × IsNarrow r.value
    opened true z q = absurd cc
    opened false z q =
        let i = then_inverted (slice_get ds f) _ r q in
        let same : i.0 ≡ d = some_same i.0 d (sym i.1.0 ∙ s) in
        let j = then_inverted (T n (extended i.0.formals xs []) i.0.body kept) (finished functions f xs) r i.1.1 in
        let l = subst (λ (c : Definition). Gives (extended c.formals xs []) c.body y k) (sym same) g n kept j.0 j.1.0 in
        let v = narrow_value n (extended i.0.formals xs []) i.0.body kept j.0 j.1.0 l.narrow in
        let kept_same : keeping functions f xs j.0.kept ≡ j.0.kept = ap (λ b. cond b ((f, xs) ∷ j.0.kept) j.0.kept) o.plain in
        subst (λ (u : Thread). Ends kept y k u × IsNarrow u.value) (some_same _ r j.1.1) (record { value = l.value; count = l.count; narrow = l.narrow; calls = kept_same ∙ l.calls }, v)

  pub call_gives : (env : List (ℕ × Object)) (f : ℕ) (ts : Exps) (d : Definition) (xs : List Object) (y : Object) (m k : ℕ) → OpensAtOnce ds functions f → slice_get ds f ≡ Some d → Give env ts xs m → Gives (extended d.formals xs []) d.body y k → Gives env (Call f ts) y (m + k + 1)
  call_gives env f ts d xs y m k o s g h n kept r e =
      let i = then_inverted (Ts n env ts kept) _ r e in
      let w = i.0 in
      let q = g n kept w i.1.0 in
      let j = then_inverted (threaded ds A functions n f w.values w.kept) (after w.seen) r i.1.1 in
      let here : threaded ds A functions n f xs kept ≡ Some j.0 = (λ l. threaded ds A functions n f (sym q.values l) (sym q.calls l)) ∙ j.1.0 in
      let b = body_ends f d xs y k n kept j.0 o s h here in
      after_ends w.seen kept m k y j.0 r q.count q.narrow b.0 b.1 j.1.1

  -- a call that tables answer
  either : (a b : Bool) → a ≡ true → (a || b) ≡ true
  either true b e = refl
  either false b e = absurd cc

  shut_ends : (f : ℕ) (xs : List Object) (y : Object) (n : ℕ) (kept : List CallMade) (r : Thread) → is_among A f ≡ true → IsCallValue ds f xs y → threaded ds A functions n f xs kept ≡ Some r → Ends kept y 0 r
  shut_ends f xs y zero kept r a v e = none_some r e
  shut_ends f xs y (suc n) kept r a v e = closed (stays_shut A functions f xs kept) (either (is_among A f) (is_among functions f && is_kept kept (f, xs)) a) e where
    closed : (b : Bool) → b ≡ true → elim b as (λ _. Option Thread) [ true ↦ then (plain_call ds (suc n) f xs) (λ w. skipped kept w.value) | false ↦ then (slice_get ds f) (λ c. then (thread_by (threaded ds A functions n) c.body (extended c.formals xs []) kept) (finished functions f xs)) ] ≡ Some r → Ends kept y 0 r
    closed false z q = absurd cc
    closed true z q =
        let i = then_inverted (plain_call ds (suc n) f xs) (λ w. skipped kept w.value) r q in
        let is : i.0.value ≡ y = call_value_unique ds f xs i.0.value y (record { depth = suc n; run = i.0; runs = i.1.0; value = refl }) v in
        subst (Ends kept y 0) (some_same _ r i.1.1) (record { value = is; count = refl; narrow = tt; calls = refl })

  shut_at : (n f : ℕ) (xs : List Object) (y : Object) (m : ℕ) (kept : List CallMade) (w : Threads) (j : Thread) → is_among A f ≡ true → IsCallValue ds f xs y → AllEnd kept xs m w → threaded ds A functions n f w.values w.kept ≡ Some j → Ends kept y 0 j
  shut_at n f xs y m kept w j a v q e = shut_ends f xs y n kept j a v ((λ l. threaded ds A functions n f (sym q.values l) (sym q.calls l)) ∙ e)

  pub shut_gives : (env : List (ℕ × Object)) (f : ℕ) (ts : Exps) (xs : List Object) (y : Object) (m : ℕ) → is_among A f ≡ true → Give env ts xs m → IsCallValue ds f xs y → IsNarrow y → Gives env (Call f ts) y (m + 1)
  shut_gives env f ts xs y m a g v narrow n kept r e =
      let i = then_inverted (Ts n env ts kept) _ r e in
      let w = i.0 in
      let q = g n kept w i.1.0 in
      let j = then_inverted (threaded ds A functions n f w.values w.kept) (after w.seen) r i.1.1 in
      let b = shut_at n f xs y m kept w j.0 a v q j.1.0 in
      subst (λ (k : ℕ). Ends kept y k r) (omega arith) (after_ends w.seen kept m 0 y j.0 r q.count q.narrow b (subst IsNarrow (sym b.value) narrow) j.1.1)

  -- such a value is seen, narrow or not
  pub shut_seen : (env : List (ℕ × Object)) (f : ℕ) (ts : Exps) (xs : List Object) (y : Object) (m n : ℕ) (kept : List CallMade) (r : Thread) → is_among A f ≡ true → Give env ts xs m → IsCallValue ds f xs y → T n env (Call f ts) kept ≡ Some r → (before : List Object) × (r.seen ≡ before ++ y ∷ [])
  shut_seen env f ts xs y m n kept r a g v e =
      let i = then_inverted (Ts n env ts kept) _ r e in
      let w = i.0 in
      let q = g n kept w i.1.0 in
      let j = then_inverted (threaded ds A functions n f w.values w.kept) (after w.seen) r i.1.1 in
      let b = shut_at n f xs y m kept w j.0 a v q j.1.0 in
      (w.seen ++ j.0.seen, sym (ap (λ (z : Thread). z.seen) (some_same _ r j.1.1)) ∙ ap (λ z. (w.seen ++ j.0.seen) ++ z ∷ []) b.value)
