-- Walks that go on as those of other terms.
use Rattle.std.proofs.Common.{◌≡◌, ◌∙◌, sym, refl, subst, ℕ, suc, ◌+◌, cond, List, [], ◌∷◌, ◌++◌, length, arith, Option, Some, slice_get, inl, inr}
use Rattle.std.proofs.lemmas.List.{length-append}
use Rattle.gl_logic.specs.Definition.{Definition}
use Rattle.gl_logic.specs.Environment.{extended}
use Rattle.gl_logic.specs.Every.{Every}
use Rattle.gl_logic.specs.Exp.{Exp, Exps, If, Call}
use Rattle.gl_logic.specs.Object.{Object}
use Rattle.gl_logic.specs.ObjectEq.{is_nil}
use Rattle.gl_logic.specs.Walk.{CallMade}
use Rattle.gl_logic.proofs.MadeCalls.{every_append}
use Rattle.gl_logic.proofs.Optional.{none_some, some_same, then_inverted}
use Rattle.lisp_eval.specs.Directs.{GivesAtOnce, GiveAtOnce, OpensAtOnce}
use Rattle.lisp_eval.specs.Leads.{Follows, LeadsTo}
use Rattle.lisp_eval.specs.Narrow.{IsNarrow}
use Rattle.lisp_eval.specs.Sights.{Sees}
use Rattle.lisp_eval.specs.Tables.{answered_in}
use Rattle.lisp_eval.specs.Threads.{Thread, Threads, after, threaded, thread, threads}
use Rattle.lisp_eval.specs.Within.{IsIn}
use Rattle.lisp_eval.proofs.Seen.{every_in}
use Rattle.lisp_eval.proofs.Sights.{in_front, in_behind, in_either, every_at, SeesWithin, if_parts, body_walks}
use Rattle.lisp_eval.proofs.Values.{value_seen}

pub every_of : (P : Object → Type 0) (xs : List Object) → ((x : Object) → IsIn xs x → P x) → Every P xs
every_of P [] h = tt
every_of P (x ∷ xs) h = (h x (0, refl), every_of P xs (λ y i. h y (suc i.0, i.1)))

-- ---- one way behind another
pub follows_none : (r : Thread) → Follows 0 r r
follows_none r = record {
  met = [];
  value = refl;
  calls = refl;
  count = omega arith;
  narrow = tt;
  met_seen = λ x h. none_some x h.1;
  later_seen = λ x h. h;
  all_seen = λ x h. inr h;
}

follows_on : (m k : ℕ) (r s u : Thread) → Follows m r s → Follows k s u → Follows (m + k) r u
follows_on m k r s u g h = record {
  met = g.met ++ h.met;
  value = h.value ∙ g.value;
  calls = h.calls ∙ g.calls;
  count = omega (arith, g.count, h.count);
  narrow = every_append IsNarrow g.met h.met g.narrow h.narrow;
  met_seen = λ x i. elim (in_either g.met h.met x i) [
    | inl a ↦ g.met_seen x a
    | inr b ↦ g.later_seen x (h.met_seen x b)
  ];
  later_seen = λ x i. g.later_seen x (h.later_seen x i);
  all_seen = λ x i. elim (g.all_seen x i) [
    | inl a ↦ inl (in_front g.met h.met x a)
    | inr b ↦ elim (h.all_seen x b) [
      | inl c ↦ inl (in_behind g.met h.met x c)
      | inr c ↦ inr c
    ]
  ];
}

module _ (ds : List Definition) (functions : List ℕ) where
  abbrev A : List ℕ
  A = answered_in ds

  abbrev T : ℕ → List (ℕ × Object) → Exp → List CallMade → Option Thread
  T = thread ds A functions

  abbrev Ts : ℕ → List (ℕ × Object) → Exps → List CallMade → Option Threads
  Ts = threads ds A functions

  abbrev Leads : List (ℕ × Object) → Exp → List (ℕ × Object) → Exp → ℕ → Type 0
  Leads = LeadsTo ds functions

  pub leads_on : (env : List (ℕ × Object)) (t : Exp) (inner : List (ℕ × Object)) (u : Exp) (last : List (ℕ × Object)) (v : Exp) (m k : ℕ) → Leads env t inner u m → Leads inner u last v k → Leads env t last v (m + k)
  leads_on env t inner u last v m k g h n kept r e =
      let a = g n kept r e in
      let b = h n kept a.0 a.1.0 in
      (b.0, (b.1.0, follows_on m k r a.0 b.0 a.1.1 b.1.1))

  -- into the last part of a term, behind what was seen before
  follows_after : (n : ℕ) (inner : List (ℕ × Object)) (u : Exp) (kept : List CallMade) (seen : List Object) (m : ℕ) (s r : Thread) → T n inner u kept ≡ Some s → length seen ≡ m → Every IsNarrow seen → after seen s ≡ Some r → Follows (m + 1) r s
  follows_after n inner u kept seen m s r w c h e =
      let last : IsIn s.seen s.value = value_seen (IsIn s.seen) (threaded ds A functions n) u inner kept s w (every_in s.seen) in
      subst (λ (z : Thread). Follows (m + 1) z s) (some_same _ r e) (record {
        met = seen;
        value = refl;
        calls = refl;
        count = omega (arith, c, length-append (seen ++ s.seen) (s.value ∷ []), length-append seen s.seen);
        narrow = h;
        met_seen = λ x i. in_front (seen ++ s.seen) (s.value ∷ []) x (in_front seen s.seen x i);
        later_seen = λ x i. in_front (seen ++ s.seen) (s.value ∷ []) x (in_behind seen s.seen x i);
        all_seen = λ x i. elim (in_either (seen ++ s.seen) (s.value ∷ []) x i) [
          | inl a ↦ in_either seen s.seen x a
          | inr b ↦ inr (every_at (IsIn s.seen) (s.value ∷ []) (last, tt) x b)
        ];
      })

  -- to the branch of an `if` whose test is found at once
  pub leads_if : (env : List (ℕ × Object)) (test a b : Exp) (x : Object) (m : ℕ) → GivesAtOnce ds functions env test x m → Leads env (If test a b) env (cond (is_nil x) b a) (m + 1)
  leads_if env test a b x m g n kept r e =
      let p = if_parts ds functions n env test a b kept r e in
      let q = g n kept p.first p.first_walks in
      let there : T n env (cond (is_nil x) b a) kept ≡ Some p.later = (λ l. T n env (cond (is_nil (sym q.value l)) b a) (sym q.calls l)) ∙ p.later_walks in
      (p.later, (there, follows_after n env (cond (is_nil x) b a) kept p.first.seen m p.later r there q.count q.narrow p.ends))

  -- to the body of a call that is opened
  pub leads_call : (env : List (ℕ × Object)) (f : ℕ) (ts : Exps) (d : Definition) (xs : List Object) (m : ℕ) → GiveAtOnce ds functions env ts xs m → OpensAtOnce ds functions f → slice_get ds f ≡ Some d → Leads env (Call f ts) (extended d.formals xs []) d.body (m + 1)
  leads_call env f ts d xs m g o s n kept r e =
      let i = then_inverted (Ts n env ts kept) _ r e in
      let w = i.0 in
      let q = g n kept w i.1.0 in
      let j = then_inverted (threaded ds A functions n f w.values w.kept) (after w.seen) r i.1.1 in
      let here : threaded ds A functions n f xs kept ≡ Some j.0 = (λ l. threaded ds A functions n f (sym q.values l) (sym q.calls l)) ∙ j.1.0 in
      let there = body_walks ds functions n f d xs kept j.0 o s here in
      (j.0, (there, follows_after n (extended d.formals xs []) d.body kept w.seen m j.0 r there q.count q.narrow j.1.1))

  -- ---- what is seen and given at the end of a way
  pub leads_sees : (env : List (ℕ × Object)) (t : Exp) (inner : List (ℕ × Object)) (u : Exp) (m : ℕ) → Leads env t inner u m → (seen : List Object) → Sees ds functions env t seen → SeesWithin ds functions inner u seen
  leads_sees env t inner u m g seen s =
      let l = g s.depth s.kept s.walk s.walks in
      (l.0.seen, (record { depth = s.depth; kept = s.kept; walk = l.0; walks = l.1.0; sight = refl }, λ x h. subst (λ (zs : List Object). IsIn zs x) s.sight (l.1.1.later_seen x h)))

  pub gives_leads : (env : List (ℕ × Object)) (t : Exp) (inner : List (ℕ × Object)) (u : Exp) (x : Object) (m k : ℕ) → Leads env t inner u m → GivesAtOnce ds functions inner u x k → GivesAtOnce ds functions env t x (m + k)
  gives_leads env t inner u x m k g h n kept r e =
      let l = g n kept r e in
      let f = l.1.1 in
      let q = h n kept l.0 l.1.0 in
      record {
        value = sym f.value ∙ q.value;
        count = omega (arith, f.count, q.count);
        narrow = every_of IsNarrow r.seen (λ y i. elim (f.all_seen y i) [
          | inl a ↦ every_at IsNarrow f.met f.narrow y a
          | inr b ↦ every_at IsNarrow l.0.seen q.narrow y b
        ]);
        calls = sym f.calls ∙ q.calls;
      }
