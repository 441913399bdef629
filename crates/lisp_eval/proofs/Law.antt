-- From whatever calls are kept, the threaded count is at most the memoized cost.
use Rattle.std.proofs.Common.{◌≡◌, ◌∙◌, ap, sym, refl, ℕ, ◌+◌, ◌-◌, ◌≤◌, List, [], ◌∷◌, ◌++◌, Bool, true, false, cond, ◌||◌, ◌&&◌, Some, arith, subst, slice_get, length}
use Rattle.std.specs.Prelude.{sum_by}
use Rattle.std.specs.List.{filter}
use Rattle.std.proofs.lemmas.Bool.{or_parts, or_from}
use Rattle.std.proofs.lemmas.List.{length-append}
use Rattle.gl_logic.specs.Object.{Object}
use Rattle.gl_logic.specs.Environment.{extended}
use Rattle.gl_logic.specs.Definition.{Definition}
use Rattle.gl_logic.specs.Different.{different}
use Rattle.gl_logic.specs.Exp.{Exp}
use Rattle.gl_logic.specs.Walk.{Walk, CallMade, walk}
use Rattle.gl_logic.specs.Evaluate.{evaluate}
use Rattle.gl_logic.specs.Counts.{seen_in, own_opened, made_in, is_among, call_eq, calls, own_cost, own_cost_of_call, memoized_cost}
use Rattle.gl_logic.proofs.Walks.{walk_of_value}
use Rattle.gl_logic.proofs.OwnWalks.{own_walk, own_walk_more}
use Rattle.gl_logic.specs.Every.{Every}
use Rattle.gl_logic.proofs.MadeCalls.{every_map}
use Rattle.lisp_eval.specs.Threads.{Thread, is_kept, thread, met_in, threaded_cost}
use Rattle.lisp_eval.proofs.CallsMade.{absent_parts, every_parts, never_inside, not_inside}
use Rattle.lisp_eval.proofs.Charges.{charge, charge_at_most, charge_more, different_has, filter_has, every_own}
use Rattle.lisp_eval.proofs.Along.{own_of, IsKeptByVisits}
use Rattle.lisp_eval.proofs.Levels.{IsKeptByCalls, body_is, along}

length_visit : (xs : List Object) (x : Object) → length (xs ++ x ∷ []) ≡ length xs + 1
length_visit xs x = length-append xs (x ∷ [])

length_visits : (xs ys : List Object) (x : Object) → length (xs ++ ys ++ x ∷ []) ≡ length xs + length ys + 1
length_visits xs ys x = omega (arith, length_visit (xs ++ ys) x, length-append xs ys)

shut_answer : (answered m k : Bool) → (answered || (m && k)) ≡ false → m ≡ true → k ≡ false
shut_answer true m k h g = absurd cc
shut_answer false true k h g = h
shut_answer false false k h g = absurd cc

module _ (ds : List Definition) (answered functions : List ℕ) (top : ℕ) (us : List CallMade) where
  abbrev own : CallMade → ℕ
  own = own_cost_of_call ds functions top

  -- a call of a memoized function is among those that are paid for
  abbrev IsPaid : CallMade → Type 0
  IsPaid c = is_among functions c.0 ≡ true → is_kept us c ≡ true

  record Paid (k : List CallMade) (xs pl : List Object) (m : List CallMade) (ow se : List Object) (k' : List CallMade) : Type 0 where
    pub count : Every IsPaid m → length se + charge own us k' ≤ length ow + charge own us k
    pub absent : (c : CallMade) → is_kept k c ≡ false → is_kept m c ≡ false → is_kept k' c ≡ false

  visits : IsKeptByVisits Paid
  visits = record {
    nothing = λ k. record { count = λ e. omega arith; absent = λ c h g. h };
    gathers = λ k xs pl m ow se k' x h. record { count = λ e. omega (arith, length_visit ow x, length_visit se x, h.count e); absent = h.absent };
    ends = λ k xs pl m ow se k' x pl' m' ow' se' k'' h g. record {
      count = λ e. let p = every_parts IsPaid m m' e in omega (arith, length_visits ow ow' x, length_visits se se' x, h.count p.0, g.count p.1);
      absent = λ c i j. let p = absent_parts m m' c j in g.absent c (h.absent c i p.0) p.1;
    };
    joins = λ k x pl m ow se k' xs pl' m' ow' se' k'' h g. record {
      count = λ e. let p = every_parts IsPaid m m' e in omega (arith, length-append ow ow', length-append se se', h.count p.0, g.count p.1);
      absent = λ c i j. let p = absent_parts m m' c j in g.absent c (h.absent c i p.0) p.1;
    };
  }

  after_shut : (b : Bool) (ow o : List Object) (x : Object) → length ow + 1 ≤ length (cond b (ow ++ x ∷ []) (ow ++ o ++ x ∷ []))
  after_shut true ow o x = omega (arith, length_visit ow x)
  after_shut false ow o x = omega (arith, length_visits ow o x)

  -- what the body of a call costs of its own
  own_is : (n f : ℕ) (xs : List Object) (d : Definition) (r : Walk) → n ≤ top → slice_get ds f ≡ Some d → own_walk ds functions n (extended d.formals xs []) d.body ≡ Some r → own (f, xs) ≡ length r.seen
  own_is n f xs d r l e w =
      let z : (top - n) + n ≡ top = omega (arith, l) in
      let t : own_walk ds functions top (extended d.formals xs []) d.body ≡ Some r = subst (λ (m : ℕ). own_walk ds functions m (extended d.formals xs []) d.body ≡ Some r) z (own_walk_more ds functions n (top - n) (extended d.formals xs []) d.body r w) in
      ap (λ o. length (seen_in o)) (body_is (own_opened ds functions top) ds f xs d r e t)

  -- an opened call: a memoized one is kept, and pays for its body; another one is opened by its own walk too
  opened_count : (b : Bool) (f : ℕ) (xs ow se : List Object) (k k' k'' : List CallMade) (o se' : List Object) (x : Object) → is_among functions f ≡ b → (b ≡ true → own (f, xs) ≡ length o) → (b ≡ true → is_kept us (f, xs) ≡ true) → (b ≡ true → is_kept k'' (f, xs) ≡ false)
      → length se + charge own us k' ≤ length ow + charge own us k → length se' + charge own us k'' ≤ length o + charge own us k'
      → length (se ++ se' ++ x ∷ []) + charge own us (cond b ((f, xs) ∷ k'') k'') ≤ length (cond b (ow ++ x ∷ []) (ow ++ o ++ x ∷ [])) + charge own us k
  opened_count true f xs ow se k k' k'' o se' x e own_f paid fresh h g = omega (arith, length_visits se se' x, length_visit ow x, charge_more own us k'' (f, xs) (paid refl) (fresh refl), own_f refl, h, g)
  opened_count false f xs ow se k k' k'' o se' x e own_f paid fresh h g = omega (arith, length_visits se se' x, length_visits ow o x, h, g)

  kept_absent : (b : Bool) (f : ℕ) (xs : List Object) (k : List CallMade) (c : CallMade) → is_kept ((f, xs) ∷ []) c ≡ false → is_kept k c ≡ false → is_kept (cond b ((f, xs) ∷ k) k) c ≡ false
  kept_absent true f xs k c h g = or_from (call_eq c (f, xs)) (is_kept k c) (or_parts (call_eq c (f, xs)) false h).0 g
  kept_absent false f xs k c h g = g

  at_calls : IsKeptByCalls ds answered functions top Paid
  at_calls = record {
    shuts = λ k xs pl m ow se k' n f d run o om l e w ow_is s h. record {
      count = λ p.
          let q = every_parts IsPaid (m ++ (f, xs) ∷ []) run.made p in
          let q' = every_parts IsPaid m ((f, xs) ∷ []) q.0 in
          omega (arith, length_visits se [] run.value, after_shut (is_among functions f) ow o run.value, h.count q'.0);
      absent = λ c i j.
          let q = absent_parts (m ++ (f, xs) ∷ []) run.made c j in
          let q' = absent_parts m ((f, xs) ∷ []) c q.0 in
          h.absent c i q'.0;
    };
    opens = λ k xs pl m ow se k' n f d run o om se' k'' l e w ow_is s h g. record {
      count = λ p.
          let q = every_parts IsPaid (m ++ (f, xs) ∷ []) run.made p in
          let q' = every_parts IsPaid m ((f, xs) ∷ []) q.0 in
          opened_count (is_among functions f) f xs ow se k k' k'' o se' run.value refl
          (λ _. own_is n f xs d (own_of run o om) (omega (arith, l)) e ow_is)
          (λ b. q'.1.0 b)
          (λ b. g.absent (f, xs) (shut_answer (is_among answered f) (is_among functions f) (is_kept k' (f, xs)) s b) (not_inside (is_kept run.made (f, xs)) (never_inside ds n f xs d run e w)))
          (h.count q'.0) (g.count q.1);
      absent = λ c i j.
          let q = absent_parts (m ++ (f, xs) ∷ []) run.made c j in
          let q' = absent_parts m ((f, xs) ∷ []) c q.0 in
          kept_absent (is_among functions f) f xs k'' c q'.1 (g.absent c (h.absent c i q'.0) q.1);
    };
  }

  pub paid : (t : Exp) (env : List (ℕ × Object)) (k : List CallMade) (r : Walk) → walk ds top env t ≡ Some r → Every IsPaid r.made
      → (own_seen : List Object) × ((own_made : List CallMade) × ((h : Thread) × ((own_walk ds functions top env t ≡ Some (own_of r own_seen own_made)) × ((thread ds answered functions top env t k ≡ Some h) × (length h.seen ≤ length own_seen + charge own us k)))))
  paid t env k r e p =
      let X = along ds answered functions top Paid visits at_calls top (omega arith) t env k r e in
      (X.own, (X.own_made, (record { value = r.value; seen = X.seen; kept = X.kept }, (X.own_is, (X.thread_is, omega (arith, X.related.count p))))))

all_paid : (functions : List ℕ) (made : List CallMade) → Every (λ c. is_among functions c.0 ≡ true → is_kept (different call_eq (filter (λ c. is_among functions c.0) made)) c ≡ true) made
all_paid functions made = every_map (λ c. is_kept made c ≡ true) (λ c. is_among functions c.0 ≡ true → is_kept (different call_eq (filter (λ c. is_among functions c.0) made)) c ≡ true) made (λ c h g. different_has (filter (λ c. is_among functions c.0) made) c ∙ filter_has functions made c g h) (every_own made made (λ c h. h))

-- the law
pub threaded_at_most : (ds : List Definition) (answered functions : List ℕ) (n : ℕ) (env : List (ℕ × Object)) (t : Exp) (kept : List CallMade) (x : Object) → evaluate ds n env t ≡ Some x
    → threaded_cost ds answered functions n env t kept ≤ memoized_cost ds functions n env t
threaded_at_most ds answered functions n env t kept x e =
    let w = walk_of_value ds n env t x e in
    let r = w.0 in
    let us : List CallMade = different call_eq (filter (λ c. is_among functions c.0) r.made) in
    let at_run : us ≡ different call_eq (calls ds functions n env t) = ap (λ o. different call_eq (filter (λ c. is_among functions c.0) (made_in o))) (sym w.1.0) in
    let X = paid ds answered functions n us t env kept r w.1.0 (all_paid functions r.made) in
    let seen : threaded_cost ds answered functions n env t kept ≡ length X.1.1.0.seen = ap (λ o. length (met_in o)) X.1.1.1.1.0 in
    let own_seen : own_cost ds functions n env t ≡ length X.0 = ap (λ o. length (seen_in o)) X.1.1.1.0 in
    let sums : sum_by (own_cost_of_call ds functions n) us ≡ sum_by (own_cost_of_call ds functions n) (different call_eq (calls ds functions n env t)) = ap (sum_by (own_cost_of_call ds functions n)) at_run in
    omega (arith, X.1.1.1.1.1, seen, own_seen, sums, charge_at_most (own_cost_of_call ds functions n) us kept)
