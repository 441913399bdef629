-- The three walks side by side, at each depth.
use Rattle.std.proofs.Common.{◌≡◌, refl, ℕ, zero, suc, ◌≤◌, List, [], ◌∷◌, ◌++◌, Bool, true, false, cond, Option, Some, arith, subst, slice_get}
use Rattle.gl_logic.specs.Object.{Object}
use Rattle.gl_logic.specs.Environment.{extended}
use Rattle.gl_logic.specs.Definition.{Definition}
use Rattle.gl_logic.specs.Exp.{Exp}
use Rattle.gl_logic.specs.Walk.{Walk, Walks, CallMade, then, ended, gathered, walk_by, body_by, opened, body_walk, walk}
use Rattle.gl_logic.specs.Counts.{own_opened, is_among}
use Rattle.gl_logic.proofs.Optional.{none_some, some_same, then_inverted}
use Rattle.gl_logic.proofs.OwnWalks.{own_walk}
use Rattle.lisp_eval.specs.Threads.{Thread, after, thread_by, stays_shut, keeping, finished, skipped, plain_call, threaded, thread}
use Rattle.lisp_eval.proofs.Along.{own_of, owns_of, thread_of, At, then_is, Relation, IsKeptByVisits, OneRel, One, one}

-- what the own walk sees behind a call
abbrev pub own_after : List ℕ → ℕ → List Object → List Object → Object → List Object
own_after functions f ow own x = cond (is_among functions f) (ow ++ x ∷ []) (ow ++ own ++ x ∷ [])

-- at calls
pub record IsKeptByCalls (ds : List Definition) (answered functions : List ℕ) (top : ℕ) (Rel : Relation) : Type 0 where
  -- of a call that is not opened
  pub shuts : (k : List CallMade) (xs pl : List Object) (m : List CallMade) (ow se : List Object) (k' : List CallMade) (n f : ℕ) (d : Definition) (run : Walk) (own : List Object) (own_made : List CallMade)
      → suc n ≤ top → slice_get ds f ≡ Some d → walk ds n (extended d.formals xs []) d.body ≡ Some run → own_walk ds functions n (extended d.formals xs []) d.body ≡ Some (own_of run own own_made)
      → stays_shut answered functions f xs k' ≡ true → Rel k xs pl m ow se k'
      → Rel k (run.value ∷ []) (pl ++ run.seen ++ run.value ∷ []) ((m ++ (f, xs) ∷ []) ++ run.made) (own_after functions f ow own run.value) (se ++ [] ++ run.value ∷ []) k'
  -- of one that is
  pub opens : (k : List CallMade) (xs pl : List Object) (m : List CallMade) (ow se : List Object) (k' : List CallMade) (n f : ℕ) (d : Definition) (run : Walk) (own : List Object) (own_made : List CallMade) (se' : List Object) (k'' : List CallMade)
      → suc n ≤ top → slice_get ds f ≡ Some d → walk ds n (extended d.formals xs []) d.body ≡ Some run → own_walk ds functions n (extended d.formals xs []) d.body ≡ Some (own_of run own own_made)
      → stays_shut answered functions f xs k' ≡ false → Rel k xs pl m ow se k' → Rel k' (run.value ∷ []) run.seen run.made own se' k''
      → Rel k (run.value ∷ []) (pl ++ run.seen ++ run.value ∷ []) ((m ++ (f, xs) ∷ []) ++ run.made) (own_after functions f ow own run.value) (se ++ se' ++ run.value ∷ []) (keeping functions f xs k'')

-- a call's body
pub body_is : (c : ℕ → Walks → Option Walk) (ds : List Definition) (f : ℕ) (xs : List Object) (d : Definition) (run : Walk) → slice_get ds f ≡ Some d → walk_by c d.body (extended d.formals xs []) ≡ Some run → body_by c ds f xs ≡ Some run
body_is c ds f xs d run e w = then_is (slice_get ds f) (λ d. walk_by c d.body (extended d.formals xs [])) d _ e w

own_call : (ds : List Definition) (functions : List ℕ) (n f : ℕ) (b : Bool) (xs ow : List Object) (om : List CallMade) (d : Definition) (run : Walk) (own : List Object) (own_made : List CallMade)
    → slice_get ds f ≡ Some d → walk ds n (extended d.formals xs []) d.body ≡ Some run → own_walk ds functions n (extended d.formals xs []) d.body ≡ Some (own_of run own own_made)
    → (made : List CallMade) × (elim b as (λ _. Option Walk) [
      | true ↦ then (opened ds (suc n) f (record { values = xs; seen = ow; made = om })) (λ r. gathered r.value (record { values = xs; seen = ow; made = om }))
      | false ↦ then (body_by (own_opened ds functions n) ds f xs) (ended ow (om ++ (f, xs) ∷ []))
    ] ≡ Some (record { value = run.value; seen = cond b (ow ++ run.value ∷ []) (ow ++ own ++ run.value ∷ []); made = made }))
own_call ds functions n f true xs ow om d run own own_made e w g = (
  om,
  then_is (opened ds (suc n) f (record { values = xs; seen = ow; made = om })) (λ r. gathered r.value (record { values = xs; seen = ow; made = om })) (record { value = run.value; seen = ow ++ run.seen ++ run.value ∷ []; made = (om ++ (f, xs) ∷ []) ++ run.made }) _
      (then_is (body_walk ds n f xs) (ended ow (om ++ (f, xs) ∷ [])) run _ (body_is (opened ds n) ds f xs d run e w) refl) refl,
)
own_call ds functions n f false xs ow om d run own own_made e w g =
    ((om ++ (f, xs) ∷ []) ++ own_made, then_is (body_by (own_opened ds functions n) ds f xs) (ended ow (om ++ (f, xs) ∷ [])) (own_of run own own_made) _ (body_is (own_opened ds functions n) ds f xs d (own_of run own own_made) e g) refl)

plain_is : (ds : List Definition) (n f : ℕ) (xs : List Object) (d : Definition) (run : Walk) → slice_get ds f ≡ Some d → walk ds n (extended d.formals xs []) d.body ≡ Some run
    → plain_call ds (suc n) f xs ≡ Some (record { value = run.value; seen = run.seen ++ run.value ∷ []; made = ((f, xs) ∷ []) ++ run.made })
plain_is ds n f xs d run e w = then_is (body_walk ds n f xs) (ended [] ((f, xs) ∷ [])) run _ (body_is (opened ds n) ds f xs d run e w) refl

module _ (ds : List Definition) (answered functions : List ℕ) (top : ℕ) (Rel : Relation) (v : IsKeptByVisits Rel) (c : IsKeptByCalls ds answered functions top Rel) where
  thread_call : (n f : ℕ) (b : Bool) (k : List CallMade) (xs : Walks) (ow se : List Object) (k' : List CallMade) (d : Definition) (run : Walk) (p : Option Walk) (made : List CallMade)
      → suc n ≤ top → slice_get ds f ≡ Some d → walk ds n (extended d.formals xs.values []) d.body ≡ Some run
      → (B : At own_of thread_of (OneRel Rel v k') (own_walk ds functions n (extended d.formals xs.values []) d.body) (thread ds answered functions n (extended d.formals xs.values []) d.body k') run)
      → stays_shut answered functions f xs.values k' ≡ b
      → Rel k xs.values xs.seen xs.made ow se k'
      → p ≡ Some (record { value = run.value; seen = own_after functions f ow B.own run.value; made = made })
      → At own_of thread_of (OneRel Rel v k) p (then (elim b as (λ _. Option Thread) [
        | true ↦ then (plain_call ds (suc n) f xs.values) (λ r. skipped k' r.value)
        | false ↦ then (slice_get ds f) (λ d. then (thread_by (threaded ds answered functions n) d.body (extended d.formals xs.values []) k') (finished functions f xs.values))
      ]) (after se)) (record { value = run.value; seen = xs.seen ++ run.seen ++ run.value ∷ []; made = (xs.made ++ (f, xs.values) ∷ []) ++ run.made })
  thread_call n f true k xs ow se k' d run p made l e w B s h g = record {
    own = own_after functions f ow B.own run.value;
    own_made = made;
    seen = se ++ [] ++ run.value ∷ [];
    kept = k';
    own_is = g;
    thread_is = then_is (then (plain_call ds (suc n) f xs.values) (λ r. skipped k' r.value)) (after se) (thread_of run [] k') _ (then_is (plain_call ds (suc n) f xs.values) (λ r. skipped k' r.value) _ _ (plain_is ds n f xs.values d run e w) refl) refl;
    related = c.shuts k xs.values xs.seen xs.made ow se k' n f d run B.own B.own_made l e w B.own_is s h;
  }
  thread_call n f false k xs ow se k' d run p made l e w B s h g = record {
    own = own_after functions f ow B.own run.value;
    own_made = made;
    seen = se ++ B.seen ++ run.value ∷ [];
    kept = keeping functions f xs.values B.kept;
    own_is = g;
    thread_is = then_is (then (slice_get ds f) (λ d. then (thread_by (threaded ds answered functions n) d.body (extended d.formals xs.values []) k') (finished functions f xs.values))) (after se) (thread_of run B.seen (keeping functions f xs.values B.kept)) _
        (then_is (slice_get ds f) (λ d. then (thread_by (threaded ds answered functions n) d.body (extended d.formals xs.values []) k') (finished functions f xs.values)) d _ e
        (then_is (thread_by (threaded ds answered functions n) d.body (extended d.formals xs.values []) k') (finished functions f xs.values) (thread_of run B.seen B.kept) _ B.thread_is refl)) refl;
    related = c.opens k xs.values xs.seen xs.made ow se k' n f d run B.own B.own_made B.seen B.kept l e w B.own_is s h B.related;
  }

  pub level : (n : ℕ) → n ≤ top → (f : ℕ) (xs : Walks) (own : List Object) (own_made : List CallMade) (seen : List Object) (kept k : List CallMade) → Rel k xs.values xs.seen xs.made own seen kept
      → One Rel v k (opened ds n f xs) (own_opened ds functions n f (owns_of xs own own_made)) (then (threaded ds answered functions n f xs.values kept) (after seen))
  level zero l f xs own own_made seen kept k h = λ r e. none_some r e
  level (suc n) l f xs own own_made seen kept k h = λ r e.
      let j = then_inverted (body_walk ds n f xs.values) _ r e in
      let i = then_inverted (slice_get ds f) _ j.0 j.1.0 in
      let d = i.0 in
      let run = j.0 in
      let B = one Rel v (opened ds n) (own_opened ds functions n) (threaded ds answered functions n) (level n (omega (arith, l))) d.body (extended d.formals xs.values []) kept run i.1.1 in
      let p = own_call ds functions n f (is_among functions f) xs.values own own_made d run B.own B.own_made i.1.0 i.1.1 B.own_is in
      subst (λ (w : Walk). At own_of thread_of (OneRel Rel v k) (own_opened ds functions (suc n) f (owns_of xs own own_made)) (then (threaded ds answered functions (suc n) f xs.values kept) (after seen)) w) (some_same _ _ j.1.1)
      (thread_call n f (stays_shut answered functions f xs.values kept) k xs own seen kept d run (own_opened ds functions (suc n) f (owns_of xs own own_made)) p.0 l i.1.0 i.1.1 B refl h p.1)

  -- the theorem of the three walks
  pub along : (n : ℕ) → n ≤ top → (t : Exp) (env : List (ℕ × Object)) (k : List CallMade) → One Rel v k (walk ds n env t) (own_walk ds functions n env t) (thread ds answered functions n env t k)
  along n l t env k = one Rel v (opened ds n) (own_opened ds functions n) (threaded ds answered functions n) (level n l) t env k
