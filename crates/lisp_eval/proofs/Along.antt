-- The plain walk of a term, its own walk and its threaded walk, side by side: each part of the term is walked once, for any relation that the visits keep.
use Rattle.std.proofs.Common.{◌≡◌, ◌∙◌, ap, refl, ℕ, List, [], ◌∷◌, ◌++◌, Bool, true, false, Option, Some, subst}
use Rattle.gl_logic.specs.Object.{Object}
use Rattle.gl_logic.specs.ObjectEq.{is_nil}
use Rattle.gl_logic.specs.PrimValue.{prim_value}
use Rattle.gl_logic.specs.Environment.{look, extended}
use Rattle.gl_logic.specs.Exp.{Exp, Exps, Var, Const, If, Prim, Call, Let, Last, More}
use Rattle.gl_logic.specs.Walk.{Walk, Walks, CallMade, then, walk_by, walks_by}
use Rattle.gl_logic.proofs.Optional.{some_same, then_inverted}
use Rattle.lisp_eval.specs.Threads.{Thread, Threads, after, thread_by, threads_by}

-- ---- results beside a plain result
abbrev pub own_of : Walk → List Object → List CallMade → Walk
own_of r seen made = record { value = r.value; seen = seen; made = made }

abbrev pub owns_of : Walks → List Object → List CallMade → Walks
owns_of rs seen made = record { values = rs.values; seen = seen; made = made }

abbrev pub thread_of : Walk → List Object → List CallMade → Thread
thread_of r seen kept = record { value = r.value; seen = seen; kept = kept }

abbrev pub threads_of : Walks → List Object → List CallMade → Threads
threads_of rs seen kept = record { values = rs.values; seen = seen; kept = kept }

pub record At {A B C : Type 0} (own_of : A → List Object → List CallMade → B) (thread_of : A → List Object → List CallMade → C) (R : A → List Object → List Object → List CallMade → Type 0) (p : Option B) (q : Option C) (a : A) : Type 0 where
  pub own : List Object
  pub own_made : List CallMade
  pub seen : List Object
  pub kept : List CallMade
  pub own_is : p ≡ Some (own_of a own own_made)
  pub thread_is : q ≡ Some (thread_of a seen kept)
  pub related : R a own seen kept

abbrev pub Along : {A B C : Type 0} → (A → List Object → List CallMade → B) → (A → List Object → List CallMade → C) → (A → List Object → List Object → List CallMade → Type 0) → Option A → Option B → Option C → Type 0
Along {A} own_of thread_of R o p q = (a : A) → o ≡ Some a → At own_of thread_of R p q a

pub then_is : {A B : Type 0} (p : Option A) (f : A → Option B) (a : A) (b : B) → p ≡ Some a → f a ≡ Some b → then p f ≡ Some b
then_is p f a b e g = ap (λ o. then o f) e ∙ g

then_along : {A B C A' B' C' : Type 0} (ow : A → List Object → List CallMade → B) (th : A → List Object → List CallMade → C) (R : A → List Object → List Object → List CallMade → Type 0)
    (ow' : A' → List Object → List CallMade → B') (th' : A' → List Object → List CallMade → C') (R' : A' → List Object → List Object → List CallMade → Type 0)
    (o : Option A) (p : Option B) (q : Option C) (f : A → Option A') (g : B → Option B') (h : C → Option C')
    → Along ow th R o p q → ((a : A) (x : At ow th R p q a) → Along ow' th' R' (f a) (g (ow a x.own x.own_made)) (h (th a x.seen x.kept))) → Along ow' th' R' (then o f) (then p g) (then q h)
then_along ow th R ow' th' R' o p q f g h first next r e =
    let i = then_inverted o f r e in
    let x = first i.0 i.1.0 in
    let y = next i.0 x r i.1.1 in
    record { own = y.own; own_made = y.own_made; seen = y.seen; kept = y.kept; own_is = then_is p g (ow i.0 x.own x.own_made) _ x.own_is y.own_is; thread_is = then_is q h (th i.0 x.seen x.kept) _ x.thread_is y.thread_is; related = y.related }

some_along : {A B C : Type 0} (ow : A → List Object → List CallMade → B) (th : A → List Object → List CallMade → C) (R : A → List Object → List Object → List CallMade → Type 0) (a : A) (own : List Object) (own_made : List CallMade) (seen : List Object) (kept : List CallMade)
    → R a own seen kept → Along ow th R (Some a) (Some (ow a own own_made)) (Some (th a seen kept))
some_along ow th R a own own_made seen kept h b e = subst (λ c. At ow th R (Some (ow a own own_made)) (Some (th a seen kept)) c) (some_same a b e) (record { own = own; own_made = own_made; seen = seen; kept = kept; own_is = refl; thread_is = refl; related = h })

-- ---- what a relation has to keep: of the calls kept before, the values, what the plain walk sees and makes, what the own walk and the threaded walk see, and the calls kept after
abbrev pub Relation : Type 1
Relation = List CallMade → List Object → List Object → List CallMade → List Object → List Object → List CallMade → Type 0

-- at the visits that are no calls
pub record IsKeptByVisits (Rel : Relation) : Type 0 where
  pub nothing : (k : List CallMade) → Rel k [] [] [] [] [] k
  pub gathers : (k : List CallMade) (xs pl : List Object) (m : List CallMade) (ow se : List Object) (k' : List CallMade) (x : Object) → Rel k xs pl m ow se k' → Rel k (x ∷ []) (pl ++ x ∷ []) m (ow ++ x ∷ []) (se ++ x ∷ []) k'
  pub ends : (k : List CallMade) (xs pl : List Object) (m : List CallMade) (ow se : List Object) (k' : List CallMade) (x : Object) (pl' : List Object) (m' : List CallMade) (ow' se' : List Object) (k'' : List CallMade)
      → Rel k xs pl m ow se k' → Rel k' (x ∷ []) pl' m' ow' se' k'' → Rel k (x ∷ []) (pl ++ pl' ++ x ∷ []) (m ++ m') (ow ++ ow' ++ x ∷ []) (se ++ se' ++ x ∷ []) k''
  pub joins : (k : List CallMade) (x : Object) (pl : List Object) (m : List CallMade) (ow se : List Object) (k' : List CallMade) (xs pl' : List Object) (m' : List CallMade) (ow' se' : List Object) (k'' : List CallMade)
      → Rel k (x ∷ []) pl m ow se k' → Rel k' xs pl' m' ow' se' k'' → Rel k (x ∷ xs) (pl ++ pl') (m ++ m') (ow ++ ow') (se ++ se') k''

module _ (Rel : Relation) (v : IsKeptByVisits Rel) where
  abbrev pub OneRel : List CallMade → Walk → List Object → List Object → List CallMade → Type 0
  OneRel k r own seen kept = Rel k (r.value ∷ []) r.seen r.made own seen kept

  abbrev pub AllRel : List CallMade → Walks → List Object → List Object → List CallMade → Type 0
  AllRel k rs own seen kept = Rel k rs.values rs.seen rs.made own seen kept

  abbrev pub One : List CallMade → Option Walk → Option Walk → Option Thread → Type 0
  One k o p q = Along own_of thread_of (OneRel k) o p q

  abbrev pub Many : List CallMade → Option Walks → Option Walks → Option Threads → Type 0
  Many k o p q = Along owns_of threads_of (AllRel k) o p q

  pick_one : (k : List CallMade) (b : Bool) (o o' p p' : Option Walk) (q q' : Option Thread) → One k o p q → One k o' p' q'
      → One k (elim b as (λ _. Option Walk) [ true ↦ o | false ↦ o' ]) (elim b as (λ _. Option Walk) [ true ↦ p | false ↦ p' ]) (elim b as (λ _. Option Thread) [ true ↦ q | false ↦ q' ])
  pick_one k true o o' p p' q q' g h = g
  pick_one k false o o' p p' q q' g h = h

  module _ (c d : ℕ → Walks → Option Walk) (h : ℕ → List Object → List CallMade → Option Thread)
      (calls : (f : ℕ) (xs : Walks) (own : List Object) (own_made : List CallMade) (seen : List Object) (kept k : List CallMade) → Rel k xs.values xs.seen xs.made own seen kept
      → One k (c f xs) (d f (owns_of xs own own_made)) (then (h f xs.values kept) (after seen))) where
    mutual
      pub one : (t : Exp) (env : List (ℕ × Object)) (k : List CallMade) → One k (walk_by c t env) (walk_by d t env) (thread_by h t env k)
      one (Var w) env k = some_along own_of thread_of (OneRel k) _ _ _ _ _ (v.gathers k [] [] [] [] [] k (look env w) (v.nothing k))
      one (Const x) env k = some_along own_of thread_of (OneRel k) _ _ _ _ _ (v.gathers k [] [] [] [] [] k x (v.nothing k))
      one (If t a b) env k = then_along own_of thread_of (OneRel k) own_of thread_of (OneRel k) (walk_by c t env) (walk_by d t env) (thread_by h t env k) _ _ _ (one t env k) (λ x X. pick_one k (is_nil x.value) _ _ _ _ _ _
          (then_along own_of thread_of (OneRel X.kept) own_of thread_of (OneRel k) (walk_by c b env) (walk_by d b env) (thread_by h b env X.kept) _ _ _ (one b env X.kept) (λ y Y. some_along own_of thread_of (OneRel k) _ _ _ _ _ (v.ends k _ _ _ _ _ _ y.value _ _ _ _ _ X.related Y.related)))
          (then_along own_of thread_of (OneRel X.kept) own_of thread_of (OneRel k) (walk_by c a env) (walk_by d a env) (thread_by h a env X.kept) _ _ _ (one a env X.kept) (λ y Y. some_along own_of thread_of (OneRel k) _ _ _ _ _ (v.ends k _ _ _ _ _ _ y.value _ _ _ _ _ X.related Y.related))))
      one (Prim p ts) env k = then_along owns_of threads_of (AllRel k) own_of thread_of (OneRel k) (walks_by c ts env) (walks_by d ts env) (threads_by h ts env k) _ _ _ (many ts env k) (λ xs X. some_along own_of thread_of (OneRel k) _ _ _ _ _ (v.gathers k _ _ _ _ _ _ (prim_value p xs.values) X.related))
      one (Call f ts) env k = then_along owns_of threads_of (AllRel k) own_of thread_of (OneRel k) (walks_by c ts env) (walks_by d ts env) (threads_by h ts env k) _ _ _ (many ts env k) (λ xs X. calls f xs X.own X.own_made X.seen X.kept k X.related)
      one (Let vs ts b) env k = then_along owns_of threads_of (AllRel k) own_of thread_of (OneRel k) (walks_by c ts env) (walks_by d ts env) (threads_by h ts env k) _ _ _ (many ts env k) (λ xs X.
          then_along own_of thread_of (OneRel X.kept) own_of thread_of (OneRel k) (walk_by c b (extended vs xs.values env)) (walk_by d b (extended vs xs.values env)) (thread_by h b (extended vs xs.values env) X.kept) _ _ _ (one b (extended vs xs.values env) X.kept) (λ y Y. some_along own_of thread_of (OneRel k) _ _ _ _ _ (v.ends k _ _ _ _ _ _ y.value _ _ _ _ _ X.related Y.related)))

      pub many : (ts : Exps) (env : List (ℕ × Object)) (k : List CallMade) → Many k (walks_by c ts env) (walks_by d ts env) (threads_by h ts env k)
      many Last env k = some_along owns_of threads_of (AllRel k) _ _ _ _ _ (v.nothing k)
      many (More t ts) env k = then_along own_of thread_of (OneRel k) owns_of threads_of (AllRel k) (walk_by c t env) (walk_by d t env) (thread_by h t env k) _ _ _ (one t env k) (λ x X.
          then_along owns_of threads_of (AllRel X.kept) owns_of threads_of (AllRel k) (walks_by c ts env) (walks_by d ts env) (threads_by h ts env X.kept) _ _ _ (many ts env X.kept) (λ xs Y. some_along owns_of threads_of (AllRel k) _ _ _ _ _ (v.joins k x.value _ _ _ _ _ xs.values _ _ _ _ _ X.related Y.related)))
