-- What the threaded walk sees is seen by the plain walk; and where what it sees is fine, and the plain evaluation of each kept call, then so is all that the plain walk sees, and each call that is kept afterwards.
use Rattle.std.proofs.Common.{◌≡◌, ◌∙◌, sym, refl, ℕ, List, [], ◌∷◌, ◌++◌, Bool, true, false, cond, ◌&&◌, Some, subst, slice_get, arith}
use Rattle.std.proofs.lemmas.Bool.{or_cases, and_parts}
use Rattle.std.proofs.Math.Logic.{⊎_elim}
use Rattle.gl_logic.specs.Object.{Object}
use Rattle.gl_logic.specs.Environment.{extended}
use Rattle.gl_logic.specs.Definition.{Definition}
use Rattle.gl_logic.specs.Exp.{Exp}
use Rattle.gl_logic.specs.Walk.{Walk, CallMade, walk}
use Rattle.gl_logic.specs.Counts.{is_among}
use Rattle.gl_logic.proofs.Optional.{some_same}
use Rattle.gl_logic.proofs.Walks.{walk_unique}
use Rattle.gl_logic.specs.Every.{Every}
use Rattle.gl_logic.proofs.MadeCalls.{every_append}
use Rattle.lisp_eval.specs.Threads.{Thread, is_kept, stays_shut, thread}
use Rattle.gl_logic.proofs.Calls.{every_at}
use Rattle.lisp_eval.proofs.CallsMade.{every_parts}
use Rattle.lisp_eval.proofs.Along.{IsKeptByVisits}
use Rattle.lisp_eval.proofs.Levels.{IsKeptByCalls, along}

-- all that the plain evaluation of a call's body sees is fine
abbrev pub IsFineCall : List Definition → (Object → Type 0) → CallMade → Type 0
IsFineCall ds Fine c = (d : Definition) (n : ℕ) (r : Walk) → slice_get ds c.0 ≡ Some d → walk ds n (extended d.formals c.1 []) d.body ≡ Some r → Every Fine r.seen

-- of the functions that tables answer: they see nothing but what is fine where their arguments are
abbrev pub AnswersAreFine : List Definition → List ℕ → (Object → Type 0) → Type 0
AnswersAreFine ds answered Fine = (f : ℕ) (xs : List Object) → is_among answered f ≡ true → Every Fine xs → IsFineCall ds Fine (f, xs)

module _ (ds : List Definition) (answered functions : List ℕ) (top : ℕ) (P Fine : Object → Type 0) (answers : AnswersAreFine ds answered Fine) where
  record Covered (k : List CallMade) (xs pl : List Object) (m : List CallMade) (ow se : List Object) (k' : List CallMade) : Type 0 where
    pub within : Every P pl → Every P se
    pub fine : Every Fine se → Every (IsFineCall ds Fine) k → (Every Fine xs) × ((Every Fine pl) × (Every (IsFineCall ds Fine) k'))

  two : (Q : Object → Type 0) (xs ys : List Object) (x : Object) → Every Q (xs ++ ys ++ x ∷ []) → (Every Q xs) × ((Every Q ys) × (Q x))
  two Q xs ys x h = let p = every_parts Q (xs ++ ys) (x ∷ []) h in let q = every_parts Q xs ys p.0 in (q.0, (q.1, p.1.0))

  three : (Q : Object → Type 0) (xs ys : List Object) (x : Object) → Every Q xs → Every Q ys → Q x → Every Q (xs ++ ys ++ x ∷ [])
  three Q xs ys x h g i = every_append Q (xs ++ ys) (x ∷ []) (every_append Q xs ys h g) (i, tt)

  visits : IsKeptByVisits Covered
  visits = record {
    nothing = λ k. record { within = λ h. tt; fine = λ h g. (tt, (tt, g)) };
    gathers = λ k xs pl m ow se k' x h. record {
      within = λ p. let q = every_parts P pl (x ∷ []) p in every_append P se (x ∷ []) (h.within q.0) q.1;
      fine = λ p c. let q = every_parts Fine se (x ∷ []) p in let r = h.fine q.0 c in (q.1, (every_append Fine pl (x ∷ []) r.1.0 q.1, r.1.1));
    };
    ends = λ k xs pl m ow se k' x pl' m' ow' se' k'' h g. record {
      within = λ p. let q = two P pl pl' x p in three P se se' x (h.within q.0) (g.within q.1.0) q.1.1;
      fine = λ p c. let q = two Fine se se' x p in let r = h.fine q.0 c in let s = g.fine q.1.0 r.1.1 in ((q.1.1, tt), (three Fine pl pl' x r.1.0 s.1.0 q.1.1, s.1.1));
    };
    joins = λ k x pl m ow se k' xs pl' m' ow' se' k'' h g. record {
      within = λ p. let q = every_parts P pl pl' p in every_append P se se' (h.within q.0) (g.within q.1);
      fine = λ p c. let q = every_parts Fine se se' p in let r = h.fine q.0 c in let s = g.fine q.1 r.1.1 in ((r.0.0, s.0), (every_append Fine pl pl' r.1.0 s.1.0, s.1.1));
    };
  }

  shut_fine : (f : ℕ) (xs : List Object) (k : List CallMade) → stays_shut answered functions f xs k ≡ true → Every Fine xs → Every (IsFineCall ds Fine) k → IsFineCall ds Fine (f, xs)
  shut_fine f xs k s h g = ⊎_elim (λ a. answers f xs a h) (λ b. every_at (IsFineCall ds Fine) k (f, xs) g (and_parts (is_among functions f) (is_kept k (f, xs)) b).1) (or_cases (is_among answered f) (is_among functions f && is_kept k (f, xs)) s)

  keeping_fine : (b : Bool) (f : ℕ) (xs : List Object) (k : List CallMade) → IsFineCall ds Fine (f, xs) → Every (IsFineCall ds Fine) k → Every (IsFineCall ds Fine) (cond b ((f, xs) ∷ k) k)
  keeping_fine true f xs k h g = (h, g)
  keeping_fine false f xs k h g = g

  run_fine : (n f : ℕ) (xs : List Object) (d : Definition) (run : Walk) → slice_get ds f ≡ Some d → walk ds n (extended d.formals xs []) d.body ≡ Some run → Every Fine run.seen → IsFineCall ds Fine (f, xs)
  run_fine n f xs d run e w h d' n' r e' w' =
      let q : d' ≡ d = some_same d' d (sym e' ∙ e) in
      let w'' : walk ds n' (extended d.formals xs []) d.body ≡ Some r = subst (λ (z : Definition). walk ds n' (extended z.formals xs []) z.body ≡ Some r) q w' in
      subst (λ (z : Walk). Every Fine z.seen) (walk_unique ds n n' (extended d.formals xs []) d.body run r w w'') h

  at_calls : IsKeptByCalls ds answered functions top Covered
  at_calls = record {
    shuts = λ k xs pl m ow se k' n f d run o om l e w ow_is s h. record {
      within = λ p. let q = two P pl run.seen run.value p in three P se [] run.value (h.within q.0) tt q.1.1;
      fine = λ p c. let q = two Fine se [] run.value p in let r = h.fine q.0 c in ((q.1.1, tt), (three Fine pl run.seen run.value r.1.0 (shut_fine f xs k' s r.0 r.1.1 d n run e w) q.1.1, r.1.1));
    };
    opens = λ k xs pl m ow se k' n f d run o om se' k'' l e w ow_is s h g. record {
      within = λ p. let q = two P pl run.seen run.value p in three P se se' run.value (h.within q.0) (g.within q.1.0) q.1.1;
      fine = λ p c. let q = two Fine se se' run.value p in let r = h.fine q.0 c in let i = g.fine q.1.0 r.1.1 in
          ((q.1.1, tt), (three Fine pl run.seen run.value r.1.0 i.1.0 q.1.1, keeping_fine (is_among functions f) f xs k'' (run_fine n f xs d run e w i.1.0) i.1.1));
    };
  }

  -- a term that has a walk has a threaded walk from any kept calls, with the same value
  pub record Threaded (k : List CallMade) (env : List (ℕ × Object)) (t : Exp) (r : Walk) : Type 0 where
    pub run : Thread
    pub walks : thread ds answered functions top env t k ≡ Some run
    pub value : run.value ≡ r.value
    pub within : Every P r.seen → Every P run.seen
    pub fine : Every Fine run.seen → Every (IsFineCall ds Fine) k → (Every Fine r.seen) × (Every (IsFineCall ds Fine) run.kept)

  pub threads_there : (k : List CallMade) (env : List (ℕ × Object)) (t : Exp) (r : Walk) → walk ds top env t ≡ Some r → Threaded k env t r
  threads_there k env t r e =
      let X = along ds answered functions top Covered visits at_calls top (omega arith) t env k r e in
      record { run = record { value = r.value; seen = X.seen; kept = X.kept }; walks = X.thread_is; value = refl; within = X.related.within; fine = λ h g. let q = X.related.fine h g in (q.1.0, q.1.1) }
