-- More depth keeps a threaded walk.
use Rattle.std.proofs.Common.{◌≡◌, ℕ, zero, suc, List, [], Bool, true, false, Option, Some, slice_get}
use Rattle.gl_logic.specs.Object.{Object}
use Rattle.gl_logic.specs.ObjectEq.{is_nil}
use Rattle.gl_logic.specs.Environment.{extended}
use Rattle.gl_logic.specs.Definition.{Definition}
use Rattle.gl_logic.specs.Exp.{Exp, Exps, Var, Const, If, Prim, Call, Let, Last, More}
use Rattle.gl_logic.specs.Walk.{CallMade}
use Rattle.gl_logic.proofs.Optional.{none_some}
use Rattle.gl_logic.proofs.Walks.{then_both, opened_more}
use Rattle.lisp_eval.specs.Threads.{Thread, Threads, thread_by, threads_by, stays_shut, skipped, plain_call, threaded}

thread_pick_both : (b : Bool) (p p' q q' : Option Thread) (r : Thread) → (p ≡ Some r → p' ≡ Some r) → (q ≡ Some r → q' ≡ Some r) → elim b as (λ _. Option Thread) [ true ↦ p | false ↦ q ] ≡ Some r → elim b as (λ _. Option Thread) [ true ↦ p' | false ↦ q' ] ≡ Some r
thread_pick_both true p p' q q' r g h e = g e
thread_pick_both false p p' q q' r g h e = h e

module _ (c d : ℕ → List Object → List CallMade → Option Thread) (grows : (f : ℕ) (xs : List Object) (k : List CallMade) (r : Thread) → c f xs k ≡ Some r → d f xs k ≡ Some r) where
  mutual
    pub thread_grow : (t : Exp) (env : List (ℕ × Object)) (k : List CallMade) (r : Thread) → thread_by c t env k ≡ Some r → thread_by d t env k ≡ Some r
    thread_grow (Var v) env k r = λ e. e
    thread_grow (Const x) env k r = λ e. e
    thread_grow (If t a b) env k r = then_both _ _ _ _ r (thread_grow t env k) (λ x. thread_pick_both (is_nil x.value) _ _ _ _ r (then_both _ _ _ _ r (thread_grow b env x.kept) (λ y e. e)) (then_both _ _ _ _ r (thread_grow a env x.kept) (λ y e. e)))
    thread_grow (Prim p ts) env k r = then_both _ _ _ _ r (thread_grow_all ts env k) (λ xs e. e)
    thread_grow (Call f ts) env k r = then_both _ _ _ _ r (thread_grow_all ts env k) (λ xs. then_both _ _ _ _ r (grows f xs.values xs.kept) (λ y e. e))
    thread_grow (Let vs ts b) env k r = then_both _ _ _ _ r (thread_grow_all ts env k) (λ xs. then_both _ _ _ _ r (thread_grow b (extended vs xs.values env) xs.kept) (λ y e. e))

    pub thread_grow_all : (ts : Exps) (env : List (ℕ × Object)) (k : List CallMade) (r : Threads) → threads_by c ts env k ≡ Some r → threads_by d ts env k ≡ Some r
    thread_grow_all Last env k r = λ e. e
    thread_grow_all (More t ts) env k r = then_both _ _ _ _ r (thread_grow t env k) (λ x. then_both _ _ _ _ r (thread_grow_all ts env x.kept) (λ y e. e))

pub threaded_more : (ds : List Definition) (answered functions : List ℕ) (n f : ℕ) (xs : List Object) (k : List CallMade) (r : Thread) → threaded ds answered functions n f xs k ≡ Some r → threaded ds answered functions (suc n) f xs k ≡ Some r
threaded_more ds answered functions zero f xs k r = none_some r
threaded_more ds answered functions (suc n) f xs k r = thread_pick_both (stays_shut answered functions f xs k) _ _ _ _ r
    (then_both (plain_call ds (suc n) f xs) (plain_call ds (suc (suc n)) f xs) (λ y. skipped k y.value) (λ y. skipped k y.value) r (opened_more ds (suc n) f (record { values = xs; seen = []; made = [] })) (λ y e. e))
    (then_both (slice_get ds f) (slice_get ds f) _ _ r (λ d e. e) (λ d. then_both _ _ _ _ r (thread_grow (threaded ds answered functions n) (threaded ds answered functions (suc n)) (threaded_more ds answered functions n) d.body (extended d.formals xs []) k) (λ y e. e)))
