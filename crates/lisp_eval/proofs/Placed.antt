-- A term without calls, and the same with its variables as places.
use Rattle.std.proofs.Common.{◌≡◌, ap, refl, ℕ, Bool, true, false, ◌&&◌, eqb, List, Option}
use Rattle.std.specs.List.{position_or_len}
use Rattle.std.proofs.lemmas.Bool.{and_parts}
use Rattle.gl_logic.specs.Environment.{look}
use Rattle.gl_logic.specs.Exp.{Exp, Exps, Var, Const, If, Prim, Call, Let, Last, More}
use Rattle.gl_logic.specs.IsGround.{placed, all_placed}
use Rattle.gl_logic.specs.Object.{Object}
use Rattle.gl_logic.specs.ObjectEq.{is_nil}
use Rattle.gl_logic.specs.PrimValue.{prim_value}
use Rattle.gl_logic.specs.Walk.{CallMade, then}
use Rattle.lisp_eval.specs.Threads.{Thread, after, chained, closed, met, thread_by, threads_by}

-- no call, and no let
abbrev mutual
  pub is_callless : Exp → Bool
  is_callless (Var v) = true
  is_callless (Const x) = true
  is_callless (If t a b) = is_callless t && (is_callless a && is_callless b)
  is_callless (Prim p ts) = are_callless ts
  is_callless (Call g ts) = false
  is_callless (Let vs ts b) = false

  pub are_callless : Exps → Bool
  are_callless Last = true
  are_callless (More t ts) = is_callless t && are_callless ts

module _ (c : ℕ → List Object → List CallMade → Option Thread) (formals : List ℕ) (env env' : List (ℕ × Object)) (same : (u : ℕ) → look env u ≡ look env' (position_or_len (eqb u) formals)) where
  mutual
    pub placed_thread : (t : Exp) → is_callless (placed formals t) ≡ true → (kept : List CallMade) → thread_by c t env kept ≡ thread_by c (placed formals t) env' kept
    placed_thread (Var u) h kept = ap (λ x. met x kept) (same u)
    placed_thread (Const x) h kept = refl
    placed_thread (If t a b) h kept =
        let k = and_parts (is_callless (placed formals t)) (is_callless (placed formals a) && is_callless (placed formals b)) h in
        let m = and_parts (is_callless (placed formals a)) (is_callless (placed formals b)) k.1 in
        let pt = placed_thread t k.0 kept in
        let pa = placed_thread a m.0 in
        let pb = placed_thread b m.1 in
        λ i. then (pt i) (λ r. elim (is_nil r.value) [ true ↦ then (pb r.kept i) (after r.seen) | false ↦ then (pa r.kept i) (after r.seen) ])
    placed_thread (Prim p ts) h kept = ap (λ o. then o (λ rs. closed (prim_value p rs.values) rs)) (placed_threads ts h kept)
    placed_thread (Call g ts) h kept = absurd cc
    placed_thread (Let vs ts b) h kept = absurd cc

    placed_threads : (ts : Exps) → are_callless (all_placed formals ts) ≡ true → (kept : List CallMade) → threads_by c ts env kept ≡ threads_by c (all_placed formals ts) env' kept
    placed_threads Last h kept = refl
    placed_threads (More t ts) h kept =
        let k = and_parts (is_callless (placed formals t)) (are_callless (all_placed formals ts)) h in
        let pt = placed_thread t k.0 kept in
        let ps = placed_threads ts k.1 in
        λ i. then (pt i) (λ r. then (ps r.kept i) (chained r))
