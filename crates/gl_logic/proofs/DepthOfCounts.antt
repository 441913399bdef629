-- Counts don't depend on which sufficient depth is taken.
use Rattle.std.proofs.Common.{◌≡◌, ◌∙◌, ap, sym, refl, ℕ, ◌+◌, List, [], ◌∷◌, ◌++◌, Some, arith, subst, length, slice_get}
use Rattle.std.specs.Prelude.{sum_by, map}
use Rattle.std.specs.List.{filter, flat_map}
use Rattle.std.proofs.lemmas.List.Sums.{sum_by-cons}
use Rattle.gl_logic.specs.Object.{Object}
use Rattle.gl_logic.specs.Environment.{extended}
use Rattle.gl_logic.specs.Definition.{Definition}
use Rattle.gl_logic.specs.Different.{different}
use Rattle.gl_logic.specs.Exp.{Exp}
use Rattle.gl_logic.specs.Walk.{Walk, CallMade, then, walk_by, walk}
use Rattle.gl_logic.specs.Evaluate.{evaluate}
use Rattle.gl_logic.specs.WorldSeen.{WorldSeen}
use Rattle.gl_logic.specs.Counts.{seen_in, made_in, seen, calls, is_among, own_opened, own_cost, own_cost_of_call, call_eq, memoized_cost}
use Rattle.gl_logic.specs.CellCounts.{cells, world_constants, constants_of}
use Rattle.gl_logic.specs.Parts.{cells_in}
use Rattle.gl_logic.proofs.Optional.{some_same, then_inverted}
use Rattle.gl_logic.proofs.Walks.{walk_of_value, walk_unique}
use Rattle.gl_logic.proofs.OwnWalks.{own_walk, own_walk_there, own_walk_more}
use Rattle.gl_logic.specs.Every.{Every}
use Rattle.gl_logic.proofs.MadeCalls.{every_map, every_filter, every_different, OpensAt, calls_open}

-- two depths that both give a value
pub record BothGive (ds : List Definition) (n m : ℕ) (env : List (ℕ × Object)) (t : Exp) : Type 0 where
  pub run : Walk
  pub first : walk ds n env t ≡ Some run
  pub second : walk ds m env t ≡ Some run

pub both_give : (ds : List Definition) (n m : ℕ) (env : List (ℕ × Object)) (t : Exp) (x y : Object) → evaluate ds n env t ≡ Some x → evaluate ds m env t ≡ Some y → BothGive ds n m env t
both_give ds n m env t x y e g =
    let r = walk_of_value ds n env t x e in
    let s = walk_of_value ds m env t y g in
    record { run = r.0; first = r.1.0; second = s.1.0 ∙ ap (λ (w : Walk). Some w) (sym (walk_unique ds n m env t r.0 s.0 r.1.0 s.1.0)) }

module _ (ds : List Definition) (n m : ℕ) (env : List (ℕ × Object)) (t : Exp) (b : BothGive ds n m env t) where
  walks_same : walk ds n env t ≡ walk ds m env t
  walks_same = b.first ∙ sym b.second

  pub seen_same : seen ds n env t ≡ seen ds m env t
  seen_same = ap seen_in walks_same

  pub calls_same : (functions : List ℕ) → calls ds functions n env t ≡ calls ds functions m env t
  calls_same functions = ap (λ o. filter (λ c. is_among functions c.0) (made_in o)) walks_same

  pub own_same : (functions : List ℕ) → own_cost ds functions n env t ≡ own_cost ds functions m env t
  own_same functions =
      let r = own_walk_there ds functions n env t b.run b.first in
      let s = own_walk_there ds functions m env t b.run b.second in
      let r' = own_walk_more ds functions n m env t r.0 r.1 in
      let s' = own_walk_more ds functions m n env t s.0 s.1 in
      let z : n + m ≡ m + n = omega arith in
      let k : s.0 ≡ r.0 = some_same s.0 r.0 (sym s' ∙ (ap (λ (k : ℕ). own_walk ds functions k env t) z ∙ r')) in
      ap (λ o. length (seen_in o)) r.1 ∙ (ap (λ (w : Walk). length w.seen) (sym k) ∙ sym (ap (λ o. length (seen_in o)) s.1))

pub sums_same : {A : Type 0} (f g : A → ℕ) (xs : List A) → Every (λ x. f x ≡ g x) xs → sum_by f xs ≡ sum_by g xs
sums_same f g [] h = refl
sums_same f g (x ∷ xs) h = sum_by-cons f x xs ∙ ((λ i. h.0 i + sums_same f g xs h.1 i) ∙ sym (sum_by-cons g x xs))

-- a call's body costs the same at two depths at which it opens
pub record OpensBoth (ds : List Definition) (n m : ℕ) (c : CallMade) : Type 0 where
  pub first : OpensAt ds n c
  pub second : OpensAt ds m c

body_same : (ds : List Definition) (functions : List ℕ) (n m : ℕ) (c : CallMade) → OpensBoth ds n m c → own_cost_of_call ds functions n c ≡ own_cost_of_call ds functions m c
body_same ds functions n m c h =
    let i = then_inverted (slice_get ds c.0) _ h.first.run h.first.walks in
    let j = then_inverted (slice_get ds c.0) _ h.second.run h.second.walks in
    let d = i.0 in
    let env = extended d.formals c.1 [] in
    let second : walk ds m env d.body ≡ Some h.second.run = subst (λ (k : Definition). walk ds m (extended k.formals c.1 []) k.body ≡ Some h.second.run) (some_same j.0 d (sym j.1.0 ∙ i.1.0)) j.1.1 in
    let same : h.second.run ≡ h.first.run = walk_unique ds m n env d.body h.second.run h.first.run second i.1.1 in
    let both : BothGive ds n m env d.body = record { run = h.first.run; first = i.1.1; second = second ∙ ap (λ (w : Walk). Some w) same } in
    ap (λ o. length (seen_in (then o (λ k. walk_by (own_opened ds functions n) k.body (extended k.formals c.1 []))))) i.1.0
    ∙ (own_same ds n m env d.body both functions ∙ sym (ap (λ o. length (seen_in (then o (λ k. walk_by (own_opened ds functions m) k.body (extended k.formals c.1 []))))) i.1.0))

every_both : (ds : List Definition) (n m : ℕ) (cs : List CallMade) → Every (OpensAt ds n) cs → Every (OpensAt ds m) cs → Every (OpensBoth ds n m) cs
every_both ds n m [] h g = tt
every_both ds n m (c ∷ cs) h g = (record { first = h.0; second = g.0 }, every_both ds n m cs h.1 g.1)

pub memoized_same : (ds : List Definition) (n m : ℕ) (env : List (ℕ × Object)) (t : Exp) → BothGive ds n m env t → (functions : List ℕ) → memoized_cost ds functions n env t ≡ memoized_cost ds functions m env t
memoized_same ds n m env t b functions =
    let made = b.run.made in
    let open_both : Every (OpensBoth ds n m) made = every_both ds n m made (calls_open ds n env t b.run b.first) (calls_open ds m env t b.run b.second) in
    let at_run : made_in (walk ds n env t) ≡ made = ap made_in b.first in
    let open_all : Every (OpensBoth ds n m) (made_in (walk ds n env t)) = subst (λ (cs : List CallMade). Every (OpensBoth ds n m) cs) (sym at_run) open_both in
    let once = every_different (OpensBoth ds n m) call_eq (calls ds functions n env t) (every_filter (OpensBoth ds n m) (λ c. is_among functions c.0) (made_in (walk ds n env t)) open_all) in
    let bodies = sums_same (own_cost_of_call ds functions n) (own_cost_of_call ds functions m) (different call_eq (calls ds functions n env t)) (every_map (OpensBoth ds n m) (λ c. own_cost_of_call ds functions n c ≡ own_cost_of_call ds functions m c) (different call_eq (calls ds functions n env t)) (body_same ds functions n m) once) in
    λ i. own_same ds n m env t b functions i + (bodies ∙ ap (λ cs. sum_by (own_cost_of_call ds functions m) (different call_eq cs)) (calls_same ds n m env t b functions)) i

pub cells_same : (w : WorldSeen) (n m : ℕ) (env : List (ℕ × Object)) (t : Exp) → BothGive w.definitions n m env t → cells w n env t ≡ cells w m env t
cells_same w n m env t b = ap (λ (xs : List Object). flat_map cells_in (map (λ p. p.1) env ++ (world_constants w ++ (constants_of t ++ xs)))) (seen_same w.definitions n m env t b)
