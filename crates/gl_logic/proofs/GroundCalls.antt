-- A ground definition walks in each world as where there are the ground definitions alone.
use Rattle.std.proofs.Common.{◌≡◌, ◌∙◌, ap, sym, refl, subst, ℕ, zero, suc, ◌+◌, ◌≤◌, ◌<◌, List, [], ◌∷◌, ◌++◌, Bool, true, false, ◌&&◌, eqb, leb, Option, Some, None, length, arith, slice_get}
use Rattle.std.specs.Prelude.{IfSome}
use Rattle.std.specs.List.{position_or_len, range_with_len}
use Rattle.std.specs.Option.{option_map}
use Rattle.std.proofs.lemmas.Bool.{and_parts, leb-true}
use Rattle.std.proofs.lemmas.Option.{slice_get-map}
use Rattle.gl_logic.specs.Object.{Object}
use Rattle.gl_logic.specs.ObjectEq.{is_nil}
use Rattle.gl_logic.specs.PrimValue.{prim_value}
use Rattle.gl_logic.specs.Environment.{look, extended}
use Rattle.gl_logic.specs.Definition.{Definition}
use Rattle.gl_logic.specs.Exp.{Exp, Exps, Var, Const, If, Prim, Call, Let, Last, More}
use Rattle.gl_logic.specs.Walk.{Walk, Walks, then, visited, ended, gathered, joined, walk_by, walks_by, body_by, opened, body_walk, walk}
use Rattle.gl_logic.specs.ConstantCall.{constant_terms, constant_call}
use Rattle.gl_logic.specs.Ground.{Ground, ground, ground_definition, ground_definitions}
use Rattle.gl_logic.specs.IsGround.{placed, all_placed, AreGround}
use Rattle.gl_logic.specs.GroundCalls.{IsGroundIn}
use Rattle.gl_logic.proofs.Optional.{none_some, some_same}

-- ---- no let, and calls of definitions up to this number alone
abbrev mutual
  calls_up_to : ℕ → Exp → Bool
  calls_up_to f (Var v) = true
  calls_up_to f (Const x) = true
  calls_up_to f (If t a b) = calls_up_to f t && (calls_up_to f a && calls_up_to f b)
  calls_up_to f (Prim p ts) = all_call_up_to f ts
  calls_up_to f (Call g ts) = leb g f && all_call_up_to f ts
  calls_up_to f (Let vs ts b) = false

  all_call_up_to : ℕ → Exps → Bool
  all_call_up_to f Last = true
  all_call_up_to f (More t ts) = calls_up_to f t && all_call_up_to f ts

abbrev each_up_to : ℕ → List Ground → Bool
each_up_to i [] = true
each_up_to i (g ∷ gs) = calls_up_to i g.body && each_up_to (suc i) gs

-- each ground definition calls earlier ones and itself
ground_up_to : each_up_to 0 ground ≡ true
unfolding ground
ground_up_to = refl

up_to_at : (i : ℕ) (gs : List Ground) (k j : ℕ) (g : Ground) → i + k ≡ j → each_up_to i gs ≡ true → slice_get gs k ≡ Some g → calls_up_to j g.body ≡ true
up_to_at i [] k j g q h e = none_some g e
up_to_at i (c ∷ gs) zero j g q h e =
    let p = and_parts (calls_up_to i c.body) (each_up_to (suc i) gs) h in
    let z : i ≡ j = omega arith in
    subst (λ (k : Ground). calls_up_to j k.body ≡ true) (some_same c g e) (subst (λ (k : ℕ). calls_up_to k c.body ≡ true) z p.0)
up_to_at i (c ∷ gs) (suc k) j g q h e = up_to_at (suc i) gs k j g (omega (arith, q)) (and_parts (calls_up_to i c.body) (each_up_to (suc i) gs) h).1 e

-- ---- a term, and the same with its variables as places
module _ (c d : ℕ → Walks → Option Walk) (f : ℕ) (alike : (g : ℕ) (rs : Walks) → g ≤ f → c g rs ≡ d g rs) (formals : List ℕ) (env env' : List (ℕ × Object)) (same : (u : ℕ) → look env u ≡ look env' (position_or_len (eqb u) formals)) where
  mutual
    placed_walk : (t : Exp) → calls_up_to f (placed formals t) ≡ true → walk_by c t env ≡ walk_by d (placed formals t) env'
    placed_walk (Var u) h = ap visited (same u)
    placed_walk (Const x) h = refl
    placed_walk (If t a b) h =
        let k = and_parts (calls_up_to f (placed formals t)) (calls_up_to f (placed formals a) && calls_up_to f (placed formals b)) h in
        let m = and_parts (calls_up_to f (placed formals a)) (calls_up_to f (placed formals b)) k.1 in
        let pt = placed_walk t k.0 in
        let pa = placed_walk a m.0 in
        let pb = placed_walk b m.1 in
        λ i. then (pt i) (λ r. elim (is_nil r.value) [ true ↦ then (pb i) (ended r.seen r.made) | false ↦ then (pa i) (ended r.seen r.made) ])
    placed_walk (Prim p ts) h = ap (λ o. then o (λ rs. gathered (prim_value p rs.values) rs)) (placed_walks ts h)
    placed_walk (Call g ts) h =
        let k = and_parts (leb g f) (all_call_up_to f (all_placed formals ts)) h in
        let ps = placed_walks ts k.1 in
        let l = leb-true g f k.0 in
        λ i. then (ps i) (λ rs. alike g rs l i)
    placed_walk (Let vs ts b) h = absurd cc

    placed_walks : (ts : Exps) → all_call_up_to f (all_placed formals ts) ≡ true → walks_by c ts env ≡ walks_by d (all_placed formals ts) env'
    placed_walks Last h = refl
    placed_walks (More t ts) h =
        let k = and_parts (calls_up_to f (placed formals t)) (all_call_up_to f (all_placed formals ts)) h in
        let pt = placed_walk t k.0 in
        let ps = placed_walks ts k.1 in
        λ i. then (pt i) (λ r. then (ps i) (joined r))

-- ---- the formals by their names, and by their places
look_place : (formals : List ℕ) (a j n u : ℕ) (xs : List Object) → n ≡ length formals → j ≡ a + position_or_len (eqb u) formals → look (extended formals xs []) u ≡ look (extended (range_with_len a n) xs []) j
look_place [] a j zero u xs l e = refl
look_place [] a j (suc n) u xs l e = absurd (omega arith)
look_place (v ∷ vs) a j zero u xs l e = absurd (omega arith)
look_place (v ∷ vs) a j (suc n) u [] l e = grind (arith, look_place vs (a + 1) j n u [])
look_place (v ∷ vs) a j (suc n) u (x ∷ xs) l e = grind (arith, look_place vs (a + 1) j n u xs)

-- ---- the law
at_ground : (o : Option Ground) (d : Definition) (g : Ground) → o ≡ Some g → IfSome o (λ g. (length d.formals ≡ g.arity) × (placed d.formals d.body ≡ g.body)) → (length d.formals ≡ g.arity) × (placed d.formals d.body ≡ g.body)
at_ground None d g e h = none_some g e
at_ground (Some k) d g e h = subst (λ (g : Ground). (length d.formals ≡ g.arity) × (placed d.formals d.body ≡ g.body)) (some_same k g e) h

pub there_is : {A : Type 0} (xs : List A) (i : ℕ) → i < length xs → (x : A) × (slice_get xs i ≡ Some x)
there_is [] i h = absurd (omega (arith, h))
there_is (x ∷ xs) zero h = (x, refl)
there_is (x ∷ xs) (suc i) h = there_is xs i (omega (arith, h))

module _ (ds : List Definition) (known : AreGround ds) (c d : ℕ → Walks → Option Walk) (f : ℕ) (alike : (g : ℕ) (rs : Walks) → g ≤ f → c g rs ≡ d g rs) where
  pub body_as_ground : f < length ds → f < length ground → (xs : List Object) → body_by c ds f xs ≡ body_by d ground_definitions f xs
  body_as_ground h h' xs =
      let k = there_is ds f h in
      let m = there_is ground f h' in
      let q = at_ground (slice_get ground f) k.0 m.0 m.1 (known f k.0 k.1) in
      let ours = ap (λ o. then o (λ e. walk_by c e.body (extended e.formals xs []))) k.1 in
      let theirs = ap (λ o. then o (λ e. walk_by d e.body (extended e.formals xs []))) (slice_get-map ground_definition ground f ∙ ap (option_map ground_definition) m.1) in
      let up_to = ap (calls_up_to f) q.1 ∙ up_to_at 0 ground f f m.0 (omega arith) ground_up_to m.1 in
      ours ∙ (placed_walk c d f alike k.0.formals (extended k.0.formals xs []) (extended (range_with_len 0 m.0.arity) xs []) (λ u. look_place k.0.formals 0 _ m.0.arity u xs (sym q.0) (omega arith)) k.0.body up_to
      ∙ (ap (λ t. walk_by d t (extended (range_with_len 0 m.0.arity) xs [])) q.1 ∙ sym theirs))

pub opens_as_ground : (ds : List Definition) → AreGround ds → (n f : ℕ) (rs : Walks) → f < length ds → f < length ground → opened ds n f rs ≡ opened ground_definitions n f rs
opens_as_ground ds known zero f rs h h' = refl
opens_as_ground ds known (suc n) f rs h h' =
    ap (λ o. then o (ended rs.seen (rs.made ++ (f, rs.values) ∷ [])))
    (body_as_ground ds known (opened ds n) (opened ground_definitions n) f (λ g qs l. opens_as_ground ds known n g qs (omega (arith, l, h)) (omega (arith, l, h'))) h h' rs.values)

pub walks_as_ground : (ds : List Definition) (f : ℕ) → IsGroundIn ds f → (n : ℕ) (xs : List Object) → body_walk ds n f xs ≡ body_walk ground_definitions n f xs
walks_as_ground ds f k n xs =
    body_as_ground ds k.same_ground (opened ds n) (opened ground_definitions n) f (λ g qs l. opens_as_ground ds k.same_ground n g qs (omega (arith, l, k.there)) (omega (arith, l, k.is_ground))) k.there k.is_ground xs

pub walks_of_constants : (c d : ℕ → Walks → Option Walk) (env env' : List (ℕ × Object)) (xs : List Object) → walks_by c (constant_terms xs) env ≡ walks_by d (constant_terms xs) env'
walks_of_constants c d env env' [] = refl
walks_of_constants c d env env' (x ∷ xs) = ap (λ o. then o (joined (record { value = x; seen = x ∷ []; made = [] }))) (walks_of_constants c d env env' xs)

pub constant_call_as_ground : (ds : List Definition) (f : ℕ) → IsGroundIn ds f → (n : ℕ) (env : List (ℕ × Object)) (xs : List Object) → walk ds n env (constant_call f xs) ≡ walk ground_definitions n [] (constant_call f xs)
constant_call_as_ground ds f k n env xs =
    λ i. then (walks_of_constants (opened ds n) (opened ground_definitions n) env [] xs i) (λ rs. opens_as_ground ds k.same_ground n f rs k.there k.is_ground i)
