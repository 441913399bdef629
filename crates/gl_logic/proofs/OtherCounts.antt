-- Without memoized functions the costs are one; different things are no more than all.
use Rattle.std.proofs.Common.{◌≡◌, ◌∙◌, refl, ℕ, zero, suc, ◌+◌, ◌≤◌, List, [], ◌∷◌, Bool, true, false, cond, arith, length, ◌++◌}
use Rattle.std.specs.List.{filter, list_any}
use Rattle.std.specs.Prelude.{sum_by}
use Rattle.gl_logic.specs.Object.{Object}
use Rattle.gl_logic.specs.Definition.{Definition}
use Rattle.gl_logic.specs.Different.{different}
use Rattle.gl_logic.specs.Exp.{Exp}
use Rattle.gl_logic.specs.Walk.{CallMade, then, ended, walk_by, body_by, opened, walk}
use Rattle.gl_logic.specs.Counts.{seen_in, made_in, cost, is_among, own_opened, own_cost_of_call, call_eq, memoized_cost}

own_none : (ds : List Definition) (n : ℕ) → own_opened ds [] n ≡ opened ds n
own_none ds zero = refl
own_none ds (suc n) = λ i f rs. then (body_by (own_none ds n i) ds f rs.values) (ended rs.seen (rs.made ++ (f, rs.values) ∷ []))

none_among : (cs : List CallMade) → filter (λ c. is_among [] c.0) cs ≡ []
none_among [] = refl
none_among (c ∷ cs) = none_among cs

pub memoized_none : (ds : List Definition) (n : ℕ) (env : List (ℕ × Object)) (t : Exp) → memoized_cost ds [] n env t ≡ cost ds n env t
memoized_none ds n env t =
    (λ i. length (seen_in (walk_by (own_none ds n i) t env)) + sum_by (own_cost_of_call ds [] n) (different call_eq (none_among (made_in (walk ds n env t)) i))) ∙ omega arith

added_length : {A : Type 0} (b : Bool) (x : A) (xs : List A) → length (cond b xs (x ∷ xs)) ≤ suc (length xs)
added_length true x xs = omega arith
added_length false x xs = omega arith

pub different_length : {A : Type 0} (same : A → A → Bool) (xs : List A) → length (different same xs) ≤ length xs
different_length same [] = omega arith
different_length same (x ∷ xs) = omega (arith, different_length same xs, added_length (list_any (same x) (different same xs)) x (different same xs))
