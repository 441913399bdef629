-- Walks of constants, and of variables that stand for them.
use Rattle.std.proofs.Common.{◌≡◌, ◌∙◌, ap, refl, ℕ, zero, suc, ◌+◌, ◌<◌, arith, List, [], ◌∷◌, ◌++◌, length, Option, Some}
use Rattle.std.specs.Prelude.{slice_get}
use Rattle.gl_logic.specs.Object.{Object}
use Rattle.gl_logic.specs.Environment.{look}
use Rattle.gl_logic.specs.ConstantCall.{constant_terms}
use Rattle.gl_logic.specs.Walk.{Walk, Walks, joined, then, walks_by}
use Rattle.gl_interp.specs.Placed.{numbered_from, variables_from}

pub constants_walk : (call : ℕ → Walks → Option Walk) (xs : List Object) (env : List (ℕ × Object)) → walks_by call (constant_terms xs) env ≡ Some (record { values = xs; seen = xs; made = [] })
constants_walk call [] env = refl
constants_walk call (x ∷ xs) env = ap (λ o. then o (joined (record { value = x; seen = x ∷ []; made = [] }))) (constants_walk call xs env)

-- a variable below the first that is numbered is not there
numbered_other : (i v : ℕ) (xs : List Object) (env : List (ℕ × Object)) → v < i → look (numbered_from i xs ++ env) v ≡ look env v
numbered_other i v [] env h = refl
numbered_other i v (x ∷ xs) env h = grind (arith, numbered_other (suc i) v xs env (omega (arith, h)), h)

-- the variables in an environment that gives each its object
pub variables_walk : (call : ℕ → Walks → Option Walk) (i : ℕ) (xs : List Object) (env : List (ℕ × Object)) → ((j : ℕ) (x : Object) → slice_get xs j ≡ Some x → look env (i + j) ≡ x)
    → walks_by call (variables_from i (length xs)) env ≡ Some (record { values = xs; seen = xs; made = [] })
variables_walk call i [] env h = refl
variables_walk call i (x ∷ xs) env h =
    let first : look env i ≡ x = ap (look env) (omega arith) ∙ h 0 x refl in
    (λ k. then (Some (record { value = first k; seen = first k ∷ []; made = [] })) (λ r. then (walks_by call (variables_from (suc i) (length xs)) env) (joined r)))
    ∙ ap (λ o. then o (joined (record { value = x; seen = x ∷ []; made = [] }))) (variables_walk call (suc i) xs env (λ j y e. ap (look env) (omega arith) ∙ h (suc j) y e))

look_here : (i : ℕ) (x : Object) (env : List (ℕ × Object)) → look ((i, x) ∷ env) i ≡ x
look_here i x env = grind arith

look_there : (i v : ℕ) (x : Object) (env : List (ℕ × Object)) → i < v → look ((i, x) ∷ env) v ≡ look env v
look_there i v x env h = grind (arith, h)

pub numbered_look : (i : ℕ) (xs : List Object) (j : ℕ) (x : Object) → slice_get xs j ≡ Some x → look (numbered_from i xs) (i + j) ≡ x
numbered_look i [] j x e = absurd cc
numbered_look i (y ∷ xs) zero x e = let same : y ≡ x = cc in ap (look (numbered_from i (y ∷ xs))) (omega arith) ∙ (look_here i y (numbered_from (suc i) xs) ∙ same)
numbered_look i (y ∷ xs) (suc j) x e = ap (look (numbered_from i (y ∷ xs))) (omega arith) ∙ (look_there i (suc i + j) y (numbered_from (suc i) xs) (omega arith) ∙ numbered_look (suc i) xs j x e)
