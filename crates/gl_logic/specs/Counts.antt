-- What the plain evaluation of a term costs. Each count takes a depth that gives a value; where it gives none, nothing is counted.
use Rattle.std.specs.Prelude.{ℕ, zero, suc, ◌+◌, Bool, true, false, ◌&&◌, eqb, List, [], ◌∷◌, ◌++◌, length, sum_by, Option, Some, None}
use Rattle.std.specs.List.{filter, list_any}
use Rattle.gl_logic.specs.Object.{Object}
use Rattle.gl_logic.specs.ObjectEq.{object_eq}
use Rattle.gl_logic.specs.Definition.{Definition}
use Rattle.gl_logic.specs.Exp.{Exp}
use Rattle.gl_logic.specs.Different.{different}
use Rattle.gl_logic.specs.Walk.{Walk, Walks, CallMade, then, ended, gathered, walk_by, body_by, opened, walk}

abbrev pub seen_in : Option Walk → List Object
seen_in None = []
seen_in (Some r) = r.seen

abbrev pub made_in : Option Walk → List CallMade
made_in None = []
made_in (Some r) = r.made

-- the values of the visited subterms
abbrev pub seen : List Definition → ℕ → List (ℕ × Object) → Exp → List Object
seen definitions n env t = seen_in (walk definitions n env t)

-- how many subterms are visited, each visit counted
abbrev pub cost : List Definition → ℕ → List (ℕ × Object) → Exp → ℕ
cost definitions n env t = length (seen definitions n env t)

abbrev pub is_among : List ℕ → ℕ → Bool
is_among functions f = list_any (eqb f) functions

-- the calls of some functions that are made, each with its argument values
abbrev pub calls : List Definition → List ℕ → ℕ → List (ℕ × Object) → Exp → List CallMade
calls definitions functions n env t = filter (λ c. is_among functions c.0) (made_in (walk definitions n env t))

-- ---- where a call of some functions is counted with its arguments, and is not opened
abbrev pub own_opened : List Definition → List ℕ → ℕ → ℕ → Walks → Option Walk
own_opened definitions functions zero f rs = None
own_opened definitions functions (suc n) f rs = elim (is_among functions f) [
  | true ↦ then (opened definitions (suc n) f rs) (λ r. gathered r.value rs)
  | false ↦ then (body_by (own_opened definitions functions n) definitions f rs.values) (ended rs.seen (rs.made ++ (f, rs.values) ∷ []))
]

-- how many subterms are visited so
abbrev pub own_cost : List Definition → List ℕ → ℕ → List (ℕ × Object) → Exp → ℕ
own_cost definitions functions n env t = length (seen_in (walk_by (own_opened definitions functions n) t env))

-- the same of the body that a call opens
abbrev pub own_cost_of_call : List Definition → List ℕ → ℕ → CallMade → ℕ
own_cost_of_call definitions functions n c = length (seen_in (body_by (own_opened definitions functions n) definitions c.0 c.1))

-- ---- each different call of some functions is opened once
abbrev pub objects_eq : List Object → List Object → Bool
objects_eq [] [] = true
objects_eq (x ∷ xs) (y ∷ ys) = object_eq x y && objects_eq xs ys
objects_eq _ _ = false

abbrev pub call_eq : CallMade → CallMade → Bool
call_eq c d = eqb c.0 d.0 && objects_eq c.1 d.1

abbrev pub memoized_cost : List Definition → List ℕ → ℕ → List (ℕ × Object) → Exp → ℕ
memoized_cost definitions functions n env t =
    own_cost definitions functions n env t + sum_by (own_cost_of_call definitions functions n) (different call_eq (calls definitions functions n env t))
