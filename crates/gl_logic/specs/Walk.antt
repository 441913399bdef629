-- The plain evaluation of a term: its value, the values of the subterms that are visited, and the calls.
use Rattle.std.specs.Prelude.{ℕ, zero, suc, true, false, List, [], ◌∷◌, ◌++◌, Option, Some, None, slice_get}
use Rattle.gl_logic.specs.Object.{Object}
use Rattle.gl_logic.specs.ObjectEq.{is_nil}
use Rattle.gl_logic.specs.PrimValue.{prim_value}
use Rattle.gl_logic.specs.Environment.{look, extended}
use Rattle.gl_logic.specs.Definition.{Definition}
use Rattle.gl_logic.specs.Exp.{Exp, Exps, Var, Const, If, Prim, Call, Let, Last, More}

-- a definition's number, and the values of its arguments
abbrev pub CallMade : Type 0
CallMade = ℕ × List Object

-- of one term: each visit leaves its value in `seen`, and each call of a definition itself in `made`
pub record Walk : Type 0 where
  pub value : Object
  pub seen : List Object
  pub made : List CallMade

-- of terms one after the other
pub record Walks : Type 0 where
  pub values : List Object
  pub seen : List Object
  pub made : List CallMade

abbrev pub then : {A B : Type 0} → Option A → (A → Option B) → Option B
then None f = None
then (Some a) f = f a

-- a visit that has this value, and no parts
abbrev pub visited : Object → Option Walk
visited x = Some (record { value = x; seen = x ∷ []; made = [] })

-- a visit whose value is its last part's, behind what came before that part
abbrev pub ended : List Object → List CallMade → Walk → Option Walk
ended seen made r = Some (record { value = r.value; seen = seen ++ r.seen ++ r.value ∷ []; made = made ++ r.made })

-- a visit with this value, behind its parts
abbrev pub gathered : Object → Walks → Option Walk
gathered x rs = Some (record { value = x; seen = rs.seen ++ x ∷ []; made = rs.made })

abbrev pub joined : Walk → Walks → Option Walks
joined r rs = Some (record { values = r.value ∷ rs.values; seen = r.seen ++ rs.seen; made = r.made ++ rs.made })

-- `call` says what a call of a definition gives, from its arguments' walks
abbrev mutual
  pub walk_by : (ℕ → Walks → Option Walk) → Exp → List (ℕ × Object) → Option Walk
  walk_by call (Var v) env = visited (look env v)
  walk_by call (Const x) env = visited x
  walk_by call (If t a b) env = then (walk_by call t env) (λ r. elim (is_nil r.value) [
    | true ↦ then (walk_by call b env) (ended r.seen r.made)
    | false ↦ then (walk_by call a env) (ended r.seen r.made)
  ])
  walk_by call (Prim p ts) env = then (walks_by call ts env) (λ rs. gathered (prim_value p rs.values) rs)
  walk_by call (Call f ts) env = then (walks_by call ts env) (call f)
  walk_by call (Let vs ts b) env = then (walks_by call ts env) (λ rs. then (walk_by call b (extended vs rs.values env)) (ended rs.seen rs.made))

  pub walks_by : (ℕ → Walks → Option Walk) → Exps → List (ℕ × Object) → Option Walks
  walks_by call Last env = Some (record { values = []; seen = []; made = [] })
  walks_by call (More t ts) env = then (walk_by call t env) (λ r. then (walks_by call ts env) (joined r))

-- the walk of the body of definition f on these arguments
abbrev pub body_by : (ℕ → Walks → Option Walk) → List Definition → ℕ → List Object → Option Walk
body_by call definitions f args = then (slice_get definitions f) (λ d. walk_by call d.body (extended d.formals args []))

-- what a call of definition f gives where at most n definitions more may be opened inside one another
abbrev pub opened : List Definition → ℕ → ℕ → Walks → Option Walk
opened definitions zero f rs = None
opened definitions (suc n) f rs = then (body_by (opened definitions n) definitions f rs.values) (ended rs.seen (rs.made ++ (f, rs.values) ∷ []))

-- a call's own walk: that of the body that it opens, with at most n definitions opened inside one another there
abbrev pub body_walk : List Definition → ℕ → ℕ → List Object → Option Walk
body_walk definitions n f args = body_by (opened definitions n) definitions f args

-- the walk of a term with at most n definitions opened inside one another, or none
abbrev pub walk : List Definition → ℕ → List (ℕ × Object) → Exp → Option Walk
walk definitions n env t = walk_by (opened definitions n) t env
