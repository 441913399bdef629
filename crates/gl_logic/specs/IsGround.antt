-- Whether a definition is the ground definition of its number, but for its name and the names of its formals.
use Rattle.std.specs.Prelude.{◌≡◌, ℕ, eqb, List, length, Some, slice_get, IfSome}
use Rattle.std.specs.List.{position_or_len}
use Rattle.gl_logic.specs.Definition.{Definition}
use Rattle.gl_logic.specs.Ground.{ground}
use Rattle.gl_logic.specs.Exp.{Exp, Exps, Var, Const, If, Prim, Call, Let, Last, More}

-- each variable as its place among the formals. No ground definition has a `let`, so what one binds needs no care
abbrev mutual
  pub placed : List ℕ → Exp → Exp
  placed formals (Var v) = Var (position_or_len (eqb v) formals)
  placed formals (Const x) = Const x
  placed formals (If t a b) = If (placed formals t) (placed formals a) (placed formals b)
  placed formals (Prim p ts) = Prim p (all_placed formals ts)
  placed formals (Call f ts) = Call f (all_placed formals ts)
  placed formals (Let vs ts b) = Let vs (all_placed formals ts) (placed formals b)

  pub all_placed : List ℕ → Exps → Exps
  all_placed formals Last = Last
  all_placed formals (More t ts) = More (placed formals t) (all_placed formals ts)

-- where there is a ground definition i
abbrev pub IsGround : ℕ → Definition → Type 0
IsGround i d = IfSome (slice_get ground i) (λ g. (length d.formals ≡ g.arity) × (placed d.formals d.body ≡ g.body))

-- in each world
abbrev pub AreGround : List Definition → Type 0
AreGround definitions = (i : ℕ) (d : Definition) → slice_get definitions i ≡ Some d → IsGround i d
