-- Terms whose variables are places among formals.
use Rattle.std.specs.Prelude.{ℕ, List, get_or}
use Rattle.gl_logic.specs.Exp.{Exp, Exps, Var, Const, If, Prim, Call, Let, Last, More}

-- each place as the formal there
abbrev mutual
  pub named : List ℕ → Exp → Exp
  named formals (Var i) = Var (get_or formals i 0)
  named formals (Const x) = Const x
  named formals (If t a b) = If (named formals t) (named formals a) (named formals b)
  named formals (Prim p ts) = Prim p (all_named formals ts)
  named formals (Call f ts) = Call f (all_named formals ts)
  named formals (Let vs ts b) = Let vs (all_named formals ts) (named formals b)

  pub all_named : List ℕ → Exps → Exps
  all_named formals Last = Last
  all_named formals (More t ts) = More (named formals t) (all_named formals ts)
