-- Whether a term calls some definition.
use Rattle.std.specs.Prelude.{ℕ, ◌-◌, Bool, false, ◌||◌, ◌&&◌, leb, ltb}
use Rattle.gl_logic.specs.Exp.{Exp, Exps, Var, Const, If, Prim, Call, Let, Last, More}

-- one of `count` numbers from `first` on
abbrev pub is_between : ℕ → ℕ → ℕ → Bool
is_between first count f = leb first f && ltb (f - first) count

abbrev mutual
  pub has_call : (ℕ → Bool) → Exp → Bool
  has_call is_one (Var v) = false
  has_call is_one (Const x) = false
  has_call is_one (If t a b) = has_call is_one t || (has_call is_one a || has_call is_one b)
  has_call is_one (Prim p ts) = have_call is_one ts
  has_call is_one (Call f ts) = is_one f || have_call is_one ts
  has_call is_one (Let vs ts b) = have_call is_one ts || has_call is_one b

  pub have_call : (ℕ → Bool) → Exps → Bool
  have_call is_one Last = false
  have_call is_one (More t ts) = has_call is_one t || have_call is_one ts
