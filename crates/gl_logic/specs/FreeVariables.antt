-- The free variables of a term.
use Rattle.std.specs.Prelude.{◌≡◌, ℕ, Bool, true, false, not, ◌&&◌, ◌||◌, eqb, List}
use Rattle.std.specs.List.{list_any}
use Rattle.gl_logic.specs.Object.{Object}
use Rattle.gl_logic.specs.Environment.{look}
use Rattle.gl_logic.specs.Exp.{Exp, Exps, Var, Const, If, Prim, Call, Let, Last, More}

-- a let binds its names in its body
abbrev mutual
  pub is_free_in : Exp → ℕ → Bool
  is_free_in (Var u) v = eqb u v
  is_free_in (Const x) v = false
  is_free_in (If t a b) v = is_free_in t v || is_free_in a v || is_free_in b v
  is_free_in (Prim p ts) v = is_free_in_some ts v
  is_free_in (Call f ts) v = is_free_in_some ts v
  is_free_in (Let vs ts b) v = is_free_in_some ts v || (not (list_any (λ u. eqb u v) vs) && is_free_in b v)

  pub is_free_in_some : Exps → ℕ → Bool
  is_free_in_some Last v = false
  is_free_in_some (More t ts) v = is_free_in t v || is_free_in_some ts v

-- two environments give a term's free variables the same objects
abbrev pub AgreeOn : (ℕ → Bool) → List (ℕ × Object) → List (ℕ × Object) → Type 0
AgreeOn is_one first second = (v : ℕ) → is_one v ≡ true → look first v ≡ look second v
