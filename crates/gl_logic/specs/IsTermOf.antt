-- Terms of a list of definitions.
use Rattle.std.specs.Prelude.{◌≡◌, ℕ, ◌+◌, List, length, Option, Some, slice_get}
use Rattle.std.specs.Option.{option_map}
use Rattle.gl_logic.specs.Definition.{Definition}
use Rattle.gl_logic.specs.PrimValue.{prim_arity}
use Rattle.gl_logic.specs.Exp.{Exp, Exps, Var, Const, If, Prim, Call, Let, Last, More}

abbrev pub count_of : Exps → ℕ
count_of Last = 0
count_of (More t ts) = 1 + count_of ts

-- how many formals definition f has, where there is one
abbrev pub arity_in : List Definition → ℕ → Option ℕ
arity_in definitions f = option_map (λ d. length d.formals) (slice_get definitions f)

-- each call is of a definition with its count of arguments, each primitive has its count, and each let has as many names as terms
abbrev mutual
  pub IsTermOf : List Definition → Exp → Type 0
  IsTermOf definitions (Var v) = Unit {0}
  IsTermOf definitions (Const x) = Unit {0}
  IsTermOf definitions (If t a b) = IsTermOf definitions t × IsTermOf definitions a × IsTermOf definitions b
  IsTermOf definitions (Prim p ts) = (prim_arity p ≡ count_of ts) × AreTermsOf definitions ts
  IsTermOf definitions (Call f ts) = (arity_in definitions f ≡ Some (count_of ts)) × AreTermsOf definitions ts
  IsTermOf definitions (Let vs ts b) = (length vs ≡ count_of ts) × AreTermsOf definitions ts × IsTermOf definitions b

  pub AreTermsOf : List Definition → Exps → Type 0
  AreTermsOf definitions Last = Unit {0}
  AreTermsOf definitions (More t ts) = IsTermOf definitions t × AreTermsOf definitions ts
