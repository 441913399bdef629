-- Calls on constants.
use Rattle.std.specs.Prelude.{ℕ, List, [], ◌∷◌}
use Rattle.gl_logic.specs.Object.{Object}
use Rattle.gl_logic.specs.Exp.{Exp, Exps, Const, Call, Last, More}

abbrev pub constant_terms : List Object → Exps
constant_terms [] = Last
constant_terms (x ∷ xs) = More (Const x) (constant_terms xs)

-- the call of definition f on these objects
abbrev pub constant_call : ℕ → List Object → Exp
constant_call f args = Call f (constant_terms args)
