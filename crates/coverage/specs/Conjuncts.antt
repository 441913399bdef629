-- What a term says, part by part.
use Rattle.std.specs.Prelude.{Bool, false, if◌then◌else◌, List, [], ◌∷◌, ◌++◌}
use Rattle.gl_logic.specs.ObjectEq.{is_nil}
use Rattle.gl_logic.specs.Exp.{Exp, Const, If, Prim}

abbrev pub is_nil_term : Exp → Bool
is_nil_term (Const x) = is_nil x
is_nil_term _ = false

-- the conjuncts of (if a b nil) are those of a and those of b, and any other term is its own conjunct
abbrev pub conjuncts : Exp → List Exp
conjuncts (If a b c) = if is_nil_term c then conjuncts a ++ conjuncts b else If a b c ∷ []
conjuncts t = t ∷ []
