-- Terms of the logic.
use Rattle.std.specs.Prelude.{ℕ, List}
use Rattle.gl_logic.specs.Object.{Object}
use Rattle.gl_logic.specs.declared.prim.Primitive as primitive

mutual
  pub data Exp : Type 0 where
    -- a variable, by the number of its name
    Var : ℕ → Exp
    Const : Object → Exp
    If : Exp → Exp → Exp → Exp
    Prim : primitive.Primitive → Exps → Exp
    -- a call of a definition, by its number in the world
    Call : ℕ → Exps → Exp
    -- the names, the terms that they are bound to, and the body
    Let : List ℕ → Exps → Exp → Exp

  pub data Exps : Type 0 where
    Last : Exps
    More : Exp → Exps → Exps
