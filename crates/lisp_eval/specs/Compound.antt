-- Terms with parts.
use Rattle.gl_logic.specs.Exp.{Exp, Var, Const}

-- neither a variable nor a constant
abbrev pub IsCompound : Exp → Type 0
IsCompound (Var v) = ⊥
IsCompound (Const x) = ⊥
IsCompound _ = Unit {0}
