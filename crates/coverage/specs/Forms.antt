-- Terms by their form, as tests.
use Rattle.std.specs.Prelude.{ℕ, Bool, false, ◌&&◌, ◌||◌, eqb, ℤ}
use Rattle.gl_logic.specs.Object.{Object, Int}
use Rattle.gl_logic.specs.Exp.{Exp, Exps, Const, Prim, Call, Last, More}
use Rattle.gl_logic.specs.PrimCode.{prim_number}
use Rattle.gl_logic.specs.declared.prim.Primitive.{Primitive}

-- ---- literals
-- an integer that passes a test
abbrev pub is_int : (ℤ → Bool) → Object → Bool
is_int test (Int z) = test z
is_int test _ = false

-- a literal that passes a test
abbrev pub is_literal : (Object → Bool) → Exp → Bool
is_literal test (Const x) = test x
is_literal test _ = false

-- ---- arguments
-- one, which passes a test
abbrev pub one : (Exp → Bool) → Exps → Bool
one first (More a Last) = first a
one first _ = false

-- two, which pass a test each
abbrev pub two : (Exp → Bool) → (Exp → Bool) → Exps → Bool
two first second (More a (More b Last)) = first a && second b
two first second _ = false

-- the same in either order
abbrev pub either_order : (Exp → Bool) → (Exp → Bool) → Exps → Bool
either_order first second ts = two first second ts || two second first ts

-- ---- calls
-- of a primitive, with arguments that pass a test
abbrev pub is_prim : Primitive → (Exps → Bool) → Exp → Bool
is_prim p test (Prim q ts) = eqb (prim_number q) (prim_number p) && test ts
is_prim p test _ = false

-- of the ground definition of a number: it has this number in every world
abbrev pub is_call : ℕ → (Exps → Bool) → Exp → Bool
is_call f test (Call g ts) = eqb g f && test ts
is_call f test _ = false
