-- The arguments of a primitive.
use Rattle.std.proofs.Common.{◌≡◌, ℕ, zero, suc, ◌+◌, ◌-◌, ◌<◌, ◌≤◌, Bool, true, false, List, [], ◌∷◌, length, map, get_or, refl, sym, ◌∙◌, ap, arith}
use Rattle.gl_logic.specs.Object.{Object, nil}
use Rattle.gl_logic.specs.PrimValue.{prim_of, prim_arity, prim_value}
use Rattle.gl_logic.specs.declared.prim.Primitive.{Primitive}
use Rattle.gl_logic.specs.declared.prim.Primitive.TheVariants as prim
use Rattle.sym_objects.specs.declared.sob.Sob.{Sob}
use Rattle.sym_prims.specs.Seeing.{takes_two}
use Rattle.sym_prims.proofs.Pairing.{second_unused}

pub record Arity (p : Primitive) : Type 0 where
  pub some : 1 ≤ prim_arity p
  pub few : prim_arity p ≤ 2
  pub one : prim_arity p ≡ 1 → takes_two p ≡ false

pub arity_of : (p : Primitive) → Arity p
arity_of prim.Consp = record { some = omega arith; few = omega arith; one = λ h. refl }
arity_of prim.Integerp = record { some = omega arith; few = omega arith; one = λ h. refl }
arity_of prim.Symbolp = record { some = omega arith; few = omega arith; one = λ h. refl }
arity_of prim.Stringp = record { some = omega arith; few = omega arith; one = λ h. refl }
arity_of prim.Characterp = record { some = omega arith; few = omega arith; one = λ h. refl }
arity_of prim.Car = record { some = omega arith; few = omega arith; one = λ h. refl }
arity_of prim.Cdr = record { some = omega arith; few = omega arith; one = λ h. refl }
arity_of prim.Not = record { some = omega arith; few = omega arith; one = λ h. refl }
arity_of prim.CharCode = record { some = omega arith; few = omega arith; one = λ h. refl }
arity_of prim.CodeChar = record { some = omega arith; few = omega arith; one = λ h. refl }
arity_of prim.UnaryMinus = record { some = omega arith; few = omega arith; one = λ h. refl }
arity_of prim.Lognot = record { some = omega arith; few = omega arith; one = λ h. refl }
arity_of prim.IntegerLength = record { some = omega arith; few = omega arith; one = λ h. refl }
arity_of prim.Cons = record { some = omega arith; few = omega arith; one = λ h. absurd (omega (arith, h)) }
arity_of prim.Equal = record { some = omega arith; few = omega arith; one = λ h. absurd (omega (arith, h)) }
arity_of prim.BinaryPlus = record { some = omega arith; few = omega arith; one = λ h. absurd (omega (arith, h)) }
arity_of prim.BinaryTimes = record { some = omega arith; few = omega arith; one = λ h. absurd (omega (arith, h)) }
arity_of prim.Less = record { some = omega arith; few = omega arith; one = λ h. absurd (omega (arith, h)) }
arity_of prim.Floor = record { some = omega arith; few = omega arith; one = λ h. absurd (omega (arith, h)) }
arity_of prim.Mod = record { some = omega arith; few = omega arith; one = λ h. absurd (omega (arith, h)) }
arity_of prim.Truncate = record { some = omega arith; few = omega arith; one = λ h. absurd (omega (arith, h)) }
arity_of prim.Rem = record { some = omega arith; few = omega arith; one = λ h. absurd (omega (arith, h)) }
arity_of prim.Ash = record { some = omega arith; few = omega arith; one = λ h. absurd (omega (arith, h)) }
arity_of prim.BinaryLogand = record { some = omega arith; few = omega arith; one = λ h. absurd (omega (arith, h)) }
arity_of prim.BinaryLogior = record { some = omega arith; few = omega arith; one = λ h. absurd (omega (arith, h)) }
arity_of prim.BinaryLogxor = record { some = omega arith; few = omega arith; one = λ h. absurd (omega (arith, h)) }
arity_of prim.Logbitp = record { some = omega arith; few = omega arith; one = λ h. absurd (omega (arith, h)) }
arity_of prim.UnsignedByteP = record { some = omega arith; few = omega arith; one = λ h. absurd (omega (arith, h)) }
arity_of prim.SignedByteP = record { some = omega arith; few = omega arith; one = λ h. absurd (omega (arith, h)) }

pub arguments_value : (p : Primitive) (of : Sob → Object) (xs : List Sob) (d : Sob) → length xs ≡ prim_arity p → prim_of p (of (get_or xs 0 d)) (of (get_or xs (length xs - 1) d)) ≡ prim_value p (map of xs)
arguments_value p of [] d l = let a = (arity_of p).some in absurd (omega (arith, l, a))
arguments_value p of (u ∷ []) d l = second_unused p (of u) (of u) nil ((arity_of p).one (sym l))
arguments_value p of (u ∷ v ∷ []) d l = refl
arguments_value p of (u ∷ v ∷ w ∷ xs) d l = let a = (arity_of p).few in absurd (omega (arith, l, a))

pub arity_some : (p : Primitive) → 1 ≤ prim_arity p
arity_some p = (arity_of p).some
