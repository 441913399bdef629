-- The test of equality decides it.
use Rattle.std.proofs.Common.{◌≡◌, ◌∙◌, ap, sym, refl, true}
use Rattle.std.specs.Bool.{Decides}
use Rattle.std.proofs.lemmas.Bool.{and_parts, and_from, eqb-true, eq-eqb}
use Rattle.std.proofs.lemmas.Bool.Decides.{Decides-int_eq}
use Rattle.gl_logic.specs.Object.{Object, Int, Character, Symbol, Text, Cons}
use Rattle.gl_logic.specs.ObjectEq.{object_eq}

pub equal_from : (x y : Object) → object_eq x y ≡ true → x ≡ y
equal_from (Int a) (Int b) h = ap Int ((Decides-int_eq a b).0 h)
equal_from (Character a) (Character b) h = ap Character (eqb-true a b h)
equal_from (Symbol a) (Symbol b) h = ap Symbol (eqb-true a b h)
equal_from (Text a) (Text b) h = ap Text (eqb-true a b h)
equal_from (Cons a d) (Cons b e) h = let p = and_parts (object_eq a b) (object_eq d e) h in λ i. Cons (equal_from a b p.0 i) (equal_from d e p.1 i)
equal_from _ _ h = absurd cc

pub equal_itself : (x : Object) → object_eq x x ≡ true
equal_itself (Int a) = (Decides-int_eq a a).1 refl
equal_itself (Character a) = eq-eqb a a refl
equal_itself (Symbol a) = eq-eqb a a refl
equal_itself (Text a) = eq-eqb a a refl
equal_itself (Cons a d) = and_from (object_eq a a) (object_eq d d) (equal_itself a) (equal_itself d)

pub equal_decides : (x y : Object) → Decides (object_eq x y) (x ≡ y)
equal_decides x y = (equal_from x y, λ e. ap (object_eq x) (sym e) ∙ equal_itself x)
