-- The objects of the logic, and how a ghost value keeps one.
use Rattle.std.specs.Prelude.{◌≡◌, ℕ, zero, suc, ℤ, pos, negsuc, refl, Bool, cond}
use Rattle.std.specs.Coded.{Coded}
use base.Stored.{Gv, gnil, gnum, gcons}
use Rattle.std.proofs.Common.{sym, ◌∙◌, ap}

-- integers without bound, characters by their code, symbols and strings by the number of their text
pub data Object : Type 0 where
  Int : ℤ → Object
  Character : ℕ → Object
  Symbol : ℕ → Object
  Text : ℕ → Object
  Cons : Object → Object → Object

-- the symbols NIL, which is false, and T
abbrev pub nil : Object
nil = Symbol 0

abbrev pub true_object : Object
true_object = Symbol 1

abbrev pub boolean_object : Bool → Object
boolean_object b = cond b true_object nil

abbrev pub car : Object → Object
car (Cons a d) = a
car _ = nil

abbrev pub cdr : Object → Object
cdr (Cons a d) = d
cdr _ = nil

-- ---- the code
abbrev pub code_z : ℤ → Gv
code_z (pos n) = gcons (gnum 0) (gnum n)
code_z (negsuc n) = gcons (gnum 1) (gnum n)

abbrev pub number : Gv → ℕ
number (gnum n) = n
number _ = 0

abbrev pub decode_z : Gv → ℤ
decode_z (gcons (gnum zero) g) = pos (number g)
decode_z (gcons (gnum (suc n)) g) = negsuc (number g)
decode_z _ = pos 0

decode_code_z : (z : ℤ) → decode_z (code_z z) ≡ z
decode_code_z (pos n) = refl
decode_code_z (negsuc n) = refl

abbrev pub code_object : Object → Gv
code_object (Int z) = gcons (gnum 0) (code_z z)
code_object (Character n) = gcons (gnum 1) (gnum n)
code_object (Symbol n) = gcons (gnum 2) (gnum n)
code_object (Text n) = gcons (gnum 3) (gnum n)
code_object (Cons a d) = gcons (gcons (code_object a) (code_object d)) gnil

abbrev pub leaf : ℕ → Gv → Object
leaf zero g = Int (decode_z g)
leaf (suc zero) g = Character (number g)
leaf (suc (suc zero)) g = Symbol (number g)
leaf _ g = Text (number g)

abbrev pub decode : Gv → Object
decode (gcons (gnum k) g) = leaf k g
decode (gcons (gcons a d) g) = Cons (decode a) (decode d)
decode _ = nil

pub decode_code : (x : Object) → decode (code_object x) ≡ x
decode_code (Int z) = ap Int (decode_code_z z)
decode_code (Character n) = refl
decode_code (Symbol n) = refl
decode_code (Text n) = refl
decode_code (Cons a d) = λ i. Cons (decode_code a i) (decode_code d i)

abbrev pub coded_object : Coded Object
coded_object = record { code = code_object; inj = λ x y p. sym (decode_code x) ∙ (ap decode p ∙ decode_code y) }
