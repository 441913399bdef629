-- Shapes, as the language has them, and how a ghost value keeps one.
use Rattle.std.specs.Prelude.{◌≡◌, ℕ, zero, suc, refl, List}
use Rattle.std.specs.Coded.{Coded}
use Rattle.std.proofs.Common.{sym, ◌∙◌, ap}
use base.Stored.{Gv, gnum, gcons}
use Rattle.gl_logic.specs.Object.{Object, nil, code_object, decode, decode_code, number}
use Rattle.gl_logic.specs.ExpCode.{code_numbers, numbers_from, numbers-code}

-- the numbers are indices
pub data ShapeSeen : Type 0 where
  -- T where the index is true, else NIL
  Boolean : ℕ → ShapeSeen
  -- the integer in two's complement, the lowest bit first and the sign last
  Integer : List ℕ → ShapeSeen
  -- the first shape's object where the index is true, else the second's
  Choice : ℕ → ShapeSeen → ShapeSeen → ShapeSeen
  Constant : Object → ShapeSeen
  Pair : ShapeSeen → ShapeSeen → ShapeSeen

-- ---- the code
abbrev pub code_shape : ShapeSeen → Gv
code_shape (Boolean i) = gcons (gnum 0) (gnum i)
code_shape (Integer is) = gcons (gnum 1) (code_numbers is)
code_shape (Choice i x y) = gcons (gnum 2) (gcons (gnum i) (gcons (code_shape x) (code_shape y)))
code_shape (Constant x) = gcons (gnum 3) (code_object x)
code_shape (Pair x y) = gcons (gnum 4) (gcons (code_shape x) (code_shape y))

abbrev pub shape_from : Gv → ShapeSeen
shape_from (gcons (gnum zero) g) = Boolean (number g)
shape_from (gcons (gnum (suc zero)) g) = Integer (numbers_from g)
shape_from (gcons (gnum (suc (suc zero))) (gcons i (gcons x y))) = Choice (number i) (shape_from x) (shape_from y)
shape_from (gcons (gnum (suc (suc (suc zero)))) g) = Constant (decode g)
shape_from (gcons (gnum (suc (suc (suc (suc zero))))) (gcons x y)) = Pair (shape_from x) (shape_from y)
shape_from _ = Constant nil

pub shape-code : (s : ShapeSeen) → shape_from (code_shape s) ≡ s
shape-code (Boolean i) = refl
shape-code (Integer is) = ap Integer (numbers-code is)
shape-code (Choice i x y) = λ k. Choice i (shape-code x k) (shape-code y k)
shape-code (Constant x) = ap Constant (decode_code x)
shape-code (Pair x y) = λ k. Pair (shape-code x k) (shape-code y k)

abbrev pub coded_shape : Coded ShapeSeen
coded_shape = record { code = code_shape; inj = λ x y p. sym (shape-code x) ∙ (ap shape_from p ∙ shape-code y) }
