-- When a hypothesis keeps a variable within the objects of its shape: a judgement over its conjuncts, in which nothing is run.
use Rattle.std.specs.Prelude.{ℕ, zero, suc, Bool, false, not, ◌&&◌, ◌||◌, if◌then◌else◌, List, [], ◌∷◌, ◌++◌, length, Option, None, Some, pos}
use Rattle.std.specs.List.{list_any}
use Rattle.std.specs.Ordering.{int_eq}
use Rattle.gl_logic.specs.ObjectEq.{object_eq, is_nil}
use Rattle.gl_logic.specs.Exp.{Exp, If}
use Rattle.gl_logic.specs.RecursiveCalls.{exp_eq}
use Rattle.gl_logic.specs.FreeVariables.{is_free_in}
use Rattle.shape_spec.specs.ShapeSeen.{ShapeSeen, Boolean, Integer, Choice, Constant, Pair}
use Rattle.coverage.specs.Conjuncts.{conjuncts}
use Rattle.coverage.specs.Forms.{is_int}
use Rattle.coverage.specs.Subjects.{is_variable, car_of, cdr_of, len_of, element_of}
use Rattle.coverage.specs.Rows.{is_consp, is_booleanp, is_true_listp, is_number, equals, is_member, is_unsigned_row, is_signed_row, is_lower, is_upper, is_boolean, is_integer_of, is_from, is_to}

-- ---- integers, by one conjunct, or by a kind and two bounds
abbrev pub is_integer_row : ℕ → (Exp → Bool) → Exp → Bool
is_integer_row n subject t = is_unsigned_row n subject t || (is_signed_row n subject t || (equals (is_integer_of n) subject t || is_member (is_integer_of n) subject t))

abbrev pub is_integer_covered : List Exp → (Exp → Bool) → ℕ → Bool
is_integer_covered said subject n =
    list_any (is_integer_row n subject) said
    || (list_any (is_number subject) said && (list_any (is_lower (is_from n) subject) said && list_any (is_upper (is_to n) subject) said))

-- ---- Booleans, by one conjunct
abbrev pub is_boolean_row : (Exp → Bool) → Exp → Bool
is_boolean_row subject t = is_booleanp subject t || (equals is_boolean subject t || is_member is_boolean subject t)

-- ---- lists
-- how many conses stand behind one another
abbrev pub conses_in : ShapeSeen → ℕ
conses_in (Pair a d) = suc (conses_in d)
conses_in s = zero

-- (true-listp s), and equality of (len s) with the literal k
abbrev pub has_length : List Exp → (Exp → Bool) → ℕ → Bool
has_length said subject k = list_any (is_true_listp subject) said && list_any (equals (is_int (int_eq (pos k))) (len_of subject)) said

-- ---- shapes
-- a choice by cases: a conjunct (if p p q), where what is asked holds with p and with q
abbrev pub by_cases : (Exp → Bool) → Exp → Bool
by_cases holds_with (If p r q) = exp_eq p r && (holds_with p && holds_with q)
by_cases holds_with t = false

abbrev mutual
  pub is_covered : List Exp → (Exp → Bool) → ShapeSeen → Bool
  is_covered said subject (Integer is) = is_integer_covered said subject (length is)
  is_covered said subject (Boolean i) = list_any (is_boolean_row subject) said
  is_covered said subject (Constant c) = list_any (equals (object_eq c) subject) said
  -- part by part, or as a list of a stated length
  is_covered said subject (Pair a d) =
      (list_any (is_consp subject) said && (is_covered said (car_of subject) a && is_covered said (cdr_of subject) d))
      || (has_length said subject (suc (conses_in d)) && (is_covered said (element_of 0 subject) a && are_covered said subject 1 d))
  -- by either part, or by cases
  is_covered said subject (Choice i a b) =
      (is_covered said subject a || is_covered said subject b)
      || list_any (by_cases (λ p. is_covered (said ++ conjuncts p) subject a || is_covered (said ++ conjuncts p) subject b)) said

  -- the elements from place i on, up to the NIL that ends them
  pub are_covered : List Exp → (Exp → Bool) → ℕ → ShapeSeen → Bool
  are_covered said subject i (Pair a d) = is_covered said (element_of i subject) a && are_covered said subject (suc i) d
  are_covered said subject i (Constant c) = is_nil c
  are_covered said subject i s = false

-- either part of a choice, with the conjuncts of one more term
abbrev pub is_either_with : List Exp → (Exp → Bool) → ShapeSeen → ShapeSeen → Exp → Bool
is_either_with said subject a b p = is_covered (said ++ conjuncts p) subject a || is_covered (said ++ conjuncts p) subject b

-- ---- theorems
abbrev pub is_free_in_either : Exp → Exp → ℕ → Bool
is_free_in_either hyp concl v = is_free_in hyp v || is_free_in concl v

-- a bound variable that is free in the hypothesis or in the conclusion, and that the conjuncts of the hypothesis don't cover
abbrev pub lacks_cover : Exp → Exp → ℕ → ShapeSeen → Bool
lacks_cover hyp concl v s = is_free_in_either hyp concl v && not (is_covered (conjuncts hyp) (is_variable v) s)

-- the first such variable in the order of the bindings
abbrev pub first_uncovered : Exp → Exp → List (ℕ × ShapeSeen) → Option ℕ
first_uncovered hyp concl [] = None
first_uncovered hyp concl (p ∷ b) = if lacks_cover hyp concl p.0 p.1 then Some p.0 else first_uncovered hyp concl b
