-- What the code's heads, subjects, literals and rows stand for.
use Rattle.std.specs.Prelude.{ℕ, zero, suc, Bool, false, eqb, cond, Option, None, Some, pos, negsuc, ◌+ℤ◌}
use Rattle.std.specs.Ordering.{int_eq}
use Rattle.gl_logic.specs.Object.{Object}
use Rattle.gl_logic.specs.ObjectEq.{object_eq}
use Rattle.gl_logic.specs.Exp.{Exp, Exps, Last, More}
use Rattle.gl_logic.specs.Exp as exp
use Rattle.gl_logic.specs.PrimCode.{prim_number}
use Rattle.gl_logic.specs.declared.prim.Primitive.TheVariants.{Car, Cdr}
use Rattle.coverage.specs.Forms.{is_int, is_literal, is_prim, is_call}
use Rattle.coverage.specs.Subjects.{is_variable, car_of, behind, len_of, element_of}
use Rattle.coverage.specs.Rows.{is_consp, is_true_listp, is_number, equals, is_width_in, are_all, is_lower, is_upper, is_boolean, is_integer_of, is_from, is_to}
use Rattle.coverage.specs.Covered.{is_integer_row, is_boolean_row}
use Rattle.coverage.specs.declared.forms.Head.{Head}
use Rattle.coverage.specs.declared.forms.Head.TheVariants as head
use Rattle.coverage.specs.declared.subject.Subject.{Subject}
use Rattle.coverage.specs.declared.subject.Subject as subject
use Rattle.coverage.specs.declared.literal.Wanted.{Wanted}
use Rattle.coverage.specs.declared.literal.Wanted.TheVariants as wanted
use Rattle.coverage.specs.declared.rows.Row.{Row}
use Rattle.coverage.specs.declared.rows.Row.TheVariants as row

-- ---- heads
abbrev pub is_headed : Head → (Exps → Bool) → Exp → Bool
is_headed (head.Primitive p) = is_prim p
is_headed (head.Ground f) = is_call f

-- the arguments of a call
abbrev pub arguments_of : Head → Exp → Option Exps
arguments_of (head.Primitive p) (exp.Prim q ts) = cond (eqb (prim_number q) (prim_number p)) (Some ts) None
arguments_of (head.Ground f) (exp.Call g ts) = cond (eqb g f) (Some ts) None
arguments_of _ _ = None

-- the one argument, where there is one; both, where there are two
abbrev pub only : Option Exps → Option Exp
only (Some (More a Last)) = Some a
only _ = None

abbrev pub both : Option Exps → Option (Exp × Exp)
both (Some (More a (More b Last))) = Some (a, b)
both _ = None

-- the term under i cdr
abbrev pub under_more : (Exp → Option Exp) → Option Exp → Option Exp
under_more rest (Some t) = rest t
under_more rest None = None

abbrev pub under : ℕ → Exp → Option Exp
under zero t = Some t
under (suc i) t = under_more (under i) (only (arguments_of (head.Primitive Cdr) t))

-- the list whose element i the term is, by car and by nth
abbrev pub list_by_car : ℕ → Exp → Option Exp
list_by_car i t = under_more (under i) (only (arguments_of (head.Primitive Car) t))

abbrev pub list_in : ℕ → Option (Exp × Exp) → Option Exp
list_in i (Some p) = cond (is_literal (is_int (int_eq (pos i))) p.0) (Some p.1) None
list_in i None = None

abbrev pub list_by_nth : ℕ → Exp → Option Exp
list_by_nth i t = list_in i (both (arguments_of (head.Ground 28) t))

-- ---- subjects
-- a term that is there and passes a test
abbrev pub passes : (Exp → Bool) → Option Exp → Bool
passes test (Some t) = test t
passes test None = false

-- how many subjects stand in one another
abbrev pub depth_of : Subject → ℕ
depth_of (subject.Variable v) = 0
depth_of (subject.Behind' i p s) = suc (depth_of s)
depth_of (subject.First' p s) = suc (depth_of s)
depth_of (subject.Element' i p s) = suc (depth_of s)
depth_of (subject.Length' p s) = suc (depth_of s)

abbrev pub subject_of : Subject → Exp → Bool
subject_of (subject.Variable v) = is_variable v.number
subject_of (subject.Behind' i p s) = behind i (subject_of s)
subject_of (subject.First' p s) = car_of (subject_of s)
subject_of (subject.Element' i p s) = element_of i (subject_of s)
subject_of (subject.Length' p s) = len_of (subject_of s)

-- ---- what a literal is to be
abbrev pub wanted_of : Wanted → Object → Bool
wanted_of wanted.Boolean = is_boolean
wanted_of (wanted.Integer n) = is_integer_of n
wanted_of (wanted.Same x) = object_eq x.now
wanted_of (wanted.Number k) = is_int (int_eq (pos k))
wanted_of (wanted.Width least n) = is_width_in least n
wanted_of (wanted.From n) = is_int (is_from n)
wanted_of (wanted.Above n) = is_int (λ k. is_from n (k +ℤ pos 1))
wanted_of (wanted.To n) = is_int (is_to n)
wanted_of (wanted.Below n) = is_int (λ k. is_to n (k +ℤ negsuc 0))
wanted_of wanted.Booleans = are_all is_boolean
wanted_of (wanted.Integers n) = are_all (is_integer_of n)

-- ---- what a conjunct is to be
abbrev pub row_of : Row → (Exp → Bool) → Exp → Bool
row_of row.Consp = is_consp
row_of row.TrueListp = is_true_listp
row_of row.Number = is_number
row_of row.BooleanRow = is_boolean_row
row_of (row.IntegerRow n) = is_integer_row n
row_of (row.Lower n) = is_lower (is_from n)
row_of (row.Upper n) = is_upper (is_to n)
row_of (row.Same x) = equals (object_eq x.now)
row_of (row.Length k) = equals (is_int (int_eq (pos k)))
