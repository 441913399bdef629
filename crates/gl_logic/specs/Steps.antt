-- Which recursive calls are steps of a measure: the table of admission.
use Rattle.std.specs.Prelude.{ℕ, suc, Bool, true, false, not, ◌&&◌, ◌||◌, eqb, leb, cond, List, ◌∷◌, Option, Some, None, pos, negsuc}
use Rattle.std.specs.List.{list_any}
use Rattle.gl_logic.specs.Object.{Int}
use Rattle.gl_logic.specs.PrimCode.{prim_number}
use Rattle.gl_logic.specs.Definition.{MeasureParts, One, Two, measure_parts}
use Rattle.gl_logic.specs.Exp.{Exp, Exps, Var, Const, Prim, Call, Last, More}
use Rattle.gl_logic.specs.RecursiveCalls.{Fact, Governed, exp_eq}
use Rattle.gl_logic.specs.declared.prim.Primitive.{Primitive}
use Rattle.gl_logic.specs.declared.prim.Primitive.TheVariants as prim
use Rattle.gl_logic.specs.declared.def.Natural.{Natural}
use Rattle.gl_logic.specs.declared.def.Natural.TheVariants as natural
use Rattle.gl_logic.specs.declared.def.Measure.{Measure}

-- ---- the terms that facts are about. The numbers are those of ground definitions
abbrev pub on_variable : (Exps → Exp) → ℕ → Exp
on_variable of v = of (More (Var v) Last)

abbrev pub consp_of : ℕ → Exp
consp_of = on_variable (Prim prim.Consp)

abbrev pub atom_of : ℕ → Exp
atom_of = on_variable (Call 0)

abbrev pub endp_of : ℕ → Exp
endp_of = on_variable (Call 1)

abbrev pub integerp_of : ℕ → Exp
integerp_of = on_variable (Prim prim.Integerp)

abbrev pub zp_of : ℕ → Exp
zp_of = on_variable (Call 7)

abbrev pub natp_of : ℕ → Exp
natp_of = on_variable (Call 9)

abbrev pub posp_of : ℕ → Exp
posp_of = on_variable (Call 10)

abbrev pub zero_term : Exp
zero_term = Const (Int (pos 0))

-- (equal v 0), (eql v 0) and (= v 0)
abbrev pub with_zero : (Exps → Exp) → ℕ → Exp
with_zero of v = of (More (Var v) (More zero_term Last))

abbrev pub equal_zero : ℕ → Exp
equal_zero = with_zero (Prim prim.Equal)

abbrev pub eql_zero : ℕ → Exp
eql_zero = with_zero (Call 4)

abbrev pub same_zero : ℕ → Exp
same_zero = with_zero (Call 5)

abbrev pub less_term : Exp → Exp → Exp
less_term a b = Prim prim.Less (More a (More b Last))

-- (- b a)
abbrev pub gap_term : ℕ → ℕ → Exp
gap_term a b = Prim prim.BinaryPlus (More (Var b) (More (Prim prim.UnaryMinus (More (Var a) Last)) Last))

abbrev pub zp_gap : ℕ → ℕ → Exp
zp_gap a b = Call 7 (More (gap_term a b) Last)

-- ---- what facts show
-- whether the fact is that this term is true, or that it is false
abbrev pub is_true : Exp → Fact → Bool
is_true t f = exp_eq t f.0 && f.1

abbrev pub is_false : Exp → Fact → Bool
is_false t f = exp_eq t f.0 && not f.1

-- v is a cons
abbrev pub tells_cons : ℕ → Fact → Bool
tells_cons v f = is_true (consp_of v) f || (is_false (atom_of v) f || is_false (endp_of v) f)

abbrev pub shows_cons : List Fact → ℕ → Bool
shows_cons fs v = list_any (tells_cons v) fs

-- v is a positive integer: one fact tells it, or two do together
abbrev pub tells_positive : ℕ → Fact → Bool
tells_positive v f = is_false (zp_of v) f || is_true (posp_of v) f

abbrev pub tells_nonzero : ℕ → Fact → Bool
tells_nonzero v f = is_false (same_zero v) f || (is_false (eql_zero v) f || is_false (equal_zero v) f)

abbrev pub shows_positive : List Fact → ℕ → Bool
shows_positive fs v = list_any (tells_positive v) fs
    || ((list_any (is_true (integerp_of v)) fs && list_any (is_true (less_term zero_term (Var v))) fs)
    || (list_any (is_true (natp_of v)) fs && list_any (tells_nonzero v) fs))

-- v is an integer
abbrev pub tells_integer : ℕ → Fact → Bool
tells_integer v f = is_true (integerp_of v) f || (is_true (natp_of v) f || is_true (posp_of v) f)

-- b - a is a positive integer
abbrev pub shows_gap : List Fact → ℕ → ℕ → Bool
shows_gap fs a b = list_any (is_false (zp_gap a b)) fs
    || (list_any (tells_integer a) fs && (list_any (tells_integer b) fs && list_any (is_true (less_term (Var a) (Var b))) fs))

-- ---- the new actuals
abbrev pub is_prim : Primitive → Primitive → Bool
is_prim p q = eqb (prim_number q) (prim_number p)

-- none or more CDR on v, and CAR where `cars` says so
abbrev mutual
  pub is_part : Bool → ℕ → Exp → Bool
  is_part cars v (Var u) = eqb u v
  is_part cars v (Prim p ts) = (is_prim prim.Cdr p || (cars && is_prim prim.Car p)) && is_part_first cars v ts
  is_part cars v _ = false

  pub is_part_first : Bool → ℕ → Exps → Bool
  is_part_first cars v (More t Last) = is_part cars v t
  is_part_first cars v _ = false

abbrev pub is_variable : ℕ → Exp → Bool
is_variable v (Var u) = eqb u v
is_variable v _ = false

abbrev pub is_proper_part : Bool → ℕ → Exp → Bool
is_proper_part cars v t = not (is_variable v t) && is_part cars v t

-- k of a literal -k, or of (- k); 0 elsewhere
abbrev pub minus_first : Exps → ℕ
minus_first (More (Const (Int (pos k))) Last) = k
minus_first _ = 0

abbrev pub minus_literal : Exp → ℕ
minus_literal (Const (Int (negsuc k))) = suc k
minus_literal (Prim p ts) = cond (is_prim prim.UnaryMinus p) (minus_first ts) 0
minus_literal _ = 0

abbrev pub less_two : ℕ → Exp → Exp → ℕ
less_two v x y = cond (is_variable v x) (minus_literal y) (cond (is_variable v y) (minus_literal x) 0)

abbrev pub less_args : ℕ → Exps → ℕ
less_args v (More x (More y Last)) = less_two v x y
less_args v _ = 0

-- k of v - k, 0 elsewhere
abbrev pub less_by : ℕ → Exp → ℕ
less_by v (Prim p ts) = cond (is_prim prim.BinaryPlus p) (less_args v ts) 0
less_by v _ = 0

abbrev pub plus_literal : Exp → ℕ
plus_literal (Const (Int (pos k))) = k
plus_literal _ = 0

abbrev pub more_two : ℕ → Exp → Exp → ℕ
more_two v x y = cond (is_variable v x) (plus_literal y) (cond (is_variable v y) (plus_literal x) 0)

abbrev pub more_args : ℕ → Exps → ℕ
more_args v (More x (More y Last)) = more_two v x y
more_args v _ = 0

-- k of v + k, 0 elsewhere
abbrev pub more_by : ℕ → Exp → ℕ
more_by v (Prim p ts) = cond (is_prim prim.BinaryPlus p) (more_args v ts) 0
more_by v _ = 0

-- whether it is v halved at least: (floor v k) with 2 ≤ k, or (ash v -k) with 1 ≤ k
abbrev pub is_divisor : Primitive → Exp → Bool
is_divisor p (Const (Int (pos k))) = is_prim prim.Floor p && leb 2 k
is_divisor p (Const (Int (negsuc k))) = is_prim prim.Ash p
is_divisor p _ = false

abbrev pub divides_args : ℕ → Primitive → Exps → Bool
divides_args v p (More x (More y Last)) = is_variable v x && is_divisor p y
divides_args v p _ = false

abbrev pub is_divided : ℕ → Exp → Bool
is_divided v (Prim p ts) = divides_args v p ts
is_divided v _ = false

-- ---- the rows: from the formal v to the new actual t
-- (acl2-count v)
abbrev pub count_row : List Fact → ℕ → Exp → Bool
count_row fs v t = (is_proper_part true v t && shows_cons fs v) || ((eqb (less_by v t) 1 || is_divided v t) && shows_positive fs v)

-- (len v)
abbrev pub len_row : List Fact → ℕ → Exp → Bool
len_row fs v t = is_proper_part false v t && shows_cons fs v

-- (nfix v)
abbrev pub nat_row : List Fact → ℕ → Exp → Bool
nat_row fs v t = (leb 1 (less_by v t) || is_divided v t) && shows_positive fs v

-- the formal itself
abbrev pub stays_row : List Fact → ℕ → Exp → Bool
stays_row fs v t = is_variable v t

-- the actual of the formal w
abbrev pub actual_of : List ℕ → Exps → ℕ → Option Exp
actual_of (u ∷ us) (More t ts) w = elim (eqb u w) [ true ↦ Some t | false ↦ actual_of us ts w ]
actual_of _ _ w = None

-- no let around the call binds v: there v is the formal
abbrev pub is_unbound : Governed → ℕ → Bool
is_unbound c v = not (list_any (λ u. eqb u v) c.bound)

abbrev pub row_at : (List Fact → ℕ → Exp → Bool) → Governed → ℕ → Option Exp → Bool
row_at row c v None = false
row_at row c v (Some t) = is_unbound c v && row c.facts v t

-- (nfix (- b a))
abbrev pub gap_row : List Fact → ℕ → ℕ → Exp → Exp → Bool
gap_row fs a b s t = leb 1 (more_by a s) && (is_variable b t && shows_gap fs a b)

abbrev pub gap_stays_row : List Fact → ℕ → ℕ → Exp → Exp → Bool
gap_stays_row fs a b s t = is_variable a s && is_variable b t

abbrev pub gap_at : (List Fact → ℕ → ℕ → Exp → Exp → Bool) → Governed → ℕ → ℕ → Option Exp → Option Exp → Bool
gap_at row c a b (Some s) (Some t) = is_unbound c a && (is_unbound c b && row c.facts a b s t)
gap_at row c a b _ _ = false

-- ---- from the caller's measure to the callee's, whose formals these are
abbrev pub natural_steps : Natural → Natural → List ℕ → Governed → Bool
natural_steps (natural.Count v) (natural.Count w) formals c = row_at count_row c v.number (actual_of formals c.actuals w.number)
natural_steps (natural.Len v) (natural.Len w) formals c = row_at len_row c v.number (actual_of formals c.actuals w.number)
natural_steps (natural.Nat v) (natural.Nat w) formals c = row_at nat_row c v.number (actual_of formals c.actuals w.number)
natural_steps (natural.Gap a b) (natural.Gap x y) formals c = gap_at gap_row c a.number b.number (actual_of formals c.actuals x.number) (actual_of formals c.actuals y.number)
natural_steps _ _ formals c = false

abbrev pub natural_stays : Natural → Natural → List ℕ → Governed → Bool
natural_stays (natural.Count v) (natural.Count w) formals c = row_at stays_row c v.number (actual_of formals c.actuals w.number)
natural_stays (natural.Len v) (natural.Len w) formals c = row_at stays_row c v.number (actual_of formals c.actuals w.number)
natural_stays (natural.Nat v) (natural.Nat w) formals c = row_at stays_row c v.number (actual_of formals c.actuals w.number)
natural_stays (natural.Gap a b) (natural.Gap x y) formals c = gap_at gap_stays_row c a.number b.number (actual_of formals c.actuals x.number) (actual_of formals c.actuals y.number)
natural_stays _ _ formals c = false

abbrev pub parts_step : MeasureParts → MeasureParts → List ℕ → Governed → Bool
parts_step (One m) (One k) formals c = natural_steps m k formals c
parts_step (Two m p) (Two k q) formals c = natural_steps m k formals c || (natural_stays m k formals c && natural_steps p q formals c)
parts_step _ _ formals c = false

abbrev pub measure_steps : Option Measure → Option Measure → List ℕ → Governed → Bool
measure_steps (Some m) (Some k) formals c = parts_step (measure_parts m) (measure_parts k) formals c
measure_steps _ _ formals c = false
