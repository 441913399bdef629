-- Where a term stands in a list that a subject denotes: behind so many conses, or in an element.
use Rattle.std.specs.Prelude.{ℕ, zero, suc, ◌+◌, ◌-◌, Bool, false, cond, eqb, ltb, Option, Some, None, pos}
use Rattle.std.specs.Option.{option_map}
use Rattle.gl_logic.specs.Object.{Int}
use Rattle.gl_logic.specs.Exp.{Exp, Const, Prim, Call, Last, More}
use Rattle.gl_logic.specs.PrimCode.{prim_number}
use Rattle.gl_logic.specs.declared.prim.Primitive.{Primitive}
use Rattle.gl_logic.specs.declared.prim.Primitive.TheVariants.{Car, Cdr}

-- the argument of a call of a primitive that has one
abbrev pub argument_in : Primitive → Exp → Option Exp
argument_in p (Prim q (More a Last)) = cond (eqb (prim_number q) (prim_number p)) (Some a) None
argument_in p t = None

-- behind how many conses of a subject's object, fewer than n
abbrev pub one_behind : (Exp → Option ℕ) → Option Exp → Option ℕ
one_behind place (Some t) = option_map suc (place t)
one_behind place None = None

abbrev pub place_of : ℕ → (Exp → Bool) → Exp → Option ℕ
place_of zero subject t = None
place_of (suc n) subject t = cond (subject t) (Some 0) (one_behind (place_of n subject) (argument_in Cdr t))

-- which element, of n at most, a term goes by
abbrev pub by_car : ℕ → (Exp → Bool) → Option Exp → Option ℕ
by_car n subject (Some s) = place_of n subject s
by_car n subject None = None

-- a literal natural number below n
abbrev pub index_below : ℕ → Exp → Option ℕ
index_below n (Const (Int (pos i))) = cond (ltb i n) (Some i) None
index_below n k = None

abbrev pub behind_index : ℕ → (Exp → Bool) → Option ℕ → Exp → Option ℕ
behind_index n subject (Some i) s = option_map (λ j. j + i) (place_of (n - i) subject s)
behind_index n subject None s = None

abbrev pub by_nth : ℕ → (Exp → Bool) → Exp → Option ℕ
by_nth n subject (Call f (More k (More s Last))) = cond (eqb f 28) (behind_index n subject (index_below n k) s) None
by_nth n subject t = None

abbrev pub first_of_both : Option ℕ → Option ℕ → Option ℕ
first_of_both (Some i) o = Some i
first_of_both None o = o

abbrev pub element_in : ℕ → (Exp → Bool) → Exp → Option ℕ
element_in n subject t = first_of_both (by_car n subject (argument_in Car t)) (by_nth n subject t)

abbrev pub is_place : ℕ → Option ℕ → Bool
is_place j (Some i) = eqb i j
is_place j None = false

abbrev pub is_element : ℕ → (Exp → Bool) → ℕ → Exp → Bool
is_element n subject j t = is_place j (element_in n subject t)
