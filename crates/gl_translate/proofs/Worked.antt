-- Forms of the table that compute.
use Rattle.std.proofs.Common.{◌≡◌, refl, ℕ, Bool, true, false, pos, negsuc, List, [], ◌∷◌, map, ◌++◌}
use Rattle.std.specs.Prelude.{codes, Result, Ok, Err}
use Rattle.gl_logic.specs.Object.{Object, Int, Symbol, Cons, nil, true_object}
use Rattle.gl_logic.specs.Exp.{Exp, Exps, Var, Const, If, Prim, Call, Let, Last, More}
use Rattle.gl_logic.specs.declared.prim.Primitive.TheVariants as prim
use Rattle.gl_translate.specs.declared.fault.TermFault.TheVariants as term_fault
use Rattle.gl_translate.specs.Setting.{Setting}
use Rattle.gl_translate.specs.Meaning.{Outcome}
use Rattle.gl_translate.specs.Translation.{meaning, are_in}

abbrev names : List (List ℕ)
names =
    codes "NIL" ∷ codes "T" ∷ (96 ∷ []) ∷ (44 ∷ []) ∷ codes "X" ∷ codes "Y" ∷ codes "F" ∷ codes "*C*" ∷ codes ":K" ∷ []
    ∷ codes "AND" ∷ codes "OR" ∷ codes "COND" ∷ codes "CASE" ∷ codes "LET" ∷ codes "LET*" ∷ codes "+" ∷ codes ">" ∷ codes "CADR" ∷ codes "QUOTE" ∷ codes "IF" ∷ codes "CONS" ∷ codes "LIST*" ∷ codes "DECLARE" ∷ codes "IGNORE" ∷ []

abbrev setting : Setting
setting = record { names = names; constants = (7, Int (pos 5)) ∷ []; functions = (6, 1) ∷ []; own = []; every = false }

abbrev list : List Object → Object
list [] = nil
list (x ∷ xs) = Cons x (list xs)

abbrev x : Object
x = Symbol 4

abbrev y : Object
y = Symbol 5

abbrev one : Object
one = Int (pos 1)

abbrev meant : Object → Outcome Exp
meant form = meaning setting form (are_in (4 ∷ 5 ∷ [])) 0

abbrev two : Exp → Exp → Exps
two a b = More a (More b Last)

and_of_two : meant (list (Symbol 10 ∷ x ∷ y ∷ [])) ≡ Ok (If (Var 4) (Var 5) (Const nil))
and_of_two = refl

or_takes_twice : meant (list (Symbol 11 ∷ x ∷ y ∷ [])) ≡ Ok (If (Var 4) (Var 4) (Var 5))
or_takes_twice = refl

clauses : meant (list (Symbol 12 ∷ list (x ∷ []) ∷ list (y ∷ one ∷ []) ∷ [])) ≡ Ok (If (Var 4) (Var 4) (If (Var 5) (Const one) (Const nil)))
clauses = refl

keys : meant (list (Symbol 13 ∷ x ∷ list (one ∷ y ∷ []) ∷ list (true_object ∷ x ∷ []) ∷ [])) ≡ Ok (Let (9 ∷ []) (More (Var 4) Last) (If (Prim prim.Equal (two (Var 9) (Const one))) (Var 5) (Var 4)))
keys = refl

all_at_once : meant (list (Symbol 14 ∷ list (list (x ∷ y ∷ []) ∷ list (y ∷ x ∷ []) ∷ []) ∷ x ∷ [])) ≡ Ok (Let (4 ∷ 5 ∷ []) (two (Var 5) (Var 4)) (Var 4))
all_at_once = refl

bound_twice : meant (list (Symbol 14 ∷ list (list (x ∷ y ∷ []) ∷ list (x ∷ x ∷ []) ∷ []) ∷ x ∷ [])) ≡ Err term_fault.BadUse
bound_twice = refl

after_each_other : meant (list (Symbol 15 ∷ list (list (x ∷ y ∷ []) ∷ list (x ∷ x ∷ []) ∷ []) ∷ list (Symbol 23 ∷ list (Symbol 24 ∷ x ∷ []) ∷ []) ∷ x ∷ [])) ≡ Ok (Let (4 ∷ []) (More (Var 5) Last) (Let (4 ∷ []) (More (Var 4) Last) (Var 4)))
after_each_other = refl

sum_of_three : meant (list (Symbol 16 ∷ x ∷ y ∷ one ∷ [])) ≡ Ok (Prim prim.BinaryPlus (two (Var 4) (Prim prim.BinaryPlus (two (Var 5) (Const one)))))
sum_of_three = refl

above_turns : meant (list (Symbol 17 ∷ list (Symbol 30 ∷ []) ∷ Symbol 31 ∷ [])) ≡ Err term_fault.UnboundVariable
above_turns = refl

second : meant (list (Symbol 18 ∷ x ∷ [])) ≡ Ok (Prim prim.Car (More (Prim prim.Cdr (More (Var 4) Last)) Last))
second = refl

marked : meant (list (Symbol 19 ∷ list (Symbol 3 ∷ x ∷ []) ∷ [])) ≡ Err term_fault.BadUse
marked = refl

counted : meant (list (Symbol 6 ∷ x ∷ y ∷ [])) ≡ Err term_fault.WrongCount
counted = refl

called : meant (list (Symbol 6 ∷ Symbol 7 ∷ [])) ≡ Ok (Call 0 (More (Const (Int (pos 5))) Last))
called = refl

constant_as_variable : meant (list (Symbol 14 ∷ list (list (Symbol 7 ∷ y ∷ []) ∷ []) ∷ x ∷ [])) ≡ Err term_fault.BadUse
constant_as_variable = refl
