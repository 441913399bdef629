-- Values and counts of terms, computed outside this project.
use Rattle.std.specs.Prelude.{◌≡◌, ℕ, zero, suc, List, [], ◌∷◌, ◌++◌, map, Some, None, pos, negsuc}
use Rattle.gl_logic.specs.Object.{Object, Int, Symbol, Cons, nil, true_object}
use Rattle.gl_logic.specs.Exp.{Exp, Var, Const, If, Prim, Call, Let, Last, More}
use Rattle.gl_logic.specs.Definition.{Definition}
use Rattle.gl_logic.specs.Ground.{ground_definitions}
use Rattle.gl_logic.specs.WorldSeen.{WorldSeen}
use Rattle.gl_logic.specs.Evaluate.{evaluate}
use Rattle.gl_logic.specs.Counts.{cost, memoized_cost}
use Rattle.gl_logic.specs.CellCounts.{distinct_cells}
use Rattle.gl_logic.specs.declared.prim.Primitive.TheVariants as prim

abbrev world_of : List Definition → WorldSeen
world_of more = record { definitions = ground_definitions ++ more; cliques = map (λ _. 1) (ground_definitions ++ more); constants = []; events = [] }

pub record CountRow : Type 0 where
  pub world : WorldSeen
  pub memoized : List ℕ
  pub term : Exp
  pub value : Object
  pub cost : ℕ
  pub memoized_cost : ℕ
  pub distinct : ℕ
  pub depth : ℕ

-- a lower depth gives no value
abbrev pub NoneBelow : ℕ → WorldSeen → Exp → Type 0
NoneBelow zero w t = Unit {0}
NoneBelow (suc n) w t = evaluate w.definitions n [] t ≡ None

abbrev pub IsRight : CountRow → Type 0
IsRight r = (evaluate r.world.definitions r.depth [] r.term ≡ Some r.value) × (NoneBelow r.depth r.world r.term) × (cost r.world.definitions r.depth [] r.term ≡ r.cost)
    × (memoized_cost r.world.definitions r.memoized r.depth [] r.term ≡ r.memoized_cost) × (distinct_cells r.world r.depth [] r.term ≡ r.distinct)

abbrev pub AreRight : List CountRow → Type 0
AreRight [] = Unit {0}
AreRight (r ∷ rs) = IsRight r × AreRight rs

-- (defun fib (n) (if (zp n) 0 (if (equal n 1) 1 (+ (fib (- n 1)) (fib (- n 2))))))
abbrev fib : Definition
fib = record { name = 0; formals = 12 ∷ []; body = (If (Call 7 (More (Var 12) Last)) (Const (Int (pos 0))) (If (Prim prim.Equal (More (Var 12) (More (Const (Int (pos 1))) Last))) (Const (Int (pos 1))) (Prim prim.BinaryPlus (More (Call 43 (More (Prim prim.BinaryPlus (More (Var 12) (More (Prim prim.UnaryMinus (More (Const (Int (pos 1))) Last)) Last))) Last)) (More (Call 43 (More (Prim prim.BinaryPlus (More (Var 12) (More (Prim prim.UnaryMinus (More (Const (Int (pos 2))) Last)) Last))) Last)) Last))))); measure = None }

-- (defun dup (n) (if (zp n) nil (let ((x (dup (- n 1)))) (cons x x))))
abbrev dup : Definition
dup = record { name = 0; formals = 12 ∷ []; body = (If (Call 7 (More (Var 12) Last)) (Const nil) (Let (13 ∷ []) (More (Call 44 (More (Prim prim.BinaryPlus (More (Var 12) (More (Prim prim.UnaryMinus (More (Const (Int (pos 1))) Last)) Last))) Last)) Last) (Prim prim.Cons (More (Var 13) (More (Var 13) Last))))); measure = None }

-- (defun down (n) (if (zp n) 0 (down (- n 1))))
abbrev down : Definition
down = record { name = 0; formals = 12 ∷ []; body = (If (Call 7 (More (Var 12) Last)) (Const (Int (pos 0))) (Call 45 (More (Prim prim.BinaryPlus (More (Var 12) (More (Prim prim.UnaryMinus (More (Const (Int (pos 1))) Last)) Last))) Last))); measure = None }

abbrev row : WorldSeen → List ℕ → Exp → Object → ℕ → ℕ → ℕ → ℕ → CountRow
row w m t x c k d n = record { world = w; memoized = m; term = t; value = x; cost = c; memoized_cost = k; distinct = d; depth = n }

unfoldable pub worked_counts : List CountRow
worked_counts =
    -- (car (cons 'a 2))
    row (world_of []) [] (Prim prim.Car (More (Prim prim.Cons (More (Const (Symbol 4)) (More (Const (Int (pos 2))) Last))) Last)) (Symbol 4) 4 4 4 0
    -- (cons 1 (cons 1 (cons 1 nil)))
    ∷ row (world_of []) [] (Prim prim.Cons (More (Const (Int (pos 1))) (More (Prim prim.Cons (More (Const (Int (pos 1))) (More (Prim prim.Cons (More (Const (Int (pos 1))) (More (Const nil) Last))) Last))) Last))) (Cons (Int (pos 1)) (Cons (Int (pos 1)) (Cons (Int (pos 1)) nil))) 7 7 6 0
    -- (equal (cons 1 2) (cons 1 2))
    ∷ row (world_of []) [] (Prim prim.Equal (More (Prim prim.Cons (More (Const (Int (pos 1))) (More (Const (Int (pos 2))) Last))) (More (Prim prim.Cons (More (Const (Int (pos 1))) (More (Const (Int (pos 2))) Last))) Last))) true_object 7 7 4 0
    -- (if (consp 7) (cons 1 2) (cons 3 4))
    ∷ row (world_of []) [] (If (Prim prim.Consp (More (Const (Int (pos 7))) Last)) (Prim prim.Cons (More (Const (Int (pos 1))) (More (Const (Int (pos 2))) Last))) (Prim prim.Cons (More (Const (Int (pos 3))) (More (Const (Int (pos 4))) Last)))) (Cons (Int (pos 3)) (Int (pos 4))) 6 6 7 0
    -- (let ((x (cons 1 2))) (cons x x))
    ∷ row (world_of []) [] (Let (13 ∷ []) (More (Prim prim.Cons (More (Const (Int (pos 1))) (More (Const (Int (pos 2))) Last))) Last) (Prim prim.Cons (More (Var 13) (More (Var 13) Last)))) (Cons (Cons (Int (pos 1)) (Int (pos 2))) (Cons (Int (pos 1)) (Int (pos 2)))) 7 7 5 0
    -- (let ((x 5) (y (+ 2 3))) (list x y (+ x y)))
    ∷ row (world_of []) [] (Let (13 ∷ 14 ∷ []) (More (Const (Int (pos 5))) (More (Prim prim.BinaryPlus (More (Const (Int (pos 2))) (More (Const (Int (pos 3))) Last))) Last)) (Prim prim.Cons (More (Var 13) (More (Prim prim.Cons (More (Var 14) (More (Prim prim.Cons (More (Prim prim.BinaryPlus (More (Var 13) (More (Var 14) Last))) (More (Const nil) Last))) Last))) Last)))) (Cons (Int (pos 5)) (Cons (Int (pos 5)) (Cons (Int (pos 10)) nil))) 14 14 9 0
    -- (let* ((x 1) (y (+ x x)) (x (+ y y))) (cons x y))
    ∷ row (world_of []) [] (Let (13 ∷ []) (More (Const (Int (pos 1))) Last) (Let (14 ∷ []) (More (Prim prim.BinaryPlus (More (Var 13) (More (Var 13) Last))) Last) (Let (13 ∷ []) (More (Prim prim.BinaryPlus (More (Var 14) (More (Var 14) Last))) Last) (Prim prim.Cons (More (Var 13) (More (Var 14) Last)))))) (Cons (Int (pos 4)) (Int (pos 2))) 13 13 5 0
    -- (nfix -3)
    ∷ row (world_of []) [] (Call 11 (More (Const (Int (negsuc 2))) Last)) (Int (pos 0)) 13 13 4 2
    -- (zp 3)
    ∷ row (world_of []) [] (Call 7 (More (Const (Int (pos 3))) Last)) nil 9 9 4 1
    -- (len '(a b c))
    ∷ row (world_of []) [] (Call 25 (More (Const (Cons (Symbol 4) (Cons (Symbol 5) (Cons (Symbol 15) nil)))) Last)) (Int (pos 3)) 30 30 7 4
    -- (binary-append '(1 2) '(3))
    ∷ row (world_of []) [] (Call 27 (More (Const (Cons (Int (pos 1)) (Cons (Int (pos 2)) nil))) (More (Const (Cons (Int (pos 3)) nil)) Last))) (Cons (Int (pos 1)) (Cons (Int (pos 2)) (Cons (Int (pos 3)) nil))) 42 42 9 5
    -- (nth 2 '(a b c d))
    ∷ row (world_of []) [] (Call 28 (More (Const (Int (pos 2))) (More (Const (Cons (Symbol 4) (Cons (Symbol 5) (Cons (Symbol 15) (Cons (Symbol 16) nil))))) Last))) (Symbol 15) 73 73 8 5
    -- (logcount 255)
    ∷ row (world_of []) [] (Call 34 (More (Const (Int (pos 255))) Last)) (Int (pos 8)) 166 166 14 11
    -- (logcount -8)
    ∷ row (world_of []) [] (Call 34 (More (Const (Int (negsuc 7))) Last)) (Int (pos 3)) 77 77 6 6
    -- (evenp 10)
    ∷ row (world_of []) [] (Call 19 (More (Const (Int (pos 10))) Last)) true_object 7 7 4 1
    -- (implies t nil)
    ∷ row (world_of []) [] (Call 22 (More (Const true_object) (More (Const nil) Last))) nil 8 8 3 1
    -- (xor t 3)
    ∷ row (world_of []) [] (Call 24 (More (Const true_object) (More (Const (Int (pos 3))) Last))) nil 8 8 4 1
    -- (member-equal 'c '(a b c d))
    ∷ row (world_of []) [] (Call 31 (More (Const (Symbol 15)) (More (Const (Cons (Symbol 4) (Cons (Symbol 5) (Cons (Symbol 15) (Cons (Symbol 16) nil))))) Last))) (Cons (Symbol 15) (Cons (Symbol 16) nil)) 51 51 7 5
    -- (hons-get 'k '((j . 1) 7 (k . 2) (k . 3)))
    ∷ row (world_of []) [] (Call 41 (More (Const (Symbol 18)) (More (Const (Cons (Cons (Symbol 17) (Int (pos 1))) (Cons (Int (pos 7)) (Cons (Cons (Symbol 18) (Int (pos 2))) (Cons (Cons (Symbol 18) (Int (pos 3))) nil))))) Last))) (Cons (Symbol 18) (Int (pos 2))) 60 60 12 5
    -- (fast-alist-fork '((a . 1) 7 (b . 2) (a . 3)) nil)
    ∷ row (world_of []) [] (Call 42 (More (Const (Cons (Cons (Symbol 4) (Int (pos 1))) (Cons (Int (pos 7)) (Cons (Cons (Symbol 5) (Int (pos 2))) (Cons (Cons (Symbol 4) (Int (pos 3))) nil))))) (More (Const nil) Last))) (Cons (Cons (Symbol 5) (Int (pos 2))) (Cons (Cons (Symbol 4) (Int (pos 1))) nil)) 174 174 14 7
    -- (update-nth 1 'z '(a b c))
    ∷ row (world_of []) [] (Call 30 (More (Const (Int (pos 1))) (More (Const (Symbol 19)) (More (Const (Cons (Symbol 4) (Cons (Symbol 5) (Cons (Symbol 15) nil)))) Last)))) (Cons (Symbol 4) (Cons (Symbol 19) (Cons (Symbol 15) nil))) 39 39 9 3
    -- (+ (* 3 4) (- 20 5))
    ∷ row (world_of []) [] (Prim prim.BinaryPlus (More (Prim prim.BinaryTimes (More (Const (Int (pos 3))) (More (Const (Int (pos 4))) Last))) (More (Prim prim.BinaryPlus (More (Const (Int (pos 20))) (More (Prim prim.UnaryMinus (More (Const (Int (pos 5))) Last)) Last))) Last))) (Int (pos 27)) 8 8 11 0
    -- (and (integerp 3) (< 2 3) (equal 'a 'a))
    ∷ row (world_of []) [] (If (Prim prim.Integerp (More (Const (Int (pos 3))) Last)) (If (Prim prim.Less (More (Const (Int (pos 2))) (More (Const (Int (pos 3))) Last))) (Prim prim.Equal (More (Const (Symbol 4)) (More (Const (Symbol 4)) Last))) (Const nil)) (Const nil)) true_object 10 10 4 0
    -- (case 3 (1 'one) ((2 3) 'few) (t 'many))
    ∷ row (world_of []) [] (Let (20 ∷ []) (More (Const (Int (pos 3))) Last) (If (Prim prim.Equal (More (Var 20) (More (Const (Int (pos 1))) Last))) (Const (Symbol 21)) (If (Call 31 (More (Var 20) (More (Const (Cons (Int (pos 2)) (Cons (Int (pos 3)) nil))) Last))) (Const (Symbol 22)) (Const (Symbol 23))))) (Symbol 22) 42 42 6 4
    -- (fib 0)
    ∷ row (world_of (fib ∷ [])) [] (Call 43 (More (Const (Int (pos 0))) Last)) (Int (pos 0)) 13 13 3 2
    -- (fib 1)
    ∷ row (world_of (fib ∷ [])) [] (Call 43 (More (Const (Int (pos 1))) Last)) (Int (pos 1)) 17 17 3 2
    -- (fib 5)
    ∷ row (world_of (fib ∷ [])) [] (Call 43 (More (Const (Int (pos 5))) Last)) (Int (pos 5)) 285 285 8 6
    -- (fib 10)
    ∷ row (world_of (fib ∷ [])) [] (Call 43 (More (Const (Int (pos 10))) Last)) (Int (pos 55)) 3401 3401 17 11
    -- (dup 4)
    ∷ row (world_of (fib ∷ dup ∷ [])) [] (Call 44 (More (Const (Int (pos 4))) Last)) (Cons (Cons (Cons (Cons nil nil) (Cons nil nil)) (Cons (Cons nil nil) (Cons nil nil))) (Cons (Cons (Cons nil nil) (Cons nil nil)) (Cons (Cons nil nil) (Cons nil nil)))) 89 89 10 6
    -- (equal (dup 6) (dup 6))
    ∷ row (world_of (fib ∷ dup ∷ [])) [] (Prim prim.Equal (More (Call 44 (More (Const (Int (pos 6))) Last)) (More (Call 44 (More (Const (Int (pos 6))) Last)) Last))) true_object 255 255 14 8
    -- (down 3)
    ∷ row (world_of (fib ∷ dup ∷ down ∷ [])) [] (Call 45 (More (Const (Int (pos 3))) Last)) (Int (pos 0)) 58 58 5 5
    -- (fib 0), with fib memoized
    ∷ row (world_of (fib ∷ dup ∷ down ∷ [])) (43 ∷ []) (Call 43 (More (Const (Int (pos 0))) Last)) (Int (pos 0)) 13 13 3 2
    -- (fib 5), with fib memoized
    ∷ row (world_of (fib ∷ dup ∷ down ∷ [])) (43 ∷ []) (Call 43 (More (Const (Int (pos 5))) Last)) (Int (pos 5)) 285 128 8 6
    -- (fib 10), with fib memoized
    ∷ row (world_of (fib ∷ dup ∷ down ∷ [])) (43 ∷ []) (Call 43 (More (Const (Int (pos 10))) Last)) (Int (pos 55)) 3401 253 17 11
    -- (+ (fib 4) (fib 5)), with fib memoized
    ∷ row (world_of (fib ∷ dup ∷ down ∷ [])) (43 ∷ []) (Prim prim.BinaryPlus (More (Call 43 (More (Const (Int (pos 4))) Last)) (More (Call 43 (More (Const (Int (pos 5))) Last)) Last))) (Int (pos 8)) 455 131 9 6
    -- (fib 5), with fib zp memoized
    ∷ row (world_of (fib ∷ dup ∷ down ∷ [])) (43 ∷ 7 ∷ []) (Call 43 (More (Const (Int (pos 5))) Last)) (Int (pos 5)) 285 128 8 6
    -- (list (len '(a b c)) (len '(a b c)) (len '(b c)) (len '(c b))), with fib zp len memoized
    ∷ row (world_of (fib ∷ dup ∷ down ∷ [])) (43 ∷ 7 ∷ 25 ∷ []) (Prim prim.Cons (More (Call 25 (More (Const (Cons (Symbol 4) (Cons (Symbol 5) (Cons (Symbol 15) nil)))) Last)) (More (Prim prim.Cons (More (Call 25 (More (Const (Cons (Symbol 4) (Cons (Symbol 5) (Cons (Symbol 15) nil)))) Last)) (More (Prim prim.Cons (More (Call 25 (More (Const (Cons (Symbol 5) (Cons (Symbol 15) nil))) Last)) (More (Prim prim.Cons (More (Call 25 (More (Const (Cons (Symbol 15) (Cons (Symbol 5) nil))) Last)) (More (Const nil) Last))) Last))) Last))) Last))) (Cons (Int (pos 3)) (Cons (Int (pos 3)) (Cons (Int (pos 2)) (Cons (Int (pos 2)) nil)))) 109 57 13 4
    ∷ []
