-- The ground definitions: the first definitions of every book's world, in their order.
use Rattle.std.specs.Prelude.{ℕ, List, [], ◌∷◌, map, None, pos}
use Rattle.std.specs.List.{range_with_len}
use Rattle.gl_logic.specs.Object.{Int, nil, true_object}
use Rattle.gl_logic.specs.Exp.{Exp, Var, Const, If, Prim, Call, Last, More}
use Rattle.gl_logic.specs.Definition.{Definition}
use Rattle.gl_logic.specs.declared.prim.Primitive as primitive
use Rattle.gl_logic.specs.declared.prim.Primitive.TheVariants as prim

-- a definition but for its name and the names of its formals: how many formals it has, and its body, where the variable of each formal is the formal's place, from 0
pub record Ground : Type 0 where
  pub arity : ℕ
  pub body : Exp

-- ---- short words for terms
abbrev v0 : Exp
v0 = Var 0

abbrev v1 : Exp
v1 = Var 1

abbrev v2 : Exp
v2 = Var 2

abbrev literal : ℕ → Exp
literal n = Const (Int (pos n))

abbrev nil_term : Exp
nil_term = Const nil

abbrev true_term : Exp
true_term = Const true_object

abbrev prim1 : primitive.Primitive → Exp → Exp
prim1 p a = Prim p (More a Last)

abbrev prim2 : primitive.Primitive → Exp → Exp → Exp
prim2 p a b = Prim p (More a (More b Last))

abbrev call1 : ℕ → Exp → Exp
call1 f a = Call f (More a Last)

abbrev call2 : ℕ → Exp → Exp → Exp
call2 f a b = Call f (More a (More b Last))

abbrev call3 : ℕ → Exp → Exp → Exp → Exp
call3 f a b c = Call f (More a (More b (More c Last)))

abbrev define : ℕ → Exp → Ground
define arity body = record { arity = arity; body = body }

-- ---- the list, each with the form that it comes from
unfoldable pub ground : List Ground
ground =
    -- 0: (defun atom (x) (not (consp x)))
    define 1 (prim1 prim.Not (prim1 prim.Consp v0))
    -- 1: (defun endp (x) (atom x))
    ∷ define 1 (call1 0 v0)
    -- 2: (defun null (x) (equal x nil))
    ∷ define 1 (prim2 prim.Equal v0 nil_term)
    -- 3: (defun eq (x y) (equal x y))
    ∷ define 2 (prim2 prim.Equal v0 v1)
    -- 4: (defun eql (x y) (equal x y))
    ∷ define 2 (prim2 prim.Equal v0 v1)
    -- 5: (defun = (x y) (equal x y))
    ∷ define 2 (prim2 prim.Equal v0 v1)
    -- 6: (defun hons-equal (x y) (equal x y))
    ∷ define 2 (prim2 prim.Equal v0 v1)
    -- 7: (defun zp (x) (if (integerp x) (<= x 0) t))
    ∷ define 1 (If (prim1 prim.Integerp v0) (prim1 prim.Not (prim2 prim.Less (literal 0) v0)) true_term)
    -- 8: (defun zip (x) (if (integerp x) (equal x 0) t))
    ∷ define 1 (If (prim1 prim.Integerp v0) (prim2 prim.Equal v0 (literal 0)) true_term)
    -- 9: (defun natp (x) (if (integerp x) (<= 0 x) nil))
    ∷ define 1 (If (prim1 prim.Integerp v0) (prim1 prim.Not (prim2 prim.Less v0 (literal 0))) nil_term)
    -- 10: (defun posp (x) (if (integerp x) (< 0 x) nil))
    ∷ define 1 (If (prim1 prim.Integerp v0) (prim2 prim.Less (literal 0) v0) nil_term)
    -- 11: (defun nfix (x) (if (natp x) x 0))
    ∷ define 1 (If (call1 9 v0) v0 (literal 0))
    -- 12: (defun ifix (x) (if (integerp x) x 0))
    ∷ define 1 (If (prim1 prim.Integerp v0) v0 (literal 0))
    -- 13: (defun zerop (x) (equal x 0))
    ∷ define 1 (prim2 prim.Equal v0 (literal 0))
    -- 14: (defun plusp (x) (< 0 x))
    ∷ define 1 (prim2 prim.Less (literal 0) v0)
    -- 15: (defun minusp (x) (< x 0))
    ∷ define 1 (prim2 prim.Less v0 (literal 0))
    -- 16: (defun min (x y) (if (< x y) x y))
    ∷ define 2 (If (prim2 prim.Less v0 v1) v0 v1)
    -- 17: (defun max (x y) (if (< y x) x y))
    ∷ define 2 (If (prim2 prim.Less v1 v0) v0 v1)
    -- 18: (defun abs (x) (if (< x 0) (- x) x))
    ∷ define 1 (If (prim2 prim.Less v0 (literal 0)) (prim1 prim.UnaryMinus v0) v0)
    -- 19: (defun evenp (x) (equal (mod x 2) 0))
    ∷ define 1 (prim2 prim.Equal (prim2 prim.Mod v0 (literal 2)) (literal 0))
    -- 20: (defun oddp (x) (not (evenp x)))
    ∷ define 1 (prim1 prim.Not (call1 19 v0))
    -- 21: (defun booleanp (x) (if (equal x t) t (equal x nil)))
    ∷ define 1 (If (prim2 prim.Equal v0 true_term) true_term (prim2 prim.Equal v0 nil_term))
    -- 22: (defun implies (p q) (if p (if q t nil) t))
    ∷ define 2 (If v0 (If v1 true_term nil_term) true_term)
    -- 23: (defun iff (p q) (if p (if q t nil) (if q nil t)))
    ∷ define 2 (If v0 (If v1 true_term nil_term) (If v1 nil_term true_term))
    -- 24: (defun xor (p q) (if p (if q nil t) (if q t nil)))
    ∷ define 2 (If v0 (If v1 nil_term true_term) (If v1 true_term nil_term))
    -- 25: (defun len (x) (if (consp x) (+ 1 (len (cdr x))) 0))
    ∷ define 1 (If (prim1 prim.Consp v0) (prim2 prim.BinaryPlus (literal 1) (call1 25 (prim1 prim.Cdr v0))) (literal 0))
    -- 26: (defun true-listp (x) (if (consp x) (true-listp (cdr x)) (equal x nil)))
    ∷ define 1 (If (prim1 prim.Consp v0) (call1 26 (prim1 prim.Cdr v0)) (prim2 prim.Equal v0 nil_term))
    -- 27: (defun binary-append (x y) (if (endp x) y (cons (car x) (binary-append (cdr x) y))))
    ∷ define 2 (If (call1 1 v0) v1 (prim2 prim.Cons (prim1 prim.Car v0) (call2 27 (prim1 prim.Cdr v0) v1)))
    -- 28: (defun nth (n l) (if (endp l) nil (if (zp n) (car l) (nth (- n 1) (cdr l)))))
    ∷ define 2 (If (call1 1 v1) nil_term (If (call1 7 v0) (prim1 prim.Car v1) (call2 28 (prim2 prim.BinaryPlus v0 (prim1 prim.UnaryMinus (literal 1))) (prim1 prim.Cdr v1))))
    -- 29: (defun nthcdr (n l) (if (zp n) l (nthcdr (- n 1) (cdr l))))
    ∷ define 2 (If (call1 7 v0) v1 (call2 29 (prim2 prim.BinaryPlus v0 (prim1 prim.UnaryMinus (literal 1))) (prim1 prim.Cdr v1)))
    -- 30: (defun update-nth (n v l) (if (zp n) (cons v (cdr l)) (cons (car l) (update-nth (- n 1) v (cdr l)))))
    ∷ define 3 (If (call1 7 v0) (prim2 prim.Cons v1 (prim1 prim.Cdr v2)) (prim2 prim.Cons (prim1 prim.Car v2) (call3 30 (prim2 prim.BinaryPlus v0 (prim1 prim.UnaryMinus (literal 1))) v1 (prim1 prim.Cdr v2))))
    -- 31: (defun member-equal (x l) (if (endp l) nil (if (equal x (car l)) l (member-equal x (cdr l)))))
    ∷ define 2 (If (call1 1 v1) nil_term (If (prim2 prim.Equal v0 (prim1 prim.Car v1)) v1 (call2 31 v0 (prim1 prim.Cdr v1))))
    -- 32: (defun assoc-equal (x a) (if (endp a) nil (if (equal x (car (car a))) (car a) (assoc-equal x (cdr a)))))
    ∷ define 2 (If (call1 1 v1) nil_term (If (prim2 prim.Equal v0 (prim1 prim.Car (prim1 prim.Car v1))) (prim1 prim.Car v1) (call2 32 v0 (prim1 prim.Cdr v1))))
    -- 33: (defun logcount-nat (x) (if (zp x) 0 (+ (mod x 2) (logcount-nat (floor x 2)))))
    ∷ define 1 (If (call1 7 v0) (literal 0) (prim2 prim.BinaryPlus (prim2 prim.Mod v0 (literal 2)) (call1 33 (prim2 prim.Floor v0 (literal 2)))))
    -- 34: (defun logcount (x) (if (integerp x) (if (< x 0) (logcount-nat (lognot x)) (logcount-nat x)) 0))
    ∷ define 1 (If (prim1 prim.Integerp v0) (If (prim2 prim.Less v0 (literal 0)) (call1 33 (prim1 prim.Lognot v0)) (call1 33 v0)) (literal 0))
    -- 35: (defun hons (x y) (cons x y))
    ∷ define 2 (prim2 prim.Cons v0 v1)
    -- 36: (defun hons-copy (x) x)
    ∷ define 1 v0
    -- 37: (defun hons-acons (k v a) (cons (cons k v) a))
    ∷ define 3 (prim2 prim.Cons (prim2 prim.Cons v0 v1) v2)
    -- 38: (defun make-fast-alist (a) a)
    ∷ define 1 v0
    -- 39: (defun fast-alist-free (a) a)
    ∷ define 1 v0
    -- 40: (defun hons-assoc-equal (k a) (if (atom a) nil (if (and (consp (car a)) (equal k (car (car a)))) (car a) (hons-assoc-equal k (cdr a)))))
    ∷ define 2 (If (call1 0 v1) nil_term (If (If (prim1 prim.Consp (prim1 prim.Car v1)) (prim2 prim.Equal v0 (prim1 prim.Car (prim1 prim.Car v1))) nil_term) (prim1 prim.Car v1) (call2 40 v0 (prim1 prim.Cdr v1))))
    -- 41: (defun hons-get (k a) (hons-assoc-equal k a))
    ∷ define 2 (call2 40 v0 v1)
    -- 42: (defun fast-alist-fork (a ans) (if (atom a) ans (if (atom (car a)) (fast-alist-fork (cdr a) ans) (if (hons-assoc-equal (car (car a)) ans) (fast-alist-fork (cdr a) ans) (fast-alist-fork (cdr a) (cons (car a) ans))))))
    ∷ define 2 (If (call1 0 v0) v1 (If (call1 0 (prim1 prim.Car v0)) (call2 42 (prim1 prim.Cdr v0) v1) (If (call2 40 (prim1 prim.Car (prim1 prim.Car v0)) v1) (call2 42 (prim1 prim.Cdr v0) v1) (call2 42 (prim1 prim.Cdr v0) (prim2 prim.Cons (prim1 prim.Car v0) v1)))))
    ∷ []

-- ---- the same as definitions, for a world of these alone: without names, and with the formals named by their places
abbrev pub ground_definition : Ground → Definition
ground_definition g = record { name = 0; formals = range_with_len 0 g.arity; body = g.body; measure = None }

abbrev pub ground_definitions : List Definition
ground_definitions = map ground_definition ground
