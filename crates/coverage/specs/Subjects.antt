-- Subjects: sets of terms, each as the test whether a term is one of them.
use Rattle.std.specs.Prelude.{ℕ, zero, suc, Bool, false, ◌||◌, eqb, pos}
use Rattle.std.specs.Ordering.{int_eq}
use Rattle.gl_logic.specs.Exp.{Exp, Var}
use Rattle.gl_logic.specs.declared.prim.Primitive.TheVariants.{Car, Cdr}
use Rattle.coverage.specs.Forms.{is_int, is_literal, one, two, is_prim, is_call}

-- at first the variable alone
abbrev pub is_variable : ℕ → Exp → Bool
is_variable v (Var u) = eqb u v
is_variable v _ = false

-- (car s)
abbrev pub car_of : (Exp → Bool) → Exp → Bool
car_of subject = is_prim Car (one subject)

-- (cdr s)
abbrev pub cdr_of : (Exp → Bool) → Exp → Bool
cdr_of subject = is_prim Cdr (one subject)

-- (cdr .. s) with i cdr
abbrev pub behind : ℕ → (Exp → Bool) → Exp → Bool
behind zero subject = subject
behind (suc i) subject = cdr_of (behind i subject)

-- (len s)
abbrev pub len_of : (Exp → Bool) → Exp → Bool
len_of subject = is_call 25 (one subject)

-- (nth 'i s)
abbrev pub nth_of : ℕ → (Exp → Bool) → Exp → Bool
nth_of i subject = is_call 28 (two (is_literal (is_int (int_eq (pos i)))) subject)

-- element i of a list: (car (cdr .. s)) with i cdr, and (nth 'i s)
abbrev pub element_of : ℕ → (Exp → Bool) → Exp → Bool
element_of i subject t = car_of (behind i subject) t || nth_of i subject t
