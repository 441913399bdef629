-- Rows: what one conjunct says of a subject.
use Rattle.std.specs.Prelude.{ℕ, ◌+◌, ◌-◌, ◌^◌, Bool, false, ◌&&◌, ◌||◌, ltb, leb, ℤ, pos, negsuc, neg_ℤ, ◌+ℤ◌, int_le, int_lt}
use Rattle.gl_logic.specs.Object.{Object, Int, Cons, nil, true_object}
use Rattle.gl_logic.specs.ObjectEq.{object_eq, is_nil}
use Rattle.gl_logic.specs.Bytes.{is_signed_byte}
use Rattle.gl_logic.specs.Exp.{Exp, Exps}
use Rattle.gl_logic.specs.declared.prim.Primitive.TheVariants.{Consp, Integerp, Equal, Not, Less, UnsignedByteP, SignedByteP}
use Rattle.coverage.specs.Forms.{is_int, is_literal, one, two, either_order, is_prim, is_call}

-- ---- kinds
-- (consp s)
abbrev pub is_consp : (Exp → Bool) → Exp → Bool
is_consp subject = is_prim Consp (one subject)

-- (booleanp s)
abbrev pub is_booleanp : (Exp → Bool) → Exp → Bool
is_booleanp subject = is_call 21 (one subject)

-- (true-listp s)
abbrev pub is_true_listp : (Exp → Bool) → Exp → Bool
is_true_listp subject = is_call 26 (one subject)

-- (integerp s), (natp s) or (posp s)
abbrev pub is_number : (Exp → Bool) → Exp → Bool
is_number subject t = is_prim Integerp (one subject) t || (is_call 9 (one subject) t || is_call 10 (one subject) t)

-- ---- equality with a literal that passes a test, by equal, eq, eql or =, in either order
abbrev pub is_equality : (Exps → Bool) → Exp → Bool
is_equality test t = is_prim Equal test t || (is_call 3 test t || (is_call 4 test t || is_call 5 test t))

abbrev pub equals : (Object → Bool) → (Exp → Bool) → Exp → Bool
equals test subject = is_equality (either_order subject (is_literal test))

-- ---- (member-equal s 'l) where l is a proper list of objects that pass a test
abbrev pub are_all : (Object → Bool) → Object → Bool
are_all test (Cons a d) = test a && are_all test d
are_all test x = is_nil x

abbrev pub is_member : (Object → Bool) → (Exp → Bool) → Exp → Bool
is_member test subject = is_call 31 (two subject (is_literal (are_all test)))

-- ---- widths
-- one of n natural numbers from the least on
abbrev pub is_width_in : ℕ → ℕ → Object → Bool
is_width_in least n (Int (pos m)) = leb least m && ltb m (n + least)
is_width_in least n _ = false

-- (unsigned-byte-p 'm s) with 0 <= m < n
abbrev pub is_unsigned_row : ℕ → (Exp → Bool) → Exp → Bool
is_unsigned_row n subject = is_prim UnsignedByteP (two (is_literal (is_width_in 0 n)) subject)

-- (signed-byte-p 'm s) with 1 <= m <= n
abbrev pub is_signed_row : ℕ → (Exp → Bool) → Exp → Bool
is_signed_row n subject = is_prim SignedByteP (two (is_literal (is_width_in 1 n)) subject)

-- ---- bounds
-- a lower bound that passes a test: (natp s) is 0, (posp s) is 1, (< 'k s) is k + 1, (not (< s 'k)) is k
abbrev pub is_lower : (ℤ → Bool) → (Exp → Bool) → Exp → Bool
is_lower test subject t =
    (is_call 9 (one subject) t && test (pos 0))
    || ((is_call 10 (one subject) t && test (pos 1))
    || (is_prim Less (two (is_literal (is_int (λ k. test (k +ℤ pos 1)))) subject) t
    || is_prim Not (one (is_prim Less (two subject (is_literal (is_int test))))) t))

-- an upper bound that passes a test: (< s 'k) is k - 1, (not (< 'k s)) is k
abbrev pub is_upper : (ℤ → Bool) → (Exp → Bool) → Exp → Bool
is_upper test subject t =
    is_prim Less (two subject (is_literal (is_int (λ k. test (k +ℤ negsuc 0))))) t
    || is_prim Not (one (is_prim Less (two (is_literal (is_int test)) subject))) t

-- ---- the objects of an atom's shape
-- T and NIL
abbrev pub is_boolean : Object → Bool
is_boolean x = object_eq true_object x || object_eq nil x

-- an integer of so many bits, the sign among them: from lo = -2 ^ (n - 1) to hi = 2 ^ (n - 1) - 1
abbrev pub is_integer_of : ℕ → Object → Bool
is_integer_of n = is_int (is_signed_byte (pos n))

-- at least lo, at most hi
abbrev pub is_from : ℕ → ℤ → Bool
is_from n z = int_le (neg_ℤ (pos (2 ^ (n - 1)))) z

abbrev pub is_to : ℕ → ℤ → Bool
is_to n z = int_lt z (pos (2 ^ (n - 1)))
