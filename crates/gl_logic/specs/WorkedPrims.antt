-- Values of primitives, computed outside this project.
use Rattle.std.specs.Prelude.{◌≡◌, List, [], ◌∷◌, pos, negsuc}
use Rattle.gl_logic.specs.Object.{Object, Int, Character, Symbol, Text, Cons, nil, true_object}
use Rattle.gl_logic.specs.PrimValue.{prim_value}
use Rattle.gl_logic.specs.declared.prim.Primitive.{Primitive}
use Rattle.gl_logic.specs.declared.prim.Primitive.TheVariants as prim

pub record PrimRow : Type 0 where
  pub primitive : Primitive
  pub args : List Object
  pub value : Object

abbrev pub AreRight : List PrimRow → Type 0
AreRight [] = Unit {0}
AreRight (r ∷ rs) = (prim_value r.primitive r.args ≡ r.value) × AreRight rs

abbrev row : Primitive → List Object → Object → PrimRow
row p args value = record { primitive = p; args = args; value = value }

-- symbols and strings other than NIL and T have any numbers here
unfoldable pub worked_prims : List PrimRow
worked_prims =
    -- (consp (code-char 0))
    row prim.Consp ((Character 0) ∷ []) nil
    -- (consp 128)
    ∷ row prim.Consp ((Int (pos 128)) ∷ []) nil
    -- (integerp '(a . b))
    ∷ row prim.Integerp ((Cons (Symbol 4) (Symbol 5)) ∷ []) nil
    -- (integerp -100)
    ∷ row prim.Integerp ((Int (negsuc 99)) ∷ []) true_object
    -- (symbolp (code-char 1))
    ∷ row prim.Symbolp ((Character 1) ∷ []) nil
    -- (symbolp :k)
    ∷ row prim.Symbolp ((Symbol 6) ∷ []) true_object
    -- (stringp 85070591730234615865843651857942052864)
    ∷ row prim.Stringp ((Int (pos 85070591730234615865843651857942052864)) ∷ []) nil
    -- (stringp 'a)
    ∷ row prim.Stringp ((Symbol 4) ∷ []) nil
    -- (characterp '(a . b))
    ∷ row prim.Characterp ((Cons (Symbol 4) (Symbol 5)) ∷ []) nil
    -- (cons '((1) (2 . 3) nil) (code-char 1))
    ∷ row prim.Cons ((Cons (Cons (Int (pos 1)) nil) (Cons (Cons (Int (pos 2)) (Int (pos 3))) (Cons nil nil))) ∷ (Character 1) ∷ []) (Cons (Cons (Cons (Int (pos 1)) nil) (Cons (Cons (Int (pos 2)) (Int (pos 3))) (Cons nil nil))) (Character 1))
    -- (car '(t nil t))
    ∷ row prim.Car ((Cons true_object (Cons nil (Cons true_object nil))) ∷ []) true_object
    -- (car "")
    ∷ row prim.Car ((Text 7) ∷ []) nil
    -- (car -1)
    ∷ row prim.Car ((Int (negsuc 0)) ∷ []) nil
    -- (cdr '(nil))
    ∷ row prim.Cdr ((Cons nil nil) ∷ []) nil
    -- (equal "a\"b" '(a))
    ∷ row prim.Equal ((Text 8) ∷ (Cons (Symbol 4) nil) ∷ []) nil
    -- (equal #x0 -100)
    ∷ row prim.Equal ((Int (pos 0)) ∷ (Int (negsuc 99)) ∷ []) nil
    -- (not '(nil))
    ∷ row prim.Not ((Cons nil nil) ∷ []) nil
    -- (not :k)
    ∷ row prim.Not ((Symbol 6) ∷ []) nil
    -- (char-code (code-char 31))
    ∷ row prim.CharCode ((Character 31) ∷ []) (Int (pos 31))
    -- (char-code (code-char 300))
    ∷ row prim.CharCode ((Character 0) ∷ []) (Int (pos 0))
    -- (char-code 'b)
    ∷ row prim.CharCode ((Symbol 5) ∷ []) (Int (pos 0))
    -- (code-char "a b\\")
    ∷ row prim.CodeChar ((Text 9) ∷ []) (Character 0)
    -- (code-char 254)
    ∷ row prim.CodeChar ((Int (pos 254)) ∷ []) (Character 254)
    -- (code-char 65536)
    ∷ row prim.CodeChar ((Int (pos 65536)) ∷ []) (Character 0)
    -- (code-char #\Z)
    ∷ row prim.CodeChar ((Character 90) ∷ []) (Character 0)
    -- (binary-+ -256 7)
    ∷ row prim.BinaryPlus ((Int (negsuc 255)) ∷ (Int (pos 7)) ∷ []) (Int (negsuc 248))
    -- (binary-+ "ab" #x2)
    ∷ row prim.BinaryPlus ((Text 10) ∷ (Int (pos 2)) ∷ []) (Int (pos 2))
    -- (binary-+ #\Tab -10)
    ∷ row prim.BinaryPlus ((Character 9) ∷ (Int (negsuc 9)) ∷ []) (Int (negsuc 9))
    -- (binary-* -21284883351842359724 28)
    ∷ row prim.BinaryTimes ((Int (negsuc 21284883351842359723)) ∷ (Int (pos 28)) ∷ []) (Int (negsuc 595976733851586072271))
    -- (binary-* -2147483648 -3)
    ∷ row prim.BinaryTimes ((Int (negsuc 2147483647)) ∷ (Int (negsuc 2)) ∷ []) (Int (pos 6442450944))
    -- (binary-* +2684096968939266137 '(1 2 . 3))
    ∷ row prim.BinaryTimes ((Int (pos 2684096968939266137)) ∷ (Cons (Int (pos 1)) (Cons (Int (pos 2)) (Int (pos 3)))) ∷ []) (Int (pos 0))
    -- (unary-- -85070591730234615865843651857942052864)
    ∷ row prim.UnaryMinus ((Int (negsuc 85070591730234615865843651857942052863)) ∷ []) (Int (pos 85070591730234615865843651857942052864))
    -- (unary-- '(1 2 . 3))
    ∷ row prim.UnaryMinus ((Cons (Int (pos 1)) (Cons (Int (pos 2)) (Int (pos 3)))) ∷ []) (Int (pos 0))
    -- (< '(a) 5)
    ∷ row prim.Less ((Cons (Symbol 4) nil) ∷ (Int (pos 5)) ∷ []) true_object
    -- (< t :k)
    ∷ row prim.Less (true_object ∷ (Symbol 6) ∷ []) nil
    -- (< "ab" (code-char 1))
    ∷ row prim.Less ((Text 10) ∷ (Character 1) ∷ []) nil
    -- (< 7 +9)
    ∷ row prim.Less ((Int (pos 7)) ∷ (Int (pos 9)) ∷ []) true_object
    -- (< 6 -37886)
    ∷ row prim.Less ((Int (pos 6)) ∷ (Int (negsuc 37885)) ∷ []) nil
    -- (floor 8 nil)
    ∷ row prim.Floor ((Int (pos 8)) ∷ nil ∷ []) (Int (pos 0))
    -- (floor -7 -3)
    ∷ row prim.Floor ((Int (negsuc 6)) ∷ (Int (negsuc 2)) ∷ []) (Int (pos 2))
    -- (floor -129 +100)
    ∷ row prim.Floor ((Int (negsuc 128)) ∷ (Int (pos 100)) ∷ []) (Int (negsuc 1))
    -- (floor 170141183460469231731687303715884105727 -2)
    ∷ row prim.Floor ((Int (pos 170141183460469231731687303715884105727)) ∷ (Int (negsuc 1)) ∷ []) (Int (negsuc 85070591730234615865843651857942052863))
    -- (floor -7 -2)
    ∷ row prim.Floor ((Int (negsuc 6)) ∷ (Int (negsuc 1)) ∷ []) (Int (pos 3))
    -- (floor 170141183460469231731687303715884105727 0)
    ∷ row prim.Floor ((Int (pos 170141183460469231731687303715884105727)) ∷ (Int (pos 0)) ∷ []) (Int (pos 0))
    -- (floor -170141183460469231731687303715884105728 -3)
    ∷ row prim.Floor ((Int (negsuc 170141183460469231731687303715884105727)) ∷ (Int (negsuc 2)) ∷ []) (Int (pos 56713727820156410577229101238628035242))
    -- (floor 7 0)
    ∷ row prim.Floor ((Int (pos 7)) ∷ (Int (pos 0)) ∷ []) (Int (pos 0))
    -- (floor 1 -5574436)
    ∷ row prim.Floor ((Int (pos 1)) ∷ (Int (negsuc 5574435)) ∷ []) (Int (negsuc 0))
    -- (floor -170141183460469231731687303715884105728 -2)
    ∷ row prim.Floor ((Int (negsuc 170141183460469231731687303715884105727)) ∷ (Int (negsuc 1)) ∷ []) (Int (pos 85070591730234615865843651857942052864))
    -- (floor -7 -8)
    ∷ row prim.Floor ((Int (negsuc 6)) ∷ (Int (negsuc 7)) ∷ []) (Int (pos 0))
    -- (floor 170141183460469231731687303715884105727 -1)
    ∷ row prim.Floor ((Int (pos 170141183460469231731687303715884105727)) ∷ (Int (negsuc 0)) ∷ []) (Int (negsuc 170141183460469231731687303715884105726))
    -- (mod -170141183460469231731687303715884105728 0)
    ∷ row prim.Mod ((Int (negsuc 170141183460469231731687303715884105727)) ∷ (Int (pos 0)) ∷ []) (Int (negsuc 170141183460469231731687303715884105727))
    -- (mod -8 3)
    ∷ row prim.Mod ((Int (negsuc 7)) ∷ (Int (pos 3)) ∷ []) (Int (pos 1))
    -- (mod -7 2)
    ∷ row prim.Mod ((Int (negsuc 6)) ∷ (Int (pos 2)) ∷ []) (Int (pos 1))
    -- (mod 7 -2)
    ∷ row prim.Mod ((Int (pos 7)) ∷ (Int (negsuc 1)) ∷ []) (Int (negsuc 0))
    -- (mod 27531344654817069359 -152925685055964)
    ∷ row prim.Mod ((Int (pos 27531344654817069359)) ∷ (Int (negsuc 152925685055963)) ∷ []) (Int (negsuc 19351493185524))
    -- (mod 8 -3)
    ∷ row prim.Mod ((Int (pos 8)) ∷ (Int (negsuc 2)) ∷ []) (Int (negsuc 0))
    -- (mod 170141183460469231731687303715884105727 "a b\\")
    ∷ row prim.Mod ((Int (pos 170141183460469231731687303715884105727)) ∷ (Text 9) ∷ []) (Int (pos 170141183460469231731687303715884105727))
    -- (mod -16 #\Space)
    ∷ row prim.Mod ((Int (negsuc 15)) ∷ (Character 32) ∷ []) (Int (negsuc 15))
    -- (truncate 170141183460469231731687303715884105727 -3)
    ∷ row prim.Truncate ((Int (pos 170141183460469231731687303715884105727)) ∷ (Int (negsuc 2)) ∷ []) (Int (negsuc 56713727820156410577229101238628035241))
    -- (truncate 3 0)
    ∷ row prim.Truncate ((Int (pos 3)) ∷ (Int (pos 0)) ∷ []) (Int (pos 0))
    -- (truncate 170141183460469231731687303715884105727 3)
    ∷ row prim.Truncate ((Int (pos 170141183460469231731687303715884105727)) ∷ (Int (pos 3)) ∷ []) (Int (pos 56713727820156410577229101238628035242))
    -- (truncate -8 -8)
    ∷ row prim.Truncate ((Int (negsuc 7)) ∷ (Int (negsuc 7)) ∷ []) (Int (pos 1))
    -- (truncate 170141183460469231731687303715884105727 2)
    ∷ row prim.Truncate ((Int (pos 170141183460469231731687303715884105727)) ∷ (Int (pos 2)) ∷ []) (Int (pos 85070591730234615865843651857942052863))
    -- (truncate -256 t)
    ∷ row prim.Truncate ((Int (negsuc 255)) ∷ true_object ∷ []) (Int (pos 0))
    -- (rem 170141183460469231731687303715884105727 -2)
    ∷ row prim.Rem ((Int (pos 170141183460469231731687303715884105727)) ∷ (Int (negsuc 1)) ∷ []) (Int (pos 1))
    -- (rem 0 nil)
    ∷ row prim.Rem ((Int (pos 0)) ∷ nil ∷ []) (Int (pos 0))
    -- (rem -170141183460469231731687303715884105727 +5358754477783038630523296769)
    ∷ row prim.Rem ((Int (negsuc 170141183460469231731687303715884105726)) ∷ (Int (pos 5358754477783038630523296769)) ∷ []) (Int (negsuc 248776719318880131773521726))
    -- (rem 170141183460469231731687303715884105727 -1)
    ∷ row prim.Rem ((Int (pos 170141183460469231731687303715884105727)) ∷ (Int (negsuc 0)) ∷ []) (Int (pos 0))
    -- (rem 7 2)
    ∷ row prim.Rem ((Int (pos 7)) ∷ (Int (pos 2)) ∷ []) (Int (pos 1))
    -- (rem 8 -8)
    ∷ row prim.Rem ((Int (pos 8)) ∷ (Int (negsuc 7)) ∷ []) (Int (pos 0))
    -- (rem 170141183460469231731687303715884105727 -3)
    ∷ row prim.Rem ((Int (pos 170141183460469231731687303715884105727)) ∷ (Int (negsuc 2)) ∷ []) (Int (pos 1))
    -- (rem 7 -1)
    ∷ row prim.Rem ((Int (pos 7)) ∷ (Int (negsuc 0)) ∷ []) (Int (pos 0))
    -- (ash 257 -127)
    ∷ row prim.Ash ((Int (pos 257)) ∷ (Int (negsuc 126)) ∷ []) (Int (pos 0))
    -- (ash -5 -126)
    ∷ row prim.Ash ((Int (negsuc 4)) ∷ (Int (negsuc 125)) ∷ []) (Int (negsuc 0))
    -- (ash -2093 -128)
    ∷ row prim.Ash ((Int (negsuc 2092)) ∷ (Int (negsuc 127)) ∷ []) (Int (negsuc 0))
    -- (ash 1 -5000)
    ∷ row prim.Ash ((Int (pos 1)) ∷ (Int (negsuc 4999)) ∷ []) (Int (pos 0))
    -- (ash -1 -300)
    ∷ row prim.Ash ((Int (negsuc 0)) ∷ (Int (negsuc 299)) ∷ []) (Int (negsuc 0))
    -- (ash -2843507 7)
    ∷ row prim.Ash ((Int (negsuc 2843506)) ∷ (Int (pos 7)) ∷ []) (Int (negsuc 363968895))
    -- (ash #x-100 31)
    ∷ row prim.Ash ((Int (negsuc 255)) ∷ (Int (pos 31)) ∷ []) (Int (negsuc 549755813887))
    -- (ash -100 3)
    ∷ row prim.Ash ((Int (negsuc 99)) ∷ (Int (pos 3)) ∷ []) (Int (negsuc 799))
    -- (ash -1 -1)
    ∷ row prim.Ash ((Int (negsuc 0)) ∷ (Int (negsuc 0)) ∷ []) (Int (negsuc 0))
    -- (ash 16555206 100)
    ∷ row prim.Ash ((Int (pos 16555206)) ∷ (Int (pos 100)) ∷ []) (Int (pos 20986216822801984757034629885859987456))
    -- (ash '(1 2 . 3) 126)
    ∷ row prim.Ash ((Cons (Int (pos 1)) (Cons (Int (pos 2)) (Int (pos 3)))) ∷ (Int (pos 126)) ∷ []) (Int (pos 0))
    -- (ash -1759 nil)
    ∷ row prim.Ash ((Int (negsuc 1758)) ∷ nil ∷ []) (Int (negsuc 1758))
    -- (binary-logand -706641261989112581010927502072171699 9223372036854775808)
    ∷ row prim.BinaryLogand ((Int (negsuc 706641261989112581010927502072171698)) ∷ (Int (pos 9223372036854775808)) ∷ []) (Int (pos 9223372036854775808))
    -- (binary-logand -9223372036854775809 2)
    ∷ row prim.BinaryLogand ((Int (negsuc 9223372036854775808)) ∷ (Int (pos 2)) ∷ []) (Int (pos 2))
    -- (binary-logand -1101 '(a))
    ∷ row prim.BinaryLogand ((Int (negsuc 1100)) ∷ (Cons (Symbol 4) nil) ∷ []) (Int (pos 0))
    -- (binary-logior -5357609439651824765 986300752935338975984760214342296277)
    ∷ row prim.BinaryLogior ((Int (negsuc 5357609439651824764)) ∷ (Int (pos 986300752935338975984760214342296277)) ∷ []) (Int (negsuc 4614509986386543656))
    -- (binary-logior -2698 14)
    ∷ row prim.BinaryLogior ((Int (negsuc 2697)) ∷ (Int (pos 14)) ∷ []) (Int (negsuc 2689))
    -- (binary-logior -128 -7)
    ∷ row prim.BinaryLogior ((Int (negsuc 127)) ∷ (Int (negsuc 6)) ∷ []) (Int (negsuc 6))
    -- (binary-logxor -743724325444780533094945434905847973 4)
    ∷ row prim.BinaryLogxor ((Int (negsuc 743724325444780533094945434905847972)) ∷ (Int (pos 4)) ∷ []) (Int (negsuc 743724325444780533094945434905847968))
    -- (binary-logxor -100 2)
    ∷ row prim.BinaryLogxor ((Int (negsuc 99)) ∷ (Int (pos 2)) ∷ []) (Int (negsuc 97))
    -- (binary-logxor 6327962437604730556 -220492216713160)
    ∷ row prim.BinaryLogxor ((Int (pos 6327962437604730556)) ∷ (Int (negsuc 220492216713159)) ∷ []) (Int (negsuc 6328042112062413179))
    -- (binary-logxor #x-720 2)
    ∷ row prim.BinaryLogxor ((Int (negsuc 1823)) ∷ (Int (pos 2)) ∷ []) (Int (negsuc 1821))
    -- (binary-logxor -129 2)
    ∷ row prim.BinaryLogxor ((Int (negsuc 128)) ∷ (Int (pos 2)) ∷ []) (Int (negsuc 130))
    -- (lognot #x40000000000000000000000000000000)
    ∷ row prim.Lognot ((Int (pos 85070591730234615865843651857942052864)) ∷ []) (Int (negsuc 85070591730234615865843651857942052864))
    -- (lognot '(1 2 . 3))
    ∷ row prim.Lognot ((Cons (Int (pos 1)) (Cons (Int (pos 2)) (Int (pos 3)))) ∷ []) (Int (negsuc 0))
    -- (lognot 127)
    ∷ row prim.Lognot ((Int (pos 127)) ∷ []) (Int (negsuc 127))
    -- (logbitp -1 -85070591730234615865843651857942052864)
    ∷ row prim.Logbitp ((Int (negsuc 0)) ∷ (Int (negsuc 85070591730234615865843651857942052863)) ∷ []) nil
    -- (logbitp 1 -1)
    ∷ row prim.Logbitp ((Int (pos 1)) ∷ (Int (negsuc 0)) ∷ []) true_object
    -- (logbitp -5 -9223372036854775808)
    ∷ row prim.Logbitp ((Int (negsuc 4)) ∷ (Int (negsuc 9223372036854775807)) ∷ []) nil
    -- (logbitp 7 #x-3)
    ∷ row prim.Logbitp ((Int (pos 7)) ∷ (Int (negsuc 2)) ∷ []) true_object
    -- (logbitp '(1) #xFFFFFFFFFFFFFFFF)
    ∷ row prim.Logbitp ((Cons (Int (pos 1)) nil) ∷ (Int (pos 18446744073709551615)) ∷ []) true_object
    -- (logbitp 1 #x5D9F0B84D5141400ED77650E0D9B66)
    ∷ row prim.Logbitp ((Int (pos 1)) ∷ (Int (pos 486109423590124554285302098925820774)) ∷ []) true_object
    -- (logbitp -1 -9223372036854775808)
    ∷ row prim.Logbitp ((Int (negsuc 0)) ∷ (Int (negsuc 9223372036854775807)) ∷ []) nil
    -- (integer-length t)
    ∷ row prim.IntegerLength (true_object ∷ []) (Int (pos 0))
    -- (integer-length -1)
    ∷ row prim.IntegerLength ((Int (negsuc 0)) ∷ []) (Int (pos 0))
    -- (integer-length -6465907249406614159)
    ∷ row prim.IntegerLength ((Int (negsuc 6465907249406614158)) ∷ []) (Int (pos 63))
    -- (integer-length 4294967295)
    ∷ row prim.IntegerLength ((Int (pos 4294967295)) ∷ []) (Int (pos 32))
    -- (integer-length 16)
    ∷ row prim.IntegerLength ((Int (pos 16)) ∷ []) (Int (pos 5))
    -- (unsigned-byte-p "x" 0)
    ∷ row prim.UnsignedByteP ((Text 11) ∷ (Int (pos 0)) ∷ []) nil
    -- (unsigned-byte-p 127 170141183460469231731687303715884105727)
    ∷ row prim.UnsignedByteP ((Int (pos 127)) ∷ (Int (pos 170141183460469231731687303715884105727)) ∷ []) true_object
    -- (unsigned-byte-p 128 0)
    ∷ row prim.UnsignedByteP ((Int (pos 128)) ∷ (Int (pos 0)) ∷ []) true_object
    -- (unsigned-byte-p 2 4)
    ∷ row prim.UnsignedByteP ((Int (pos 2)) ∷ (Int (pos 4)) ∷ []) nil
    -- (unsigned-byte-p 2 -2)
    ∷ row prim.UnsignedByteP ((Int (pos 2)) ∷ (Int (negsuc 1)) ∷ []) nil
    -- (unsigned-byte-p -1 #\a)
    ∷ row prim.UnsignedByteP ((Int (negsuc 0)) ∷ (Character 97) ∷ []) nil
    -- (unsigned-byte-p 127 -1)
    ∷ row prim.UnsignedByteP ((Int (pos 127)) ∷ (Int (negsuc 0)) ∷ []) nil
    -- (signed-byte-p -1 2)
    ∷ row prim.SignedByteP ((Int (negsuc 0)) ∷ (Int (pos 2)) ∷ []) nil
    -- (signed-byte-p 1 1)
    ∷ row prim.SignedByteP ((Int (pos 1)) ∷ (Int (pos 1)) ∷ []) nil
    -- (signed-byte-p 1 -1)
    ∷ row prim.SignedByteP ((Int (pos 1)) ∷ (Int (negsuc 0)) ∷ []) true_object
    -- (signed-byte-p 8 128)
    ∷ row prim.SignedByteP ((Int (pos 8)) ∷ (Int (pos 128)) ∷ []) nil
    -- (signed-byte-p 127 -128)
    ∷ row prim.SignedByteP ((Int (pos 127)) ∷ (Int (negsuc 127)) ∷ []) true_object
    -- (signed-byte-p 126 9223372036854775808)
    ∷ row prim.SignedByteP ((Int (pos 126)) ∷ (Int (pos 9223372036854775808)) ∷ []) true_object
    -- (signed-byte-p 0 -1)
    ∷ row prim.SignedByteP ((Int (pos 0)) ∷ (Int (negsuc 0)) ∷ []) nil
    -- (signed-byte-p t -70317312419700603533585907839)
    ∷ row prim.SignedByteP (true_object ∷ (Int (negsuc 70317312419700603533585907838)) ∷ []) nil
    -- (signed-byte-p 2 5)
    ∷ row prim.SignedByteP ((Int (pos 2)) ∷ (Int (pos 5)) ∷ []) nil
    ∷ []
