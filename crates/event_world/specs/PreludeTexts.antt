-- The ground definitions as they are spelled, each as it stands behind `defun`.
use Rattle.std.specs.Prelude.{ℕ, List, [], ◌∷◌, codes}

unfoldable pub ground_texts : List (List ℕ)
ground_texts =
    codes "ATOM (X) (NOT (CONSP X))"
    ∷ codes "ENDP (X) (ATOM X)"
    ∷ codes "NULL (X) (EQUAL X NIL)"
    ∷ codes "EQ (X Y) (EQUAL X Y)"
    ∷ codes "EQL (X Y) (EQUAL X Y)"
    ∷ codes "= (X Y) (EQUAL X Y)"
    ∷ codes "HONS-EQUAL (X Y) (EQUAL X Y)"
    ∷ codes "ZP (X) (IF (INTEGERP X) (<= X 0) T)"
    ∷ codes "ZIP (X) (IF (INTEGERP X) (EQUAL X 0) T)"
    ∷ codes "NATP (X) (IF (INTEGERP X) (<= 0 X) NIL)"
    ∷ codes "POSP (X) (IF (INTEGERP X) (< 0 X) NIL)"
    ∷ codes "NFIX (X) (IF (NATP X) X 0)"
    ∷ codes "IFIX (X) (IF (INTEGERP X) X 0)"
    ∷ codes "ZEROP (X) (EQUAL X 0)"
    ∷ codes "PLUSP (X) (< 0 X)"
    ∷ codes "MINUSP (X) (< X 0)"
    ∷ codes "MIN (X Y) (IF (< X Y) X Y)"
    ∷ codes "MAX (X Y) (IF (< Y X) X Y)"
    ∷ codes "ABS (X) (IF (< X 0) (- X) X)"
    ∷ codes "EVENP (X) (EQUAL (MOD X 2) 0)"
    ∷ codes "ODDP (X) (NOT (EVENP X))"
    ∷ codes "BOOLEANP (X) (IF (EQUAL X T) T (EQUAL X NIL))"
    ∷ codes "IMPLIES (P Q) (IF P (IF Q T NIL) T)"
    ∷ codes "IFF (P Q) (IF P (IF Q T NIL) (IF Q NIL T))"
    ∷ codes "XOR (P Q) (IF P (IF Q NIL T) (IF Q T NIL))"
    ∷ codes "LEN (X) (IF (CONSP X) (+ 1 (LEN (CDR X))) 0)"
    ∷ codes "TRUE-LISTP (X) (IF (CONSP X) (TRUE-LISTP (CDR X)) (EQUAL X NIL))"
    ∷ codes "BINARY-APPEND (X Y) (IF (ENDP X) Y (CONS (CAR X) (BINARY-APPEND (CDR X) Y)))"
    ∷ codes "NTH (N L) (IF (ENDP L) NIL (IF (ZP N) (CAR L) (NTH (- N 1) (CDR L))))"
    ∷ codes "NTHCDR (N L) (IF (ZP N) L (NTHCDR (- N 1) (CDR L)))"
    ∷ codes "UPDATE-NTH (N V L) (IF (ZP N) (CONS V (CDR L)) (CONS (CAR L) (UPDATE-NTH (- N 1) V (CDR L))))"
    ∷ codes "MEMBER-EQUAL (X L) (IF (ENDP L) NIL (IF (EQUAL X (CAR L)) L (MEMBER-EQUAL X (CDR L))))"
    ∷ codes "ASSOC-EQUAL (X A) (IF (ENDP A) NIL (IF (EQUAL X (CAR (CAR A))) (CAR A) (ASSOC-EQUAL X (CDR A))))"
    ∷ codes "LOGCOUNT-NAT (X) (IF (ZP X) 0 (+ (MOD X 2) (LOGCOUNT-NAT (FLOOR X 2))))"
    ∷ codes "LOGCOUNT (X) (IF (INTEGERP X) (IF (< X 0) (LOGCOUNT-NAT (LOGNOT X)) (LOGCOUNT-NAT X)) 0)"
    ∷ codes "HONS (X Y) (CONS X Y)"
    ∷ codes "HONS-COPY (X) X"
    ∷ codes "HONS-ACONS (K V A) (CONS (CONS K V) A)"
    ∷ codes "MAKE-FAST-ALIST (A) A"
    ∷ codes "FAST-ALIST-FREE (A) A"
    ∷ codes "HONS-ASSOC-EQUAL (K A) (IF (ATOM A) NIL (IF (AND (CONSP (CAR A)) (EQUAL K (CAR (CAR A)))) (CAR A) (HONS-ASSOC-EQUAL K (CDR A))))"
    ∷ codes "HONS-GET (K A) (HONS-ASSOC-EQUAL K A)"
    ∷ codes "FAST-ALIST-FORK (A ANS) (IF (ATOM A) ANS (IF (ATOM (CAR A)) (FAST-ALIST-FORK (CDR A) ANS) (IF (HONS-ASSOC-EQUAL (CAR (CAR A)) ANS) (FAST-ALIST-FORK (CDR A) ANS) (FAST-ALIST-FORK (CDR A) (CONS (CAR A) ANS)))))" ∷ []

-- their names
unfoldable pub ground_names : List (List ℕ)
ground_names =
    codes "ATOM" ∷ codes "ENDP" ∷ codes "NULL" ∷ codes "EQ" ∷ codes "EQL" ∷ codes "="
    ∷ codes "HONS-EQUAL" ∷ codes "ZP" ∷ codes "ZIP" ∷ codes "NATP" ∷ codes "POSP" ∷ codes "NFIX"
    ∷ codes "IFIX" ∷ codes "ZEROP" ∷ codes "PLUSP" ∷ codes "MINUSP" ∷ codes "MIN" ∷ codes "MAX"
    ∷ codes "ABS" ∷ codes "EVENP" ∷ codes "ODDP" ∷ codes "BOOLEANP" ∷ codes "IMPLIES" ∷ codes "IFF"
    ∷ codes "XOR" ∷ codes "LEN" ∷ codes "TRUE-LISTP" ∷ codes "BINARY-APPEND" ∷ codes "NTH" ∷ codes "NTHCDR"
    ∷ codes "UPDATE-NTH" ∷ codes "MEMBER-EQUAL" ∷ codes "ASSOC-EQUAL" ∷ codes "LOGCOUNT-NAT" ∷ codes "LOGCOUNT" ∷ codes "HONS"
    ∷ codes "HONS-COPY" ∷ codes "HONS-ACONS" ∷ codes "MAKE-FAST-ALIST" ∷ codes "FAST-ALIST-FREE" ∷ codes "HONS-ASSOC-EQUAL" ∷ codes "HONS-GET"
    ∷ codes "FAST-ALIST-FORK" ∷ []

-- the names of their formals
unfoldable pub ground_formals : List (List (List ℕ))
ground_formals =
    (codes "X" ∷ [])
    ∷ (codes "X" ∷ [])
    ∷ (codes "X" ∷ [])
    ∷ (codes "X" ∷ codes "Y" ∷ [])
    ∷ (codes "X" ∷ codes "Y" ∷ [])
    ∷ (codes "X" ∷ codes "Y" ∷ [])
    ∷ (codes "X" ∷ codes "Y" ∷ [])
    ∷ (codes "X" ∷ [])
    ∷ (codes "X" ∷ [])
    ∷ (codes "X" ∷ [])
    ∷ (codes "X" ∷ [])
    ∷ (codes "X" ∷ [])
    ∷ (codes "X" ∷ [])
    ∷ (codes "X" ∷ [])
    ∷ (codes "X" ∷ [])
    ∷ (codes "X" ∷ [])
    ∷ (codes "X" ∷ codes "Y" ∷ [])
    ∷ (codes "X" ∷ codes "Y" ∷ [])
    ∷ (codes "X" ∷ [])
    ∷ (codes "X" ∷ [])
    ∷ (codes "X" ∷ [])
    ∷ (codes "X" ∷ [])
    ∷ (codes "P" ∷ codes "Q" ∷ [])
    ∷ (codes "P" ∷ codes "Q" ∷ [])
    ∷ (codes "P" ∷ codes "Q" ∷ [])
    ∷ (codes "X" ∷ [])
    ∷ (codes "X" ∷ [])
    ∷ (codes "X" ∷ codes "Y" ∷ [])
    ∷ (codes "N" ∷ codes "L" ∷ [])
    ∷ (codes "N" ∷ codes "L" ∷ [])
    ∷ (codes "N" ∷ codes "V" ∷ codes "L" ∷ [])
    ∷ (codes "X" ∷ codes "L" ∷ [])
    ∷ (codes "X" ∷ codes "A" ∷ [])
    ∷ (codes "X" ∷ [])
    ∷ (codes "X" ∷ [])
    ∷ (codes "X" ∷ codes "Y" ∷ [])
    ∷ (codes "X" ∷ [])
    ∷ (codes "K" ∷ codes "V" ∷ codes "A" ∷ [])
    ∷ (codes "A" ∷ [])
    ∷ (codes "A" ∷ [])
    ∷ (codes "K" ∷ codes "A" ∷ [])
    ∷ (codes "K" ∷ codes "A" ∷ [])
    ∷ (codes "A" ∷ codes "ANS" ∷ []) ∷ []

-- their words but NIL and T, each once, in the order in which they are read: each definition from its end to its front
unfoldable pub ground_words : List (List ℕ)
ground_words =
    codes "X" ∷ codes "CONSP" ∷ codes "NOT" ∷ codes "ATOM" ∷ codes "ENDP" ∷ codes "EQUAL"
    ∷ codes "NULL" ∷ codes "Y" ∷ codes "EQ" ∷ codes "EQL" ∷ codes "=" ∷ codes "HONS-EQUAL"
    ∷ codes "<=" ∷ codes "INTEGERP" ∷ codes "IF" ∷ codes "ZP" ∷ codes "ZIP" ∷ codes "NATP"
    ∷ codes "<" ∷ codes "POSP" ∷ codes "NFIX" ∷ codes "IFIX" ∷ codes "ZEROP" ∷ codes "PLUSP"
    ∷ codes "MINUSP" ∷ codes "MIN" ∷ codes "MAX" ∷ codes "-" ∷ codes "ABS" ∷ codes "MOD"
    ∷ codes "EVENP" ∷ codes "ODDP" ∷ codes "BOOLEANP" ∷ codes "Q" ∷ codes "P" ∷ codes "IMPLIES"
    ∷ codes "IFF" ∷ codes "XOR" ∷ codes "CDR" ∷ codes "LEN" ∷ codes "+" ∷ codes "TRUE-LISTP"
    ∷ codes "BINARY-APPEND" ∷ codes "CAR" ∷ codes "CONS" ∷ codes "L" ∷ codes "N" ∷ codes "NTH"
    ∷ codes "NTHCDR" ∷ codes "V" ∷ codes "UPDATE-NTH" ∷ codes "MEMBER-EQUAL" ∷ codes "A" ∷ codes "ASSOC-EQUAL"
    ∷ codes "FLOOR" ∷ codes "LOGCOUNT-NAT" ∷ codes "LOGNOT" ∷ codes "LOGCOUNT" ∷ codes "HONS" ∷ codes "HONS-COPY"
    ∷ codes "K" ∷ codes "HONS-ACONS" ∷ codes "MAKE-FAST-ALIST" ∷ codes "FAST-ALIST-FREE" ∷ codes "HONS-ASSOC-EQUAL" ∷ codes "AND"
    ∷ codes "HONS-GET" ∷ codes "ANS" ∷ codes "FAST-ALIST-FORK" ∷ []
