-- What a conjunct that is met says of the object that a subject denotes.
use Rattle.std.proofs.Common.{◌≡◌, ◌∙◌, ap, sym, refl, subst, ℕ, suc, ◌<◌, eqb, Bool, true, false, ◌&&◌, ◌||◌, length, List, [], ◌∷◌, ℤ, pos, negsuc, ◌+ℤ◌, int_lt, int_le, arith, ◌⊎◌, inl, inr}
use Rattle.std.proofs.lemmas.Int.{ints}
use Rattle.gl_logic.specs.Object.{Object, Int, Character, Symbol, Text, Cons, boolean_object}
use Rattle.gl_logic.specs.ObjectEq.{object_eq, is_nil}
use Rattle.gl_logic.specs.Bytes.{is_unsigned_byte, is_signed_byte}
use Rattle.gl_logic.specs.PrimValue.{both_integers, is_cons, is_integer, integer_in, prim_of}
use Rattle.gl_logic.specs.Definition.{Definition}
use Rattle.gl_logic.specs.Exp.{Exp, Exps, Var, Const, If, Prim, Call, Let}
use Rattle.gl_logic.specs.PrimCode.{prim_number}
use Rattle.gl_logic.specs.Walk.{opened}
use Rattle.gl_logic.specs.Ground.{ground}
use Rattle.gl_logic.specs.IsGround.{AreGround}
use Rattle.gl_logic.specs.declared.prim.Primitive.{Primitive}
use Rattle.gl_logic.specs.declared.prim.Primitive.TheVariants as prim
use Rattle.gl_logic.proofs.Equality.{equal_from}
use Rattle.coverage.specs.Forms.{is_int, is_literal, one, two, either_order, is_prim, is_call}
use Rattle.coverage.specs.Rows.{is_consp, is_booleanp, is_true_listp, is_number, equals, are_all, is_member, is_width_in, is_unsigned_row, is_signed_row, is_lower, is_upper, is_boolean, is_from, is_to}
use Rattle.coverage.proofs.Logic.{never, and_first, and_second, and_both, or_either, yes, no}
use Rattle.coverage.proofs.Bytes.{IsByte, byte_of, signed_byte_of, its_width}
use Rattle.coverage.proofs.Values.{prim_one_to}
use Rattle.coverage.proofs.Grounds.{GivesAt, is_list, is_in, eq_gives, eql_gives, equals_gives, natp_gives, posp_gives, booleanp_gives, list_gives, member_gives, equal_met}
use Rattle.coverage.proofs.Ranges.{Has, Denotes, int_form, literal_ranges, one_prim, one_call, two_prim, two_call, prim_form, one_form}

-- there are as many as is said by number
pub few : (f : ℕ) → f < 43 → f < length ground
unfolding ground
few f h = h

-- ---- integers
integer_kind : (x : Object) → is_integer x ≡ true → (z : ℤ) × (x ≡ Int z)
integer_kind (Int z) h = (z, refl)
integer_kind (Character k) h = never h
integer_kind (Symbol k) h = never h
integer_kind (Text k) h = never h
integer_kind (Cons a d) h = never h

-- an object in a list of objects that pass a test
pub all_pass : (test : Object → Bool) (x l : Object) → are_all test l ≡ true → is_in x l ≡ true → test x ≡ true
all_pass test x (Cons a d) h k = elim (or_either (object_eq x a) (is_in x d) k) [
  | inl e ↦ ap test (equal_from x a e) ∙ and_first (test a) (are_all test d) h
  | inr e ↦ all_pass test x d (and_second (test a) (are_all test d) h) e
]
all_pass test x (Int z) h k = never k
all_pass test x (Character z) h k = never k
all_pass test x (Symbol z) h k = never k
all_pass test x (Text z) h k = never k

up_from : (n : ℕ) (k z : ℤ) → is_from n k ≡ true → int_le k z ≡ true → is_from n z ≡ true
up_from n k z h g = grind (arith, ints, h, g)

down_to : (n : ℕ) (k z : ℤ) → is_to n k ≡ true → int_le z k ≡ true → is_to n z ≡ true
down_to n k z h g = grind (arith, ints, h, g)

below_above : (k z : ℤ) → int_lt k z ≡ true → int_le (k +ℤ pos 1) z ≡ true
below_above k z h = grind (arith, ints, h)

above_below : (z k : ℤ) → int_lt z k ≡ true → int_le z (k +ℤ negsuc 0) ≡ true
above_below z k h = grind (arith, ints, h)

not_below : (z k : ℤ) → int_lt z k ≡ false → int_le k z ≡ true
not_below z k h = grind (arith, ints, h)

from_zero : (j : ℕ) → int_le (pos 0) (pos j) ≡ true
from_zero j = grind (arith, ints)

from_one : (j : ℕ) → int_le (pos 1) (pos (suc j)) ≡ true
from_one j = grind (arith, ints)

-- ---- one of two tests of the arguments
either_prim : (p : Primitive) (f g : Exps → Bool) (t : Exp) → is_prim p (λ ts. f ts || g ts) t ≡ true → (is_prim p f t ≡ true) ⊎ (is_prim p g t ≡ true)
either_prim p f g (Prim q ts) h =
    let e = and_first (eqb (prim_number q) (prim_number p)) (f ts || g ts) h in
    elim (or_either (f ts) (g ts) (and_second (eqb (prim_number q) (prim_number p)) (f ts || g ts) h)) [
      | inl k ↦ inl (and_both e k)
      | inr k ↦ inr (and_both e k)
    ]
either_prim p f g (Var v) h = never h
either_prim p f g (Const x) h = never h
either_prim p f g (If a b d) h = never h
either_prim p f g (Call q ts) h = never h
either_prim p f g (Let vs ts b) h = never h

either_call : (p : ℕ) (f g : Exps → Bool) (t : Exp) → is_call p (λ ts. f ts || g ts) t ≡ true → (is_call p f t ≡ true) ⊎ (is_call p g t ≡ true)
either_call p f g (Call q ts) h =
    let e = and_first (eqb q p) (f ts || g ts) h in
    elim (or_either (f ts) (g ts) (and_second (eqb q p) (f ts || g ts) h)) [
      | inl k ↦ inl (and_both e k)
      | inr k ↦ inr (and_both e k)
    ]
either_call p f g (Var v) h = never h
either_call p f g (Const x) h = never h
either_call p f g (If a b d) h = never h
either_call p f g (Prim q ts) h = never h
either_call p f g (Let vs ts b) h = never h

module _ (ds : List Definition) (known : AreGround ds) (n : ℕ) (env : List (ℕ × Object)) where
  -- a term that is met
  abbrev pub Met : Exp → Type 0
  Met t = (z : Object) × (Has ds known n env t z × (is_nil z ≡ false))

  module _ (S : Exp → Bool) (x : Object) (denotes : Denotes ds known n env S x) where
    abbrev Is : Object → Type 0
    Is y = y ≡ x

    pub consp_met : (t : Exp) → is_consp S t ≡ true → Met t → is_cons x ≡ true
    consp_met t h m =
        let v = one_prim ds known n env S Is denotes prim.Consp t m.0 h m.1.0 in
        ap is_cons (sym v.1.0) ∙ yes (is_cons v.0) (ap is_nil (sym v.1.1) ∙ m.1.1)

    pub list_met : (t : Exp) → is_true_listp S t ≡ true → Met t → is_list x ≡ true
    list_met t h m =
        let v = one_call ds known n env S Is denotes 26 t m.0 (few 26 (omega arith)) h m.1.0 in
        ap is_list (sym v.1.0) ∙ list_gives n v.0 m.0 v.1.1 m.1.1

    pub boolean_met : (t : Exp) → is_booleanp S t ≡ true → Met t → is_boolean x ≡ true
    boolean_met t h m =
        let v = one_call ds known n env S Is denotes 21 t m.0 (few 21 (omega arith)) h m.1.0 in
        elim (booleanp_gives n v.0 m.0 v.1.1 m.1.1) [
          | inl e ↦ ap is_boolean (sym v.1.0 ∙ e)
          | inr e ↦ ap is_boolean (sym v.1.0 ∙ e)
        ]

    natp_met : (t : Exp) → is_call 9 (one S) t ≡ true → Met t → (k : ℕ) × (x ≡ Int (pos k))
    natp_met t h m =
        let v = one_call ds known n env S Is denotes 9 t m.0 (few 9 (omega arith)) h m.1.0 in
        let g = natp_gives n v.0 m.0 v.1.1 m.1.1 in
        (g.0, sym v.1.0 ∙ g.1)

    posp_met : (t : Exp) → is_call 10 (one S) t ≡ true → Met t → (k : ℕ) × (x ≡ Int (pos (suc k)))
    posp_met t h m =
        let v = one_call ds known n env S Is denotes 10 t m.0 (few 10 (omega arith)) h m.1.0 in
        let g = posp_gives n v.0 m.0 v.1.1 m.1.1 in
        (g.0, sym v.1.0 ∙ g.1)

    pub number_met : (t : Exp) → is_number S t ≡ true → Met t → (z : ℤ) × (x ≡ Int z)
    number_met t h m = elim (or_either (is_prim prim.Integerp (one S) t) (is_call 9 (one S) t || is_call 10 (one S) t) h) [
      | inl k ↦
          let v = one_prim ds known n env S Is denotes prim.Integerp t m.0 k m.1.0 in
          integer_kind x (ap is_integer (sym v.1.0) ∙ yes (is_integer v.0) (ap is_nil (sym v.1.1) ∙ m.1.1))
      | inr k ↦ elim (or_either (is_call 9 (one S) t) (is_call 10 (one S) t) k) [
        | inl l ↦ let g = natp_met t l m in (pos g.0, g.1)
        | inr l ↦ let g = posp_met t l m in (pos (suc g.0), g.1)
      ]
    ]

    -- ---- equality
    module _ (test : Object → Bool) where
      abbrev Passes : Object → Type 0
      Passes y = test y ≡ true

      -- what is said where the value is that of equality
      passes_first : (y w z : Object) → y ≡ x → test w ≡ true → z ≡ boolean_object (object_eq y w) → is_nil z ≡ false → test x ≡ true
      passes_first y w z e h v m = ap test (sym e ∙ equal_met y w z v m) ∙ h

      passes_second : (y w z : Object) → test y ≡ true → w ≡ x → z ≡ boolean_object (object_eq y w) → is_nil z ≡ false → test x ≡ true
      passes_second y w z h e v m = ap test (sym (equal_met y w z v m ∙ e)) ∙ h

      prim_order : (t : Exp) → is_prim prim.Equal (either_order S (is_literal test)) t ≡ true → (is_prim prim.Equal (two S (is_literal test)) t ≡ true) ⊎ (is_prim prim.Equal (two (is_literal test) S) t ≡ true)
      prim_order t h = either_prim prim.Equal (two S (is_literal test)) (two (is_literal test) S) t h

      equal_prim_met : (t : Exp) → is_prim prim.Equal (either_order S (is_literal test)) t ≡ true → Met t → test x ≡ true
      equal_prim_met t h m = elim (prim_order t h) [
        | inl k ↦ let v = two_prim ds known n env S Is denotes (is_literal test) Passes (literal_ranges ds known n env test) prim.Equal t m.0 k m.1.0 in passes_first v.0 v.1.0 m.0 v.1.1.0 v.1.1.1 v.1.1.2 m.1.1
        | inr k ↦ let v = two_prim ds known n env (is_literal test) Passes (literal_ranges ds known n env test) S Is denotes prim.Equal t m.0 k m.1.0 in passes_second v.0 v.1.0 m.0 v.1.1.0 v.1.1.1 v.1.1.2 m.1.1
      ]

      equal_call_met : (f : ℕ) → f < length ground → ((y w z : Object) → GivesAt n f (y ∷ w ∷ []) z → z ≡ boolean_object (object_eq y w)) → (t : Exp) → is_call f (either_order S (is_literal test)) t ≡ true → Met t → test x ≡ true
      equal_call_met f l gives t h m = elim (either_call f (two S (is_literal test)) (two (is_literal test) S) t h) [
        | inl k ↦ let v = two_call ds known n env S Is denotes (is_literal test) Passes (literal_ranges ds known n env test) f t m.0 l k m.1.0 in passes_first v.0 v.1.0 m.0 v.1.1.0 v.1.1.1 (gives v.0 v.1.0 m.0 v.1.1.2) m.1.1
        | inr k ↦ let v = two_call ds known n env (is_literal test) Passes (literal_ranges ds known n env test) S Is denotes f t m.0 l k m.1.0 in passes_second v.0 v.1.0 m.0 v.1.1.0 v.1.1.1 (gives v.0 v.1.0 m.0 v.1.1.2) m.1.1
      ]

      abbrev asked : Exps → Bool
      asked = either_order S (is_literal test)

      pub equals_met : (t : Exp) → equals test S t ≡ true → Met t → test x ≡ true
      equals_met t h m = elim (or_either (is_prim prim.Equal asked t) (is_call 3 asked t || (is_call 4 asked t || is_call 5 asked t)) h) [
        | inl k ↦ equal_prim_met t k m
        | inr k ↦ elim (or_either (is_call 3 asked t) (is_call 4 asked t || is_call 5 asked t) k) [
          | inl l ↦ equal_call_met 3 (few 3 (omega arith)) (eq_gives n) t l m
          | inr l ↦ elim (or_either (is_call 4 asked t) (is_call 5 asked t) l) [
            | inl j ↦ equal_call_met 4 (few 4 (omega arith)) (eql_gives n) t j m
            | inr j ↦ equal_call_met 5 (few 5 (omega arith)) (equals_gives n) t j m
          ]
        ]
      ]

      pub member_met : (t : Exp) → is_member test S t ≡ true → Met t → test x ≡ true
      member_met t h m =
          let v = two_call ds known n env S Is denotes (is_literal (are_all test)) (λ y. are_all test y ≡ true) (literal_ranges ds known n env (are_all test)) 31 t m.0 (few 31 (omega arith)) h m.1.0 in
          all_pass test x v.1.0 v.1.1.1 (ap (λ y. is_in y v.1.0) (sym v.1.1.0) ∙ member_gives n v.0 v.1.0 m.0 v.1.1.2 m.1.1)

    -- ---- bytes
    module _ (k : ℕ) where
      pub unsigned_met : (t : Exp) → is_unsigned_row k S t ≡ true → Met t → IsByte k x
      unsigned_met t h m =
          let v = two_prim ds known n env (is_literal (is_width_in 0 k)) (λ y. is_width_in 0 k y ≡ true) (literal_ranges ds known n env (is_width_in 0 k)) S Is denotes prim.UnsignedByteP t m.0 h m.1.0 in
          let w = its_width 0 k v.0 v.1.1.0 in
          byte_of k w.width x (omega (arith, w.below))
          ((λ i. both_integers is_unsigned_byte (sym w.is i) (sym v.1.1.1 i)) ∙ yes (both_integers is_unsigned_byte v.0 v.1.0) (ap is_nil (sym v.1.1.2) ∙ m.1.1))

      pub signed_met : (t : Exp) → is_signed_row k S t ≡ true → Met t → IsByte k x
      signed_met t h m =
          let v = two_prim ds known n env (is_literal (is_width_in 1 k)) (λ y. is_width_in 1 k y ≡ true) (literal_ranges ds known n env (is_width_in 1 k)) S Is denotes prim.SignedByteP t m.0 h m.1.0 in
          let w = its_width 1 k v.0 v.1.1.0 in
          signed_byte_of k w.width x (omega (arith, w.below))
          ((λ i. both_integers is_signed_byte (sym w.is i) (sym v.1.1.1 i)) ∙ yes (both_integers is_signed_byte v.0 v.1.0) (ap is_nil (sym v.1.1.2) ∙ m.1.1))

    -- ---- bounds of an integer
    module _ (k : ℕ) (i : ℤ) (whole : x ≡ Int i) where
      -- the value of (< y w)
      less_value : (y w z : Object) (j l : ℤ) → y ≡ Int j → w ≡ Int l → z ≡ prim_of prim.Less y w → z ≡ boolean_object (int_lt j l)
      less_value y w z j l e f h = h ∙ (λ p. boolean_object (int_lt (integer_in (e p)) (integer_in (f p))))

      -- (not ..) is met where its argument is NIL
      not_met : (test : Exps → Bool) (t : Exp) → is_prim prim.Not (one (is_prim prim.Less test)) t ≡ true → Met t → (u : Exp) × ((is_prim prim.Less test u ≡ true) × ((y : Object) × (Has ds known n env u y × (is_nil y ≡ true))))
      not_met test t h m =
          let f = prim_form prim.Not (one (is_prim prim.Less test)) t h in
          let a = one_form (is_prim prim.Less test) f.0 f.1.1 in
          let v = prim_one_to (opened ds n) env prim.Not a.0 m.0 (subst (λ u. Has ds known n env u m.0) (f.1.0 ∙ ap (Prim prim.Not) a.1.0) m.1.0) in
          (a.0, (a.1.1, (v.0, (v.1.0, yes (is_nil v.0) (ap is_nil (sym v.1.1) ∙ m.1.1)))))

      itself : (y : Object) → y ≡ x → y ≡ Int i
      itself y e = e ∙ whole

      same_int : (j : ℤ) → x ≡ Int j → j ≡ i
      same_int j e = let q : Int j ≡ Int i = sym e ∙ whole in cc

      by_natp : (t : Exp) → (is_call 9 (one S) t && is_from k (pos 0)) ≡ true → Met t → is_from k i ≡ true
      by_natp t h m =
          let g = natp_met t (and_first (is_call 9 (one S) t) (is_from k (pos 0)) h) m in
          let l : is_from k (pos g.0) ≡ true = up_from k (pos 0) (pos g.0) (and_second (is_call 9 (one S) t) (is_from k (pos 0)) h) (from_zero g.0) in
          subst (λ j. is_from k j ≡ true) (same_int (pos g.0) g.1) l

      by_posp : (t : Exp) → (is_call 10 (one S) t && is_from k (pos 1)) ≡ true → Met t → is_from k i ≡ true
      by_posp t h m =
          let g = posp_met t (and_first (is_call 10 (one S) t) (is_from k (pos 1)) h) m in
          let l : is_from k (pos (suc g.0)) ≡ true = up_from k (pos 1) (pos (suc g.0)) (and_second (is_call 10 (one S) t) (is_from k (pos 1)) h) (from_one g.0) in
          subst (λ j. is_from k j ≡ true) (same_int (pos (suc g.0)) g.1) l

      -- (< 'j s) and (< s 'j), where these have the value z
      literal_first : (test : ℤ → Bool) (t : Exp) (z : Object) → is_prim prim.Less (two (is_literal (is_int test)) S) t ≡ true → Has ds known n env t z → (j : ℤ) × ((test j ≡ true) × (z ≡ boolean_object (int_lt j i)))
      literal_first test t z h g =
          let v = two_prim ds known n env (is_literal (is_int test)) (λ y. is_int test y ≡ true) (literal_ranges ds known n env (is_int test)) S Is denotes prim.Less t z h g in
          let w = int_form test v.0 v.1.1.0 in
          (w.0, (w.1.1, less_value v.0 v.1.0 z w.0 i w.1.0 (itself v.1.0 v.1.1.1) v.1.1.2))

      literal_second : (test : ℤ → Bool) (t : Exp) (z : Object) → is_prim prim.Less (two S (is_literal (is_int test))) t ≡ true → Has ds known n env t z → (j : ℤ) × ((test j ≡ true) × (z ≡ boolean_object (int_lt i j)))
      literal_second test t z h g =
          let v = two_prim ds known n env S Is denotes (is_literal (is_int test)) (λ y. is_int test y ≡ true) (literal_ranges ds known n env (is_int test)) prim.Less t z h g in
          let w = int_form test v.1.0 v.1.1.1 in
          (w.0, (w.1.1, less_value v.0 v.1.0 z i w.0 (itself v.0 v.1.1.0) w.1.0 v.1.1.2))

      by_less : (t : Exp) → is_prim prim.Less (two (is_literal (is_int (λ j. is_from k (j +ℤ pos 1)))) S) t ≡ true → Met t → is_from k i ≡ true
      by_less t h m =
          let v = literal_first (λ j. is_from k (j +ℤ pos 1)) t m.0 h m.1.0 in
          up_from k (v.0 +ℤ pos 1) i v.1.0 (below_above v.0 i (yes (int_lt v.0 i) (ap is_nil (sym v.1.1) ∙ m.1.1)))

      by_not_less : (t : Exp) → is_prim prim.Not (one (is_prim prim.Less (two S (is_literal (is_int (is_from k)))))) t ≡ true → Met t → is_from k i ≡ true
      by_not_less t h m =
          let u = not_met (two S (is_literal (is_int (is_from k)))) t h m in
          let v = literal_second (is_from k) u.0 u.1.1.0 u.1.0 u.1.1.1.0 in
          up_from k v.0 i v.1.0 (not_below i v.0 (no (int_lt i v.0) (ap is_nil (sym v.1.1) ∙ u.1.1.1.1)))

      pub lower_met : (t : Exp) → is_lower (is_from k) S t ≡ true → Met t → is_from k i ≡ true
      lower_met t h m = elim (or_either (is_call 9 (one S) t && is_from k (pos 0)) _ h) [
        | inl g ↦ by_natp t g m
        | inr g ↦ elim (or_either (is_call 10 (one S) t && is_from k (pos 1)) _ g) [
          | inl f ↦ by_posp t f m
          | inr f ↦ elim (or_either (is_prim prim.Less (two (is_literal (is_int (λ j. is_from k (j +ℤ pos 1)))) S) t) _ f) [
            | inl e ↦ by_less t e m
            | inr e ↦ by_not_less t e m
          ]
        ]
      ]

      pub upper_met : (t : Exp) → is_upper (is_to k) S t ≡ true → Met t → is_to k i ≡ true
      upper_met t h m = elim (or_either (is_prim prim.Less (two S (is_literal (is_int (λ j. is_to k (j +ℤ negsuc 0))))) t) _ h) [
        | inl g ↦
            let v = literal_second (λ j. is_to k (j +ℤ negsuc 0)) t m.0 g m.1.0 in
            down_to k (v.0 +ℤ negsuc 0) i v.1.0 (above_below i v.0 (yes (int_lt i v.0) (ap is_nil (sym v.1.1) ∙ m.1.1)))
        | inr g ↦
            let u = not_met (two (is_literal (is_int (is_to k))) S) t g m in
            let v = literal_first (is_to k) u.0 u.1.1.0 u.1.0 u.1.1.1.0 in
            down_to k v.0 i v.1.0 (not_below v.0 i (no (int_lt v.0 i) (ap is_nil (sym v.1.1) ∙ u.1.1.1.1)))
      ]
