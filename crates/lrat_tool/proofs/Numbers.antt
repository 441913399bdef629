-- Numbers by their digits.
use Rattle.std.proofs.Common.{◌≡◌, ◌∙◌, ap, sym, refl, ℕ, zero, suc, ℤ, pos, negsuc, Bool, false, cond, [], ◌∷◌, Option, Some, None, min, ◌+◌, ◌-◌, ◌*◌, ◌<◌, ◌≤◌, true, List, length, take, get_or, arith}
use Rattle.std.specs.Prelude.{◌&&◌, ◌==◌, nat_le, bytes_eq, codes, option_map, option_and_then}
use Rattle.std.specs.Char.{digit_value}
use Rattle.std.proofs.lemmas.Str.{digit_value_digit}
use Rattle.std.proofs.lemmas.Bool.{and_parts, cond_both, eqb-true, leb-true, le-leb}
use Rattle.std.proofs.lemmas.Bool.Decides.{nat_tests}
use Rattle.gl_logic.proofs.Optional.{none_some}
use Rattle.std.proofs.lemmas.Str.Parse.{digits_value-take-le}
use Rattle.std.specs.List.{list_all}
use Rattle.std.specs.Str.Parse.{digits_value}
use Rattle.std.proofs.lemmas.Int.Digits.{digits_value_more}
use Rattle.std.proofs.lemmas.List.Folds.{list_all_more}
use Rattle.lrat_tool.specs.Numbers.{at_most, integer_within, is_digit, is_numeral, is_zero, natural_within, negative}

pub digits_more : (word : List ℕ) (i : ℕ) → i < length word → list_all is_digit (take i word) ≡ true → is_digit (get_or word i 0) ≡ true → list_all is_digit (take (i + 1) word) ≡ true
digits_more word i l before here = list_all_more is_digit word i 0 l ∙ (λ j. before j && here j)

digit_is : (b : ℕ) → is_digit b ≡ true → digit_value b ≡ b - 48
digit_is b h = let p = and_parts (nat_le 48 b) (nat_le b 57) h in omega (arith, digit_value_digit b (leb-true 48 b p.0, leb-true b 57 p.1))

capped : (v d : ℕ) → min (min v 4294967296 * 10 + d) 4294967296 ≡ min (v * 10 + d) 4294967296
capped v d = omega arith

pub value_more : (word : List ℕ) (i : ℕ) → i < length word → is_digit (get_or word i 0) ≡ true → min (min (digits_value 10 (take i word)) 4294967296 * 10 + (get_or word i 0 - 48)) 4294967296 ≡ min (digits_value 10 (take (i + 1) word)) 4294967296
value_more word i l is =
    capped (digits_value 10 (take i word)) (get_or word i 0 - 48)
    ∙ ap (λ n. min n 4294967296) (ap (λ d. digits_value 10 (take i word) * 10 + d) (sym (digit_is (get_or word i 0) is)) ∙ sym (digits_value_more 10 word i l))

-- ---- bounds
at_most_wider : (m k n r : ℕ) → m ≤ k → at_most m n ≡ Some r → at_most k n ≡ Some r
at_most_wider m k n r le = cond_both (nat_le n m) (Some n) None (λ o. o ≡ Some r → at_most k n ≡ Some r)
    (λ e h. ap (λ b. cond b (Some n) None) (le-leb n k (omega (arith, leb-true n m e, le))) ∙ h)
    (λ e h. none_some _ h)

pub natural_wider : (m k : ℕ) (w : List ℕ) (r : ℕ) → m ≤ k → natural_within m w ≡ Some r → natural_within k w ≡ Some r
natural_wider m k w r le = cond_wider (is_numeral w)
  where
    cond_wider : (b : Bool) → cond b (at_most m (digits_value 10 w)) None ≡ Some r → cond b (at_most k (digits_value 10 w)) None ≡ Some r
    cond_wider true h = at_most_wider m k (digits_value 10 w) r le h
    cond_wider false h = none_some _ h

then_wider : {B : Type 0} (f : ℕ → Option B) (a b : Option ℕ) (z : B) → ((r : ℕ) → a ≡ Some r → b ≡ Some r) → option_and_then f a ≡ Some z → option_and_then f b ≡ Some z
then_wider f None b z h e = none_some _ e
then_wider f (Some r) b z h e = ap (option_and_then f) (h r refl) ∙ e

map_wider : (a b : Option ℕ) (z : ℤ) → ((r : ℕ) → a ≡ Some r → b ≡ Some r) → option_map pos a ≡ Some z → option_map pos b ≡ Some z
map_wider None b z h e = none_some _ e
map_wider (Some r) b z h e = ap (option_map pos) (h r refl) ∙ e

pub integer_wider : (m k : ℕ) (w : List ℕ) (z : ℤ) → m ≤ k → integer_within m w ≡ Some z → integer_within k w ≡ Some z
integer_wider m k [] z le = λ h. h
integer_wider m k (b ∷ bs) z le = by_sign (b == 45)
  where
    by_sign : (s : Bool) → cond s (option_and_then negative (natural_within m bs)) (option_map pos (natural_within m (b ∷ bs))) ≡ Some z → cond s (option_and_then negative (natural_within k bs)) (option_map pos (natural_within k (b ∷ bs))) ≡ Some z
    by_sign true h = then_wider negative (natural_within m bs) (natural_within k bs) z (λ r. natural_wider m k bs r le) h
    by_sign false h = map_wider (natural_within m (b ∷ bs)) (natural_within k (b ∷ bs)) z (λ r. natural_wider m k (b ∷ bs) r le) h

-- ---- the word 0 alone says 0
abbrev is_zero_or : Option ℤ → Bool
is_zero_or None = false
is_zero_or (Some z) = is_zero z

is_as : (z y : ℤ) → Some z ≡ Some y → is_zero y ≡ is_zero z
is_as z y e = ap is_zero_or (sym e)

negative_is : (o : Option ℕ) (z : ℤ) → option_and_then negative o ≡ Some z → is_zero z ≡ false
negative_is None z e = none_some _ e
negative_is (Some zero) z e = none_some _ e
negative_is (Some (suc n)) z e = is_as (negsuc n) z e

below_ten : (n : ℕ) → is_zero (pos n) ≡ (n == 0)
below_ten zero = refl
below_ten (suc n) = sym (apart n)
  where
    apart : (n : ℕ) → (suc n == 0) ≡ false
    apart n = grind (arith, nat_tests)

and_false : (b : Bool) → (b && false) ≡ false
and_false true = refl
and_false false = refl

first_digit : (b : ℕ) (bs : List ℕ) → is_digit b ≡ true → b - 48 ≤ digits_value 10 (b ∷ bs)
first_digit b bs is = omega (arith, digit_is b is, digits_value-take-le 10 (b ∷ bs) 1 (omega arith), digits_value_more 10 (b ∷ bs) 0 (omega arith))

same_tests : (x b : ℕ) → x ≡ b - 48 → 48 ≤ b → (x == 0) ≡ (b == 48)
same_tests x b e le = grind (arith, nat_tests)

not_none : (x b : ℕ) → b - 48 ≤ x → 49 ≤ b → (x == 0) ≡ false
not_none x b e le = grind (arith, nat_tests)

and_true : (b : Bool) → b ≡ (b && true)
and_true true = refl
and_true false = refl

said_zero : (b : ℕ) (bs : List ℕ) → is_numeral (b ∷ bs) ≡ true → (digits_value 10 (b ∷ bs) == 0) ≡ bytes_eq (b ∷ bs) (codes "0")
said_zero b [] is =
    same_tests (0 + digit_value b) b (omega (arith, digit_is b is)) (leb-true 48 b (and_parts (nat_le 48 b) (nat_le b 57) is).0) ∙ and_true (b == 48)
said_zero b (c ∷ cs) is =
    let p = and_parts (nat_le 49 b) (is_digit b && list_all is_digit (c ∷ cs)) is in
    let digit = (and_parts (is_digit b) (list_all is_digit (c ∷ cs)) p.1).0 in
    not_none (digits_value 10 (b ∷ c ∷ cs)) b (first_digit b (c ∷ cs) digit) (leb-true 49 b p.0) ∙ sym (and_false (b == 48))

no_minus : (b : ℕ) (bs : List ℕ) → (b == 45) ≡ true → bytes_eq (b ∷ bs) (codes "0") ≡ false
no_minus b bs e = ap (λ (n : ℕ). bytes_eq (n ∷ bs) (codes "0")) (eqb-true b 45 e)

natural_zero : (m b : ℕ) (bs : List ℕ) (z : ℤ) → option_map pos (natural_within m (b ∷ bs)) ≡ Some z → is_zero z ≡ bytes_eq (b ∷ bs) (codes "0")
natural_zero m b bs z = by_numeral (is_numeral (b ∷ bs)) (said_zero b bs)
  where
    by_most : (l : Bool) (n : ℕ) (t : Bool) → (n == 0) ≡ t → option_map pos (cond l (Some n) None) ≡ Some z → is_zero z ≡ t
    by_most true n t same h = is_as (pos n) z h ∙ below_ten n ∙ same
    by_most false n t same h = none_some _ h

    by_numeral : (d : Bool) → (d ≡ true → (digits_value 10 (b ∷ bs) == 0) ≡ bytes_eq (b ∷ bs) (codes "0")) → option_map pos (cond d (at_most m (digits_value 10 (b ∷ bs))) None) ≡ Some z → is_zero z ≡ bytes_eq (b ∷ bs) (codes "0")
    by_numeral true same h = by_most (nat_le (digits_value 10 (b ∷ bs)) m) (digits_value 10 (b ∷ bs)) (bytes_eq (b ∷ bs) (codes "0")) (same refl) h
    by_numeral false same h = none_some _ h

pub zero_word : (m : ℕ) (w : List ℕ) (z : ℤ) → integer_within m w ≡ Some z → is_zero z ≡ bytes_eq w (codes "0")
zero_word m [] z h = none_some _ h
zero_word m (b ∷ bs) z h =
    cond_both (b == 45) (option_and_then negative (natural_within m bs)) (option_map pos (natural_within m (b ∷ bs))) (λ o. o ≡ Some z → is_zero z ≡ bytes_eq (b ∷ bs) (codes "0"))
    (λ e k. negative_is (natural_within m bs) z k ∙ sym (no_minus b bs e)) (λ e k. natural_zero m b bs z k) h
