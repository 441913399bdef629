-- Division of integers that are not negative, a bit at a time, and what it says of the signed ones.
use Rattle.std.proofs.Common.{◌≡◌, ◌≢◌, ℕ, zero, suc, ◌+◌, ◌-◌, ◌*◌, ◌/◌, ◌%◌, ◌<◌, ◌≤◌, Bool, true, false, not, cond, List, [], ◌∷◌, length, take, ℤ, pos, negsuc, ◌+ℤ◌, ◌-ℤ◌, ◌*ℤ◌, neg_ℤ, ◌<ℤ◌, ◌≤ℤ◌, int_lt, refl, sym, ◌∙◌, ap, arith}
use Rattle.std.proofs.lemmas.Int.{ints}
use Rattle.std.proofs.lemmas.Bool.{false≢true}
use Rattle.std.proofs.lemmas.Nat.{div-mul-add}
use Rattle.std.specs.Ordering.{int_eq}
use Rattle.bfr_store.specs.Edges.{xor}
use Rattle.gl_logic.specs.Quotients.{floor_by, floor_ℤ, mod_ℤ, truncate_ℤ, rem_ℤ}
use Rattle.gl_logic.specs.Bitwise.{not_ℤ, xor_ℤ}
use Rattle.gl_logic.specs.TwosComplement.{digit, integer_of, bit_of}
use Rattle.gl_logic.proofs.TwosComplement.{Within, signed, list_within}
use Rattle.sym_bits.specs.Columns.{sign_value, shifted}
use Rattle.sym_bits.specs.Dividing.{Divides}
use Rattle.sym_bits.proofs.Columns.{shifted_none, shifted_next}
use Rattle.sym_bits.proofs.Comparing.{lt_holds, lt_shows, eq_holds}
use Rattle.sym_bits.proofs.Floors.{shifted_far, lowest_part, not_below}
use Rattle.sym_bits.proofs.Ring.{sum_times}

-- what is not negative and below the integer of a list has as few bits
pub below_list : (ds xs : List Bool) (z : ℤ) → pos 0 ≤ℤ z → z <ℤ integer_of ds → integer_of xs ≡ z → integer_of (take (length ds) xs) ≡ z
below_list [] xs z l h e = absurd (omega (arith, ints, l, h))
below_list (b ∷ bs) xs z l h e =
    let d = list_within b bs in
    let w : Within (length bs) z = record { least = omega (arith, ints, l); most = omega (arith, ints, h, d.most) } in
    lowest_part (length bs) xs (signed (length bs) (integer_of xs) (rw e w)) ∙ e

not_less : (i : ℤ) → int_lt i (pos 0) ≡ false → pos 0 ≤ℤ i
not_less i h = grind (arith, ints, h)

at_least : (b : Bool) (v r : ℤ) → v ≡ digit b +ℤ (r +ℤ r) → pos 0 ≤ℤ r → pos 0 ≤ℤ v
at_least true v r e h = omega (arith, ints, e, h)
at_least false v r e h = omega (arith, ints, e, h)

at_most : (b : Bool) (v r d t : ℤ) → v ≡ digit b +ℤ (r +ℤ r) → r <ℤ d → t ≡ v -ℤ d → t <ℤ d
at_most true v r d t e h f = omega (arith, ints, e, h, f)
at_most false v r d t e h f = omega (arith, ints, e, h, f)

at_least_zero : (i : ℤ) → pos 0 ≤ℤ i → int_lt i (pos 0) ≡ false
at_least_zero i h = grind (arith, ints, h)

no_rest : (d : ℤ) → (pos 0 *ℤ d) +ℤ pos 0 ≡ pos 0
no_rest d = omega (arith, ints)

-- ---- one turn
module _ (v d t r w u : ℤ) (b : Bool) (is : v ≡ digit b +ℤ (r +ℤ r)) (least : pos 0 ≤ℤ r) (most : r <ℤ d) (trial : t ≡ v -ℤ d)
    (whole : pos 0 ≤ℤ v → v <ℤ d → w ≡ v) (less : pos 0 ≤ℤ t → t <ℤ d → u ≡ t) where
  some : pos 0 ≤ℤ v
  some = at_least b v r is least

  by_less : (l : Bool) → l ≡ int_lt t (pos 0) → (m : ℤ) → m ≡ cond l w u → Divides v d (digit (not l)) m
  by_less true e m em =
      let below : v <ℤ d = let h = lt_holds t (pos 0) (sym e) in omega (arith, ints, h, trial) in
      let same : m ≡ v = em ∙ whole some below in
      record { whole = omega (arith, ints, same); least = omega (arith, ints, same, some); most = omega (arith, ints, same, below) }
  by_less false e m em =
      let more : pos 0 ≤ℤ t = not_less t (sym e) in
      let below : t <ℤ d = at_most b v r d t is most trial in
      let same : m ≡ t = em ∙ less more below in
      record { whole = omega (arith, ints, same, trial); least = omega (arith, ints, same, more); most = omega (arith, ints, same, below) }

pub turn_step : (v d t r w u m : ℤ) (b l n : Bool) → v ≡ digit b +ℤ (r +ℤ r) → pos 0 ≤ℤ r → r <ℤ d → t ≡ v -ℤ d → (pos 0 ≤ℤ v → v <ℤ d → w ≡ v) → (pos 0 ≤ℤ t → t <ℤ d → u ≡ t)
    → l ≡ int_lt t (pos 0) → m ≡ cond l w u → n ≡ not l → Divides (digit b +ℤ (r +ℤ r)) d (digit n) m
turn_step v d t r w u m b l n is least most trial whole less el em en =
    let s = by_less v d t r w u b is least most trial whole less l el m em in
    record { whole = sym is ∙ (s.whole ∙ ap (λ x. (digit x *ℤ d) +ℤ m) (sym en)); least = s.least; most = s.most }

regroup : (i p r : ℤ) → i +ℤ ((p +ℤ r) +ℤ (p +ℤ r)) ≡ (p +ℤ p) +ℤ (i +ℤ (r +ℤ r))
regroup i p r = omega (arith, ints)

regroup_more : (p o r : ℤ) → (p +ℤ p) +ℤ (o +ℤ r) ≡ (o +ℤ (p +ℤ p)) +ℤ r
regroup_more p o r = omega (arith, ints)

-- one more bit of the dividend
pub divides_more : (d s q r m n : ℤ) (b o : Bool) → Divides s d q r → Divides (digit b +ℤ (r +ℤ r)) d (digit o) m → n ≡ digit o +ℤ (q +ℤ q) → Divides (digit b +ℤ (s +ℤ s)) d n m
divides_more d s q r m n b o h k e = record {
  whole =
      (λ i. digit b +ℤ (h.whole i +ℤ h.whole i))
      ∙ (regroup (digit b) (q *ℤ d) r
      ∙ (ap (λ y. ((q *ℤ d) +ℤ (q *ℤ d)) +ℤ y) k.whole
      ∙ (regroup_more (q *ℤ d) (digit o *ℤ d) m
      ∙ ap (λ y. y +ℤ m) (sym (sum_times (digit o) (q +ℤ q) d ∙ ap (λ y. (digit o *ℤ d) +ℤ y) (sum_times q q d)) ∙ ap (λ y. y *ℤ d) (sym e)))));
  least = k.least;
  most = k.most;
}

pub divides_next : (bs : List Bool) (k i j : ℕ) (d q r m n : ℤ) (b o : Bool) → i ≡ k + 1 → j ≡ k → b ≡ bit_of bs k → Divides (shifted bs i) d q r → Divides (digit b +ℤ (r +ℤ r)) d (digit o) m → n ≡ digit o +ℤ (q +ℤ q) → Divides (shifted bs j) d n m
divides_next bs k i j d q r m n b o ei ej eb h f e =
    let s = divides_more d (shifted bs i) q r m n b o h f e in
    record { whole = (ap (shifted bs) ej ∙ (shifted_next bs k ∙ (λ x. digit (sym eb x) +ℤ (shifted bs (sym ei x) +ℤ shifted bs (sym ei x))))) ∙ s.whole; least = s.least; most = s.most }

-- before the first bit
pub divides_none : (bs : List Bool) (n : ℕ) (d q r : ℤ) → length bs ≤ n + 1 → pos 0 ≤ℤ integer_of bs → pos 0 <ℤ d → q ≡ pos 0 → r ≡ pos 0 → Divides (shifted bs n) d q r
divides_none bs n d q r l h p eq er =
    let zero_high : shifted bs n ≡ pos 0 = shifted_far bs n l ∙ ap sign_value (at_least_zero (integer_of bs) h) in
    record { whole = zero_high ∙ (sym (no_rest d) ∙ (λ i. (sym eq i *ℤ d) +ℤ sym er i)); least = omega (arith, ints, er); most = omega (arith, ints, er, p) }

-- after the last
pub divides_all : (bs : List Bool) (n : ℕ) (d q r : ℤ) → n ≡ 0 → Divides (shifted bs n) d q r → Divides (integer_of bs) d q r
divides_all bs n d q r e h = record { whole = sym (ap (shifted bs) e ∙ shifted_none bs) ∙ h.whole; least = h.least; most = h.most }

pub same_divides : (n d e q r : ℤ) → e ≡ d → Divides n e q r → Divides n d q r
same_divides n d e q r s h = record { whole = h.whole ∙ ap (λ y. (q *ℤ y) +ℤ r) s; least = h.least; most = omega (arith, ints, h.most, s) }

-- ---- integers with a sign
quotient_is : (a e : ℕ) (q r : ℤ) → Divides (pos a) (pos (suc e)) q r → q ≡ pos (a / suc e)
quotient_is a e (pos j) (pos l) h =
    let is : a ≡ j * suc e + l = let w = h.whole in omega (arith, ints, w) in
    let low : l < suc e = omega (arith, ints, h.most) in
    ap pos (sym (ap (λ n. n / suc e) is ∙ div-mul-add j (suc e) l low))
quotient_is a e (pos j) (negsuc l) h = absurd (omega (arith, ints, h.least))
quotient_is a e (negsuc j) (pos l) h = let w = h.whole in absurd (omega (arith, ints, w, h.most))
quotient_is a e (negsuc j) (negsuc l) h = absurd (omega (arith, ints, h.least))

left_over : (n f d r : ℤ) → n ≡ (f *ℤ d) +ℤ r → r ≡ n -ℤ (f *ℤ d)
left_over n f d r e = omega (arith, ints, e)

left_of : (n q f d r : ℤ) → n ≡ (q *ℤ d) +ℤ r → q ≡ f → r ≡ n -ℤ (f *ℤ d)
left_of n q f d r e s = left_over n f d r (e ∙ ap (λ y. (y *ℤ d) +ℤ r) s)

from_none : (i : ℤ) → pos 0 +ℤ i ≡ i
from_none i = omega (arith, ints)

next_row : (k : ℕ) (d : ℤ) → negsuc k *ℤ d ≡ (neg_ℤ (pos k *ℤ d)) -ℤ d
next_row k d = omega (arith, ints)

turn_over : (d r n p m : ℤ) → n ≡ p +ℤ r → m ≡ (neg_ℤ p) -ℤ d → d +ℤ not_ℤ r ≡ not_ℤ n -ℤ m
turn_over d (pos l) (pos n) p m e f = omega (arith, ints, e, f)
turn_over d (pos l) (negsuc n) p m e f = omega (arith, ints, e, f)
turn_over d (negsuc l) (pos n) p m e f = omega (arith, ints, e, f)
turn_over d (negsuc l) (negsuc n) p m e f = omega (arith, ints, e, f)

-- a dividend with a sign by a divisor above 0
pub record Floors (i d q r : ℤ) : Type 0 where
  pub quotient : q ≡ floor_ℤ i d
  pub rest : r ≡ mod_ℤ i d

-- the sign of an integer
not_under : (n : ℕ) → true ≡ int_lt (pos n) (pos 0) → ⊥
not_under n e = false≢true (sym (e ∙ not_below n))

not_over : (n : ℕ) → false ≡ int_lt (negsuc n) (pos 0) → ⊥
not_over n e = false≢true e

pub floor_parts : (i d q r : ℤ) (s : Bool) → s ≡ int_lt i (pos 0) → pos 0 <ℤ d → Divides (cond s (not_ℤ i) i) d q r → Floors i d (cond s (not_ℤ q) q) (cond s d (pos 0) +ℤ cond s (not_ℤ r) r)
floor_parts i (pos zero) q r s es p h = absurd (omega (arith, ints, p))
floor_parts i (negsuc e) q r s es p h = absurd (omega (arith, ints, p))
floor_parts (pos a) (pos (suc e)) q r true es p h = absurd (not_under a es)
floor_parts (pos a) (pos (suc e)) q r false es p h =
    let is : q ≡ pos (a / suc e) = quotient_is a e q r h in
    record { quotient = is; rest = from_none r ∙ left_of (pos a) q (pos (a / suc e)) (pos (suc e)) r h.whole is }
floor_parts (negsuc a) (pos (suc e)) q r false es p h = absurd (not_over a es)
floor_parts (negsuc a) (pos (suc e)) q r true es p h =
    let is : q ≡ pos (a / suc e) = quotient_is a e q r h in
    record {
      quotient = ap not_ℤ is;
      rest = turn_over (pos (suc e)) r (pos a) (pos (a / suc e) *ℤ pos (suc e)) (negsuc (a / suc e) *ℤ pos (suc e)) (h.whole ∙ ap (λ y. (y *ℤ pos (suc e)) +ℤ r) is) (next_row (a / suc e) (pos (suc e)));
    }

-- ---- a divisor with a sign
neg_neg : (i : ℤ) → neg_ℤ (neg_ℤ i) ≡ i
neg_neg i = omega (arith, ints)

other_side : (i f : ℤ) (e : ℕ) → neg_ℤ (neg_ℤ i -ℤ (f *ℤ pos (suc e))) ≡ i -ℤ (f *ℤ negsuc e)
other_side i f e = omega (arith, ints)

nothing_left : (i : ℤ) → i ≡ i -ℤ (pos 0 *ℤ pos 0)
nothing_left i = omega (arith, ints)

zero_only : (j : ℤ) → j ≢ pos 0 → true ≡ int_eq j (pos 0) → ⊥
zero_only j n e = n (eq_holds j (pos 0) (sym e))

pub floor_signed : (i j q r : ℤ) (t z : Bool) → t ≡ int_lt j (pos 0) → z ≡ int_eq j (pos 0) → (j ≢ pos 0 → Floors (cond t (neg_ℤ i) i) (cond t (neg_ℤ j) j) q r)
    → (cond z (pos 0) q ≡ floor_ℤ i j) × (cond z i (cond t (neg_ℤ r) r) ≡ mod_ℤ i j)
floor_signed i (pos zero) q r t true et ez h = (refl, nothing_left i)
floor_signed i (pos zero) q r t false et ez h = absurd (false≢true ez)
floor_signed i (pos (suc e)) q r t true et ez h = absurd (zero_only (pos (suc e)) (λ z. cc) ez)
floor_signed i (pos (suc e)) q r true false et ez h = absurd (not_under (suc e) et)
floor_signed i (pos (suc e)) q r false false et ez h = let f = h (λ z. cc) in (f.quotient, f.rest)
floor_signed i (negsuc e) q r t true et ez h = absurd (zero_only (negsuc e) (λ z. cc) ez)
floor_signed i (negsuc e) q r false false et ez h = absurd (not_over e et)
floor_signed i (negsuc e) q r true false et ez h = let f = h (λ z. cc) in (f.quotient, ap neg_ℤ f.rest ∙ other_side i (floor_by (neg_ℤ i) (suc e)) e)

-- rounded toward 0
rem_other : (n f d r i g : ℤ) → r ≡ n -ℤ (f *ℤ d) → neg_ℤ n ≡ i → (neg_ℤ (f *ℤ d)) ≡ g → neg_ℤ r ≡ i -ℤ g
rem_other n f d r i g e s t = omega (arith, ints, e, s, t)

rem_same : (n f d r g : ℤ) → r ≡ n -ℤ (f *ℤ d) → f *ℤ d ≡ g → r ≡ n -ℤ g
rem_same n f d r g e t = omega (arith, ints, e, t)

both_turned : (k e : ℕ) → pos k *ℤ pos (suc e) ≡ neg_ℤ (pos k) *ℤ negsuc e
both_turned zero e = omega (arith, ints)
both_turned (suc k) e = omega (arith, ints)

first_turned : (k e : ℕ) → neg_ℤ (pos k *ℤ pos (suc e)) ≡ neg_ℤ (pos k) *ℤ pos (suc e)
first_turned zero e = omega (arith, ints)
first_turned (suc k) e = omega (arith, ints)

second_turned : (k e : ℕ) → neg_ℤ (pos k *ℤ pos (suc e)) ≡ pos k *ℤ negsuc e
second_turned k e = omega (arith, ints)

-- by a divisor that is not 0
truncate_parts : (i j q r : ℤ) (s t : Bool) → s ≡ int_lt i (pos 0) → t ≡ int_lt j (pos 0) → j ≢ pos 0 → Divides (cond s (neg_ℤ i) i) (cond t (neg_ℤ j) j) q r
    → (cond (xor s t) (neg_ℤ q) q ≡ truncate_ℤ i j) × (cond s (neg_ℤ r) r ≡ rem_ℤ i j)
truncate_parts i (pos zero) q r s t es et n d = absurd (n refl)
truncate_parts (pos a) j q r true t es et n d = absurd (not_under a es)
truncate_parts (negsuc a) j q r false t es et n d = absurd (not_over a es)
truncate_parts i (pos (suc e)) q r s true es et n d = absurd (not_under (suc e) et)
truncate_parts i (negsuc e) q r s false es et n d = absurd (not_over e et)
truncate_parts (pos a) (pos (suc e)) q r false false es et n d =
    let is = quotient_is a e q r d in
    (is, left_of (pos a) q (pos (a / suc e)) (pos (suc e)) r d.whole is)
truncate_parts (pos a) (negsuc e) q r false true es et n d =
    let is = quotient_is a e q r d in
    (ap neg_ℤ is, rem_same (pos a) (pos (a / suc e)) (pos (suc e)) r (neg_ℤ (pos (a / suc e)) *ℤ negsuc e) (left_of (pos a) q (pos (a / suc e)) (pos (suc e)) r d.whole is) (both_turned (a / suc e) e))
truncate_parts (negsuc a) (pos (suc e)) q r true false es et n d =
    let is = quotient_is (suc a) e q r d in
    (ap neg_ℤ is, rem_other (pos (suc a)) (pos (suc a / suc e)) (pos (suc e)) r (negsuc a) (neg_ℤ (pos (suc a / suc e)) *ℤ pos (suc e)) (left_of (pos (suc a)) q (pos (suc a / suc e)) (pos (suc e)) r d.whole is) refl (first_turned (suc a / suc e) e))
truncate_parts (negsuc a) (negsuc e) q r true true es et n d =
    let is = quotient_is (suc a) e q r d in
    (is, rem_other (pos (suc a)) (pos (suc a / suc e)) (pos (suc e)) r (negsuc a) (pos (suc a / suc e) *ℤ negsuc e) (left_of (pos (suc a)) q (pos (suc a / suc e)) (pos (suc e)) r d.whole is) refl (second_turned (suc a / suc e) e))

pub truncate_signed : (i j q r : ℤ) (s t z : Bool) → s ≡ int_lt i (pos 0) → t ≡ int_lt j (pos 0) → z ≡ int_eq j (pos 0) → (j ≢ pos 0 → Divides (cond s (neg_ℤ i) i) (cond t (neg_ℤ j) j) q r)
    → (cond z (pos 0) (cond (xor s t) (neg_ℤ q) q) ≡ truncate_ℤ i j) × (cond z i (cond s (neg_ℤ r) r) ≡ rem_ℤ i j)
truncate_signed i (pos zero) q r s t true es et ez h = (refl, nothing_left i)
truncate_signed i (pos zero) q r s t false es et ez h = absurd (false≢true ez)
truncate_signed i (pos (suc e)) q r s t true es et ez h = absurd (zero_only (pos (suc e)) (λ z. cc) ez)
truncate_signed i (pos (suc e)) q r s t false es et ez h = truncate_parts i (pos (suc e)) q r s t es et (λ z. cc) (h (λ z. cc))
truncate_signed i (negsuc e) q r s t true es et ez h = absurd (zero_only (negsuc e) (λ z. cc) ez)
truncate_signed i (negsuc e) q r s t false es et ez h = truncate_parts i (negsuc e) q r s t es et (λ z. cc) (h (λ z. cc))

pub same_dividend : (n k d q r : ℤ) → n ≡ k → Divides n d q r → Divides k d q r
same_dividend n k d q r e h = record { whole = sym e ∙ h.whole; least = h.least; most = h.most }

-- the complement of a negative integer is not negative
pub turned_some : (i : ℤ) (s : Bool) → s ≡ int_lt i (pos 0) → pos 0 ≤ℤ cond s (not_ℤ i) i
turned_some (pos a) true es = absurd (not_under a es)
turned_some (pos a) false es = omega (arith, ints)
turned_some (negsuc a) true es = omega (arith, ints)
turned_some (negsuc a) false es = absurd (not_over a es)

pub negated_some : (i : ℤ) (s : Bool) → s ≡ int_lt i (pos 0) → pos 0 ≤ℤ cond s (neg_ℤ i) i
negated_some (pos a) true es = absurd (not_under a es)
negated_some (pos a) false es = omega (arith, ints)
negated_some (negsuc a) true es = omega (arith, ints)
negated_some (negsuc a) false es = absurd (not_over a es)

pub negated_above : (i : ℤ) (s : Bool) → s ≡ int_lt i (pos 0) → i ≢ pos 0 → pos 0 <ℤ cond s (neg_ℤ i) i
negated_above (pos zero) s es n = absurd (n refl)
negated_above (pos (suc a)) true es n = absurd (not_under (suc a) es)
negated_above (pos (suc a)) false es n = omega (arith, ints)
negated_above (negsuc a) true es n = omega (arith, ints)
negated_above (negsuc a) false es n = absurd (not_over a es)
