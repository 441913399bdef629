-- Where shifts end.
use Rattle.std.proofs.Common.{◌≡◌, ◌≢◌, ℕ, zero, suc, ◌+◌, ◌-◌, ◌*◌, ◌/◌, ◌%◌, ◌<◌, ◌≤◌, ◌^◌, min, Bool, true, false, not, cond, ◌&&◌, List, [], ◌∷◌, length, ℤ, pos, negsuc, ◌+ℤ◌, ◌*ℤ◌, ◌<ℤ◌, ◌≤ℤ◌, int_lt, ◌⊎◌, inl, inr, refl, sym, ◌∙◌, ap, arith, add-one, mod-eq_of_lt, one-mul}
use Rattle.std.proofs.lemmas.Int.{ints}
use Rattle.std.proofs.lemmas.Bool.{false≢true, cases_lt}
use Rattle.std.proofs.lemmas.Nat.{pow-add, mul-le}
use Rattle.std.proofs.Math.Nat.{pow-suc}
use Rattle.std.specs.Ordering.{int_eq}
use Rattle.gl_logic.specs.Quotients.{floor_by}
use Rattle.gl_logic.specs.Shifts.{ash_ℤ}
use Rattle.gl_logic.specs.Bytes.{is_signed_byte}
use Rattle.gl_logic.specs.TwosComplement.{digit, integer_of, bit_of}
use Rattle.gl_logic.proofs.TwosComplement.{Within, within, signed, list_within}
use Rattle.sym_bits.specs.Columns.{sign_value, shifted, low_number}
use Rattle.sym_bits.proofs.GateLaws.{doubled}
use Rattle.sym_bits.proofs.Ring.{times_pos, sum_times}
use Rattle.sym_bits.proofs.Comparing.{eq_holds, eq_shows}
use Rattle.sym_bits.proofs.Floors.{floor_half, floor_one, shifted_floor, fits_by_floor, none_over, power_grows, not_below, same_pos, power_pos}
use Rattle.sym_bits.proofs.Numbers.{split, low_below}

-- ---- products by powers of two
once : (i : ℤ) → i *ℤ pos 1 ≡ i
once i = omega (arith, ints)

pub times_none : (i : ℤ) → i ≡ i *ℤ pos 1
times_none i = sym (once i)

twice_as : (i : ℤ) (p : ℕ) → i *ℤ pos (p * 2) ≡ pos 0 +ℤ ((i *ℤ pos p) +ℤ (i *ℤ pos p))
twice_as i p = omega (arith, ints)

double_up : (z : ℤ) → pos 0 +ℤ (z +ℤ z) ≡ z *ℤ pos 2
double_up z = omega (arith, ints)

-- one more bit of 0 below
pub one_zero : (z : ℤ) (n : ℕ) → (pos 0 +ℤ (z +ℤ z)) *ℤ pos (2 ^ n) ≡ z *ℤ pos (2 ^ (n + 1))
one_zero z n = ap (λ y. y *ℤ pos (2 ^ n)) (double_up z) ∙ (times_pos z 2 (2 ^ n) ∙ ap (λ p. z *ℤ pos p) (let p = pow-suc 2 n in let q = ap (λ k. 2 ^ k) (add-one n) in omega (arith, p, q)))

moved_bit : (i : ℤ) (n d : ℕ) (b : Bool) → cond b ((i *ℤ pos (2 ^ n)) *ℤ pos (2 ^ d)) (i *ℤ pos (2 ^ n)) ≡ i *ℤ pos (2 ^ (n + cond b d 0))
moved_bit i n d true = times_pos i (2 ^ n) (2 ^ d) ∙ ap (λ p. i *ℤ pos p) (sym (pow-add 2 n d))
moved_bit i n d false = ap (λ k. i *ℤ pos (2 ^ k)) (omega arith)

-- one more bit of a count
pub moved_step : (cs : List Bool) (i v f m : ℤ) (k d : ℕ) (b : Bool) → b ≡ bit_of cs k → d ≡ 2 ^ k → v ≡ i *ℤ pos (2 ^ low_number k cs) → f ≡ v *ℤ pos (2 ^ d) → m ≡ cond b f v → m ≡ i *ℤ pos (2 ^ low_number (k + 1) cs)
moved_step cs i v f m k d b eb ed ev ef em =
    em ∙ ((λ j. cond (eb j) ((ef ∙ (λ h. ev h *ℤ pos (2 ^ ed h))) j) (ev j))
    ∙ (moved_bit i (low_number k cs) (2 ^ k) (bit_of cs k) ∙ ap (λ n. i *ℤ pos (2 ^ low_number n cs)) (sym (add-one k))))

-- ---- to the right again
none_first : (q : ℕ) → 0 + q ≡ q
none_first q = omega arith

more_first : (p q : ℕ) → suc p + q ≡ suc (p + q)
more_first p q = omega arith

pub floor_moved : (i : ℤ) (p q : ℕ) → floor_by (i *ℤ pos (2 ^ p)) (2 ^ (p + q)) ≡ floor_by i (2 ^ q)
floor_moved i zero q = λ j. floor_by (once i j) (2 ^ none_first q j)
floor_moved i (suc p) q =
    let y = i *ℤ pos (2 ^ p) in
    (λ j. floor_by (i *ℤ pos (pow-suc 2 p j)) (2 ^ more_first p q j))
    ∙ ((λ j. floor_by (twice_as i (2 ^ p) j) (2 ^ suc (p + q)))
    ∙ (sym (floor_half (pos 0 +ℤ (y +ℤ y)) (p + q))
    ∙ (ap (λ z. floor_by z (2 ^ (p + q))) (doubled false y).1 ∙ floor_moved i p q)))

over_less : (n d : ℕ) → n / d ≤ n
over_less n d = grind arith

-- a quotient is no longer than the dividend
floor_within : (w : ℕ) (i : ℤ) (d : ℕ) → Within w i → Within w (floor_by i d)
floor_within w (pos n) d h = let l = over_less n d in record { least = omega (arith, ints); most = omega (arith, ints, h.most, l) }
floor_within w (negsuc n) d h = let l = over_less n d in record { least = omega (arith, ints, h.least, l); most = omega (arith, ints) }

-- far to the right the sign is left
far_right : (i : ℤ) (c : ℕ) → Within 127 i → 127 ≤ c → floor_by i (2 ^ c) ≡ sign_value (int_lt i (pos 0))
far_right (pos n) c h l =
    let p = power_grows 127 c l in
    ap pos (none_over n (2 ^ c) (omega (arith, ints, h.most, p))) ∙ ap sign_value (sym (not_below n))
far_right (negsuc n) c h l =
    let p = power_grows 127 c l in
    ap negsuc (none_over n (2 ^ c) (omega (arith, ints, h.least, p)))

cases_test : (b : Bool) → (b ≡ true) ⊎ (b ≡ false)
cases_test true = inl refl
cases_test false = inr refl

-- far to the left nothing but 0 fits
too_far : (i : ℤ) (c : ℕ) → i ≢ pos 0 → 128 ≤ c → Within 127 (i *ℤ pos (2 ^ c)) → ⊥
too_far (pos zero) c n l h = n refl
too_far (pos (suc k)) c n l h =
    let p = power_grows 128 c l in
    let q = mul-le 1 (2 ^ 128) (suc k) (2 ^ c) (omega arith) p in omega (arith, ints, q, h.most)
too_far (negsuc k) c n l h =
    let p = power_grows 128 c l in
    let q = mul-le 1 (2 ^ 128) (suc k) (2 ^ c) (omega arith) p in omega (arith, ints, q, h.least)

far_left : (i : ℤ) (c : ℕ) → i ≢ pos 0 → 128 ≤ c → is_signed_byte (pos 128) (i *ℤ pos (2 ^ c)) ≡ false
far_left i c n l = elim (cases_test (is_signed_byte (pos 128) (i *ℤ pos (2 ^ c)))) [ inl e ↦ absurd (too_far i c n l (within 127 (i *ℤ pos (2 ^ c)) e)) | inr e ↦ e ]

-- ---- the cases of a shift
near_all : (cs : List Bool) (n : ℕ) → length cs ≡ n + 1 → is_signed_byte (pos (suc n)) (integer_of cs) ≡ true
near_all [] n h = absurd (omega (arith, h))
near_all (b ∷ bs) n h = let e : n ≡ length bs = omega (arith, h) in ap (λ w. is_signed_byte (pos (suc w)) (integer_of (b ∷ bs))) e ∙ signed (length bs) (integer_of (b ∷ bs)) (list_within b bs)

nothing : (p l : ℕ) → (pos 0 *ℤ pos p) +ℤ pos l ≡ pos l
nothing p l = omega (arith, ints)

none : (p : ℕ) → pos 0 *ℤ pos p ≡ pos 0
none p = omega (arith, ints)

rest_zero : (l w : ℕ) (i h : ℤ) (p : ℕ) → i ≡ (h *ℤ pos p) +ℤ pos l → h ≡ pos 0 → i ≡ pos w → l ≡ w
rest_zero l w i h p e z f = same_pos l w (sym (ap (λ y. (y *ℤ pos p) +ℤ pos l) z ∙ nothing p l) ∙ (sym e ∙ f))

rest_minus : (l c : ℕ) (i h : ℤ) (p : ℕ) → i ≡ (h *ℤ pos p) +ℤ pos l → h ≡ negsuc 0 → i ≡ negsuc c → l + suc c ≡ p
rest_minus l c i h p e z f = let q = sym f ∙ (e ∙ ap (λ y. (y *ℤ pos p) +ℤ pos l) z) in omega (arith, ints, q)

pub record Lands (over : Bool) (value result : ℤ) : Type 0 where
  pub leaves : over ≡ not (is_signed_byte (pos 128) result)
  pub lands : over ≡ false → value ≡ result

module _ (i : ℤ) (cs : List Bool) (level last : ℕ) (short : Within 127 i) (is_level : level ≡ min last 7) (long : length cs ≡ last + 1) where
  abbrev pub product : ℤ
  product = i *ℤ pos (2 ^ low_number level cs)

  -- a count that is not near has all seven levels
  far_level : (z : ℤ) → integer_of cs ≡ z → is_signed_byte (pos (suc level)) z ≡ false → level ≡ 7
  far_level z w e =
      elim (cases_lt last 7) [
        | inl l ↦ absurd (false≢true (sym e ∙ (ap (is_signed_byte (pos (suc level))) (sym w) ∙ near_all cs level (omega (arith, long, is_level, l)))))
        | inr l ↦ omega (arith, is_level, l)
      ]

  far_count : (z : ℤ) → integer_of cs ≡ z → is_signed_byte (pos (suc level)) z ≡ false → Within 7 z → ⊥
  far_count z w e h = false≢true (sym e ∙ (ap (λ n. is_signed_byte (pos (suc n)) z) (far_level z w e) ∙ signed 7 z h))

  -- the bits of a near count above the levels are its sign
  high : (z : ℤ) → integer_of cs ≡ z → is_signed_byte (pos (suc level)) z ≡ true → shifted cs level ≡ sign_value (int_lt z (pos 0))
  high z w e = shifted_floor cs level ∙ (ap (λ y. floor_by y (2 ^ level)) w ∙ eq_holds (floor_by z (2 ^ level)) (sign_value (int_lt z (pos 0))) (fits_by_floor level z ∙ e))

  abbrev pub over_at : ℤ → Bool → Bool
  over_at z near = not (int_lt z (pos 0)) && cond near (not (is_signed_byte (pos 128) product)) (not (int_eq i (pos 0)))

  abbrev pub value_at : ℤ → Bool → ℤ
  value_at z near = cond near (cond (int_lt z (pos 0)) (floor_by product (2 ^ (2 ^ level))) product) (sign_value (int_lt i (pos 0)))

  left_near : (c : ℕ) → integer_of cs ≡ pos c → is_signed_byte (pos (suc level)) (pos c) ≡ true → Lands (over_at (pos c) true) (value_at (pos c) true) (ash_ℤ i (pos c))
  left_near c w e =
      let l : low_number level cs ≡ c = rest_zero (low_number level cs) c (integer_of cs) (shifted cs level) (2 ^ level) (split cs level) (high (pos c) w e ∙ ap sign_value (not_below c)) w in
      let is : product ≡ ash_ℤ i (pos c) = ap (λ n. i *ℤ pos (2 ^ n)) l in
      record {
        leaves = ap (λ b. not b && not (is_signed_byte (pos 128) product)) (not_below c) ∙ ap (λ y. not (is_signed_byte (pos 128) y)) is;
        lands = λ h. ap (λ b. cond b (floor_by product (2 ^ (2 ^ level))) product) (not_below c) ∙ is;
      }

  left_far : (c : ℕ) → 128 ≤ c → (u : Bool) → int_eq i (pos 0) ≡ u → Lands (not (int_lt (pos c) (pos 0)) && not u) (sign_value (int_lt i (pos 0))) (ash_ℤ i (pos c))
  left_far c l true e =
      let z : i ≡ pos 0 = eq_holds i (pos 0) e in
      let is : ash_ℤ i (pos c) ≡ pos 0 = ap (λ y. y *ℤ pos (2 ^ c)) z ∙ none (2 ^ c) in
      record {
        leaves = ap (λ b. not b && false) (not_below c) ∙ ap (λ y. not (is_signed_byte (pos 128) y)) (sym is);
        lands = λ h. ap (λ y. sign_value (int_lt y (pos 0))) z ∙ sym is;
      }
  left_far c l false e =
      let n : i ≢ pos 0 = λ z. false≢true (sym e ∙ eq_shows i (pos 0) z) in
      record {
        leaves = ap (λ b. not b && true) (not_below c) ∙ ap not (sym (far_left i c n l));
        lands = λ h. absurd (false≢true (sym h ∙ ap (λ b. not b && true) (not_below c)));
      }

  right_fits : (c : ℕ) → false ≡ not (is_signed_byte (pos 128) (floor_by i (2 ^ suc c)))
  right_fits c = ap not (sym (signed 127 (floor_by i (2 ^ suc c)) (floor_within 127 i (2 ^ suc c) short)))

  right_near : (c : ℕ) → integer_of cs ≡ negsuc c → is_signed_byte (pos (suc level)) (negsuc c) ≡ true → Lands (over_at (negsuc c) true) (value_at (negsuc c) true) (ash_ℤ i (negsuc c))
  right_near c w e =
      let l : low_number level cs + suc c ≡ 2 ^ level = rest_minus (low_number level cs) c (integer_of cs) (shifted cs level) (2 ^ level) (split cs level) (high (negsuc c) w e) w in
      record {
        leaves = right_fits c;
        lands = λ h. ap (λ n. floor_by product (2 ^ n)) (sym l) ∙ floor_moved i (low_number level cs) (suc c);
      }

  right_far : (c : ℕ) → 127 ≤ suc c → Lands (over_at (negsuc c) false) (value_at (negsuc c) false) (ash_ℤ i (negsuc c))
  right_far c l = record { leaves = right_fits c; lands = λ h. sym (far_right i (suc c) short l) }

  pub lands_at : (z : ℤ) → integer_of cs ≡ z → (t : Bool) → is_signed_byte (pos (suc level)) z ≡ t → Lands (over_at z t) (value_at z t) (ash_ℤ i z)
  lands_at (pos c) w true e = left_near c w e
  lands_at (pos c) w false e =
      left_far c (elim (cases_lt c 128) [ inl l ↦ absurd (far_count (pos c) w e (record { least = omega (arith, ints); most = omega (arith, ints, l) })) | inr l ↦ l ]) (int_eq i (pos 0)) refl
  lands_at (negsuc c) w true e = right_near c w e
  lands_at (negsuc c) w false e =
      right_far c (elim (cases_lt c 128) [ inl l ↦ absurd (far_count (negsuc c) w e (record { least = omega (arith, ints, l); most = omega (arith, ints) })) | inr l ↦ omega (arith, l) ])

wider : (w v : ℕ) (z : ℤ) → w ≤ v → Within w z → Within v z
wider w v z l h = let p = power_grows w v l in record { least = omega (arith, ints, h.least, p); most = omega (arith, ints, h.most, p) }

-- as many bits as a program value may have
pub short_list : (bs : List Bool) → length bs ≤ 128 → Within 127 (integer_of bs)
short_list [] l = record { least = omega (arith, ints); most = omega (arith, ints) }
short_list (b ∷ bs) l = wider (length bs) 127 (integer_of (b ∷ bs)) (omega (arith, l)) (list_within b bs)

pub span_is : (n : ℕ) → n ≤ 7 → 1 * 2 ^ n % 4294967296 ≡ 2 ^ n
span_is n h = let p = power_grows n 7 h in mod-eq_of_lt {n = 1 * 2 ^ n} {m = 4294967296} (omega (arith, p)) ∙ one-mul (2 ^ n)

not_false : (b : Bool) → false ≡ not b → b ≡ true
not_false true h = refl
not_false false h = h

-- where nothing leaves 128 bits, the result fits
pub result_fits : (over : Bool) (value result : ℤ) → Lands over value result → over ≡ false → is_signed_byte (pos 128) value ≡ true
result_fits over value result l h = ap (is_signed_byte (pos 128)) (l.lands h) ∙ not_false (is_signed_byte (pos 128) result) (sym h ∙ l.leaves)
