-- Integers of so many bits, as the tests of bytes find them.
use Rattle.std.proofs.Common.{◌≡◌, refl, ℕ, zero, suc, ◌+◌, ◌^◌, ◌<◌, ◌≤◌, ltb, leb, true, ℤ, pos, negsuc, arith}
use Rattle.std.proofs.lemmas.Int.{ints}
use Rattle.std.proofs.Math.Pow.{pow_mono}
use Rattle.gl_logic.specs.Object.{Object, Int, Character, Symbol, Text, Cons}
use Rattle.gl_logic.specs.Bytes.{is_unsigned_byte, is_signed_byte}
use Rattle.gl_logic.specs.PrimValue.{both_integers}
use Rattle.gl_logic.proofs.TwosComplement.{Within, within}
use Rattle.coverage.specs.Rows.{is_width_in}
use Rattle.coverage.proofs.Logic.{never, and_first, and_second}

-- the object is an integer of n bits, the sign among them
pub record IsByte (n : ℕ) (x : Object) : Type 0 where
  pub number : ℤ
  pub beside_sign : ℕ
  pub is : x ≡ Int number
  pub bits : n ≡ suc beside_sign
  pub within : Within beside_sign number

pub record IsWidth (least n : ℕ) (x : Object) : Type 0 where
  pub width : ℕ
  pub is : x ≡ Int (pos width)
  pub above : least ≤ width
  pub below : width < n + least

pub its_width : (least n : ℕ) (x : Object) → is_width_in least n x ≡ true → IsWidth least n x
its_width least n (Int (pos m)) h =
    let a = and_first (leb least m) (ltb m (n + least)) h in
    let b = and_second (leb least m) (ltb m (n + least)) h in
    record { width = m; is = refl; above = grind (arith, a); below = grind (arith, b) }
its_width least n (Int (negsuc m)) h = never h
its_width least n (Character k) h = never h
its_width least n (Symbol k) h = never h
its_width least n (Text k) h = never h
its_width least n (Cons a d) h = never h

pub byte_of : (n m : ℕ) (x : Object) → m < n → both_integers is_unsigned_byte (Int (pos m)) x ≡ true → IsByte n x
byte_of zero m x l h = absurd (omega (arith, l))
byte_of (suc w) m (Int (pos k)) l h =
    let p : 2 ^ m ≤ 2 ^ w = pow_mono {i = m} {j = w} (omega (arith, l)) in
    let q : k < 2 ^ m = grind (arith, ints, h) in
    record { number = pos k; beside_sign = w; is = refl; bits = refl; within = record { least = omega (arith, ints); most = omega (arith, ints, p, q) } }
byte_of (suc w) m (Int (negsuc k)) l h = absurd (grind (arith, ints, h))
byte_of (suc w) m (Character k) l h = never h
byte_of (suc w) m (Symbol k) l h = never h
byte_of (suc w) m (Text k) l h = never h
byte_of (suc w) m (Cons a d) l h = never h

wider : (u w : ℕ) (z : ℤ) → u ≤ w → Within u z → Within w z
wider u w z l h =
    let p : 2 ^ u ≤ 2 ^ w = pow_mono {i = u} {j = w} l in
    record { least = omega (arith, ints, p, h.least); most = omega (arith, ints, p, h.most) }

pub signed_of : (n m : ℕ) (z : ℤ) → m ≤ n → is_signed_byte (pos m) z ≡ true → IsByte n (Int z)
signed_of n zero z l h = never h
signed_of zero (suc u) z l h = absurd (omega (arith, l))
signed_of (suc w) (suc u) z l h =
    record { number = z; beside_sign = w; is = refl; bits = refl; within = wider u w z (omega (arith, l)) (within u z h) }

pub signed_byte_of : (n m : ℕ) (x : Object) → m ≤ n → both_integers is_signed_byte (Int (pos m)) x ≡ true → IsByte n x
signed_byte_of n m (Int z) l h = signed_of n m z l h
signed_byte_of n m (Character k) l h = never h
signed_byte_of n m (Symbol k) l h = never h
signed_byte_of n m (Text k) l h = never h
signed_byte_of n m (Cons a d) l h = never h
