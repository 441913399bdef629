-- The integer of a list of bits, one bit after the other from the last.
use Rattle.std.proofs.Common.{◌≡◌, ◌∙◌, ap, sym, refl, ℕ, ◌+◌, ◌^◌, ◌<◌, ◌≤◌, Bool, true, false, List, [], ◌∷◌, map, length, get_or, drop, ℤ, pos, neg_ℤ, ◌+ℤ◌, ◌≤ℤ◌, ◌<ℤ◌, arith}
use Rattle.std.proofs.lemmas.Int.{ints}
use Rattle.std.proofs.lemmas.List.{drop_more, drop_all, length-drop, length-map}
use Rattle.std.proofs.Math.Pow.{pow_mono}
use Rattle.gl_logic.specs.TwosComplement.{digit, integer_of}
use Rattle.gl_logic.proofs.TwosComplement.{list_within}

-- a further bit below at least one
pub integer_more : (b : Bool) (bs : List Bool) → 0 < length bs → integer_of (b ∷ bs) ≡ digit b +ℤ (integer_of bs +ℤ integer_of bs)
integer_more b [] h = absurd (omega (arith, h))
integer_more b (c ∷ bs) h = refl

-- an integer of at most 127 bits can be doubled within 128
pub record IsHalf (z : ℤ) : Type 0 where
  pub least : neg_ℤ (pos (2 ^ 126)) ≤ℤ z
  pub most : z <ℤ pos (2 ^ 126)

pub half : (bs : List Bool) → 0 < length bs → length bs ≤ 127 → IsHalf (integer_of bs)
half [] h l = absurd (omega (arith, h))
half (b ∷ bs) h l =
    let w = list_within b bs in
    let p : 2 ^ length bs ≤ 2 ^ 126 = pow_mono {i = length bs} {j = 126} (omega (arith, l)) in
    record { least = omega (arith, ints, w.least, p); most = omega (arith, ints, w.most, p) }

-- the bits at the ranks from k on
abbrev pub integer_from_at : (ℕ → Bool) → List ℕ → ℕ → ℤ
integer_from_at a ranks k = integer_of (map a (drop k ranks))

pub from_more : (a : ℕ → Bool) (ranks : List ℕ) (k n : ℕ) → n ≡ k + 1 → n < length ranks → integer_from_at a ranks k ≡ digit (a (get_or ranks k 0)) +ℤ (integer_from_at a ranks n +ℤ integer_from_at a ranks n)
from_more a ranks k n e h =
    ap (λ rs. integer_of (map a rs)) (drop_more ranks k 0 (omega (arith, e, h)))
    ∙ (ap (λ m. integer_of (map a (get_or ranks k 0 ∷ drop m ranks))) (sym e)
    ∙ integer_more (a (get_or ranks k 0)) (map a (drop n ranks)) (omega (arith, h, length-map (drop n ranks) a, length-drop n ranks)))

pub from_half : (a : ℕ → Bool) (ranks : List ℕ) (k : ℕ) → 0 < k → k < length ranks → length ranks ≤ 128 → IsHalf (integer_from_at a ranks k)
from_half a ranks k p h l =
    half (map a (drop k ranks)) (omega (arith, h, length-map (drop k ranks) a, length-drop k ranks)) (omega (arith, p, l, length-map (drop k ranks) a, length-drop k ranks))

sign : (b : Bool) → integer_of (b ∷ []) ≡ neg_ℤ (digit b)
sign true = refl
sign false = refl

pub from_last : (a : ℕ → Bool) (ranks : List ℕ) (k : ℕ) → k + 1 ≡ length ranks → integer_from_at a ranks k ≡ neg_ℤ (digit (a (get_or ranks k 0)))
from_last a ranks k h =
    ap (λ rs. integer_of (map a rs)) (drop_more ranks k 0 (omega (arith, h)))
    ∙ (ap (λ rs. integer_of (a (get_or ranks k 0) ∷ map a rs)) (drop_all (k + 1) ranks (omega (arith, h))) ∙ sign (a (get_or ranks k 0)))
