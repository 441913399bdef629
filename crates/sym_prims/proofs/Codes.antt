-- The characters of codes, by their lowest eight bits.
use Rattle.std.proofs.Common.{◌≡◌, ℕ, zero, suc, ◌+◌, ◌*◌, ◌/◌, ◌<◌, ◌≤◌, ◌^◌, Bool, true, false, not, cond, ltb, List, ℤ, pos, negsuc, ◌+ℤ◌, ◌*ℤ◌, refl, sym, ◌∙◌, ap, arith, inl, inr}
use Rattle.std.proofs.lemmas.Int.{ints}
use Rattle.std.proofs.lemmas.Bool.{false≢true, cases_lt}
use Rattle.std.proofs.lemmas.Grind.{common_steps}
use Rattle.std.specs.Ordering.{int_eq}
use Rattle.gl_logic.specs.Object.{Object, Int, Character}
use Rattle.gl_logic.specs.PrimValue.{character_of, natural_in}
use Rattle.gl_logic.specs.Quotients.{floor_by}
use Rattle.gl_logic.specs.TwosComplement.{integer_of, bit_of}
use Rattle.sym_bits.specs.Columns.{shifted, low_number}
use Rattle.sym_bits.proofs.Comparing.{eq_holds, eq_shows, both_ways}
use Rattle.sym_bits.proofs.Floors.{shifted_floor, none_over, same_pos}
use Rattle.sym_bits.proofs.Numbers.{split}

small : (n : ℕ) → n < 256 → character_of n ≡ Character n
small n h = ap Character (grind (arith, common_steps, h))

large : (n : ℕ) → 256 ≤ n → character_of n ≡ Character 0
large n h = ap Character (grind (arith, common_steps, h))

nothing_above : (z : ℤ) (w : ℕ) → z ≡ pos 0 → (z *ℤ pos 256) +ℤ pos w ≡ pos w
nothing_above z w e = ap (λ y. (y *ℤ pos 256) +ℤ pos w) e ∙ omega (arith, ints)

far : (z : ℤ) (x y : Object) → (z ≡ pos 0 → ⊥) → cond (not (int_eq z (pos 0))) x y ≡ x
far z x y f = ap (λ b. cond (not b) x y) (both_ways (int_eq z (pos 0)) false (λ e. absurd (f (eq_holds z (pos 0) e))) (λ e. absurd (false≢true e)))

near : (z : ℤ) (x y : Object) → z ≡ pos 0 → cond (not (int_eq z (pos 0))) x y ≡ y
near z x y e = ap (λ b. cond (not b) x y) (eq_shows z (pos 0) e)

within : (n : ℕ) (s : ℤ) (low : ℕ) → n < 256 → s ≡ floor_by (pos n) 256 → pos n ≡ (s *ℤ pos 256) +ℤ pos low → cond (not (int_eq s (pos 0))) (Character 0) (Character (0 + low)) ≡ character_of n
within n s low h e w =
    let z : s ≡ pos 0 = e ∙ ap pos (none_over n 256 h) in
    let k : 0 + low ≡ n = let q = same_pos n low (w ∙ nothing_above s low z) in omega (arith, q) in
    near s (Character 0) (Character (0 + low)) z ∙ (ap Character k ∙ sym (small n h))

beyond : (n : ℕ) (s : ℤ) (low : ℕ) → 256 ≤ n → s ≡ floor_by (pos n) 256 → cond (not (int_eq s (pos 0))) (Character 0) (Character (0 + low)) ≡ character_of n
beyond n s low h e = far s (Character 0) (Character (0 + low)) (λ z. let q : n / 256 ≡ 0 = same_pos (n / 256) 0 (sym e ∙ z) in omega (arith, q, h)) ∙ sym (large n h)

by_sign : (z s : ℤ) (low : ℕ) → s ≡ floor_by z 256 → z ≡ (s *ℤ pos 256) +ℤ pos low → cond (not (int_eq s (pos 0))) (Character 0) (Character (0 + low)) ≡ character_of (natural_in (Int z))
by_sign (pos n) s low e w = elim (cases_lt n 256) [ inl h ↦ within n s low h e w | inr h ↦ beyond n s low h e ]
by_sign (negsuc n) s low e w = far s (Character 0) (Character (0 + low)) (λ z. negative (n / 256) (sym e ∙ z)) where
  negative : (m : ℕ) → negsuc m ≡ pos 0 → ⊥
  negative m h = cc

pub character_by_bits : (bs : List Bool) → cond (not (int_eq (shifted bs 8) (pos 0))) (Character 0) (Character (0 + low_number 8 bs)) ≡ character_of (natural_in (Int (integer_of bs)))
character_by_bits bs = by_sign (integer_of bs) (shifted bs 8) (low_number 8 bs) (shifted_floor bs 8) (split bs 8)
