-- Integers whose bits are all constant.
use Rattle.std.proofs.Common.{◌≡◌, ℕ, zero, suc, ◌+◌, ◌-◌, ◌<◌, ◌≤◌, Bool, true, false, not, List, [], ◌∷◌, ◌++◌, length, map, ℤ, pos, ◌+ℤ◌, refl, sym, ◌∙◌, ap, arith}
use Rattle.std.proofs.lemmas.Int.{ints}
use Rattle.std.proofs.lemmas.List.{map-append}
use Rattle.bfr_store.specs.declared.edge.Edge.{Edge}
use Rattle.gl_logic.specs.Bitwise.{bit_at}
use Rattle.gl_logic.specs.Object.{boolean_object}
use Rattle.gl_logic.specs.ObjectEq.{is_nil}
use Rattle.gl_logic.specs.Quotients.{floor_by}
use Rattle.gl_logic.specs.TwosComplement.{digit, integer_of, bits_of, bit_of}
use Rattle.gl_logic.proofs.TwosComplement.{bit_half, from_bits_of, Within}
use Rattle.sym_bits.specs.Columns.{shifted, sign_value}
use Rattle.sym_bits.proofs.Columns.{shifted_next, shifted_none, shifted_sign}
use Rattle.sym_prims.proofs.Integers.{not_nil}

-- one more bit from the front
pub column : (bs : List Bool) (n k : ℕ) (b : Bool) (v w : ℤ) → n ≡ k + 1 → b ≡ bit_of bs k → v ≡ shifted bs n → w ≡ digit b +ℤ (v +ℤ v) → w ≡ shifted bs k
column bs n k b v w e h p q =
    q ∙ ((λ i. digit (h i) +ℤ (p i +ℤ p i)) ∙ (ap (λ m. digit (bit_of bs k) +ℤ (shifted bs m +ℤ shifted bs m)) e ∙ sym (shifted_next bs k)))

-- the lowest bits, and one more
more : (k : ℕ) → suc k + 1 ≡ suc (k + 1)
more k = omega arith

pub bits_push : (k : ℕ) (i : ℤ) → bits_of (k + 1) i ≡ bits_of k i ++ bit_at k i ∷ []
bits_push zero i = refl
bits_push (suc k) i = ap (λ n. bits_of n i) (more k) ∙ (ap (λ bs. bit_at 0 i ∷ bs) (bits_push k (floor_by i 2)) ∙ ap (λ b. bit_at 0 i ∷ (bits_of k (floor_by i 2) ++ b ∷ [])) (sym (bit_half k i)))

pub mapped_push : (truth : Edge → Bool) (es fs : List Edge) (e : Edge) (k : ℕ) (i : ℤ) → fs ≡ es ++ e ∷ [] → map truth es ≡ bits_of k i → truth e ≡ bit_at k i → map truth fs ≡ bits_of (k + 1) i
mapped_push truth es fs e k i is h b =
    ap (map truth) is ∙ (map-append truth es (e ∷ []) ∙ ((λ j. h j ++ b j ∷ []) ∙ sym (bits_push k i)))

pub same_boolean : (b c : Bool) → boolean_object b ≡ boolean_object c → c ≡ b
same_boolean b c e = sym (not_nil c) ∙ (sym (ap (λ x. not (is_nil x)) e) ∙ not_nil b)
