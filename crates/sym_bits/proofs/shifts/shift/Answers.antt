use Rattle.std.proofs.Common.{◌≡◌, ℕ, suc, ◌+◌, ◌-◌, ◌*◌, ◌%◌, ◌<◌, ◌≤◌, ◌^◌, Bool, false, cond, not, ◌&&◌, length, take, pos, ℤ, ◌*ℤ◌, int_lt, arith, refl, ap, ◌∙◌, sym, length-take}
use Rattle.std.specs.Ordering.{int_eq}
use Rattle.std.proofs.lemmas.List.Elements.{All-take}
use Rattle.bfr_store.specs.Keeps.{Keeps}
use Rattle.bfr_store.proofs.Keeping.{keeps_then}
use Rattle.gl_logic.specs.Quotients.{floor_by}
use Rattle.gl_logic.specs.Bytes.{is_signed_byte}
use Rattle.gl_logic.specs.TwosComplement.{integer_of, bit_of}
use Rattle.sym_bits.specs.Columns.{sign_value, shifted, low_number}
use Rattle.sym_bits.specs.Integers.{AllLive, bits_under, integer_under}
use Rattle.sym_bits.proofs.Calls.{live_kept, bits_kept, bit_kept, bits_length, integer_kept}
use Rattle.sym_bits.proofs.Columns.{shifted_none}
use Rattle.sym_bits.proofs.Floors.{shifted_floor, shifted_far}
use Rattle.sym_bits.proofs.Halving.{sign_bit}
use Rattle.sym_bits.proofs.Landing.{Lands, over_at, value_at, lands_at, short_list, span_is, result_fits}
use Rattle.sym_bits.proofs.shifts.shift.Goals as goal

pub returns-clause-makes : goal.returns-clause-makes
returns-clause-makes g c =
    let m = g.B.Meaning in
    let start = c.args.store.now in
    let first = c.is_near.new.store in
    let second = c.moved_by.new.store in
    let third = c.select.new.store in
    let fourth = c.select-2.new.store in
    let last = c.overflow.new.store in
    let near = c.in_ok-near.ensures.makes in
    let product = c.in_ok-product.ensures.makes in
    let close = c.in_ok-close.ensures.makes in
    let bits = c.in_ok-bits.ensures.makes in
    let over = c.in_ok-over.ensures.makes in
    let xs = c.args.a.now in
    let cs = c.args.count.now in
    let ps = c.in_ok-product.product in
    let level = c.min-levels.result in
    let top = c.len-last.result - 1 in
    let to_second : Keeps m start second = keeps_then m start first second near.keeps product.keeps in
    let to_third : Keeps m second fourth = keeps_then m second third fourth close.keeps bits.keeps in
    let near_to_third : Keeps m first third = keeps_then m first second third product.keeps close.keeps in
    let near_to_fourth : Keeps m first fourth = keeps_then m first third fourth near_to_third bits.keeps in
    let to_fourth : Keeps m start fourth = keeps_then m start second fourth to_second to_third in
    let to_last : Keeps m start last = keeps_then m start fourth last to_fourth over.keeps in
    let count = λ (x : ℕ → Bool). bits_under m start cs x in
    let i = λ (x : ℕ → Bool). integer_under m start xs x in
    let is_negative = λ (x : ℕ → Bool).
    bit_kept m start second to_second cs top x (m.truth_of second c.bit-negative.result x) c.requires.count (c.bit-negative.ensures.truth x)
    ∙ (sign_bit (count x) top (omega (arith, bits_length m start cs x)) (omega (arith, bits_length m start cs x)) ∙ ap (λ z. int_lt z (pos 0)) (shifted_none (count x))) in
    let is_product = λ (x : ℕ → Bool).
    product.value x ∙ (λ j. integer_kept m start first near.keeps xs x c.requires.a j *ℤ pos (2 ^ low_number level (bits_kept m start first near.keeps cs x c.requires.count j))) in
    let is_right = λ (x : ℕ → Bool).
    c.above-right.ensures.value x
    ∙ (shifted_floor (bits_under m second ps x) (1 * 2 ^ level % 4294967296)
    ∙ (λ j. floor_by (is_product x j) (2 ^ span_is level (omega (arith, c.min-levels.ensures)) j))) in
    let is_sign = λ (x : ℕ → Bool).
    c.above-sign.ensures.value x
    ∙ (shifted_far (bits_under m second xs x) c.len.result (omega (arith, bits_length m second xs x, c.len.ensures.len))
    ∙ ap (λ z. sign_value (int_lt z (pos 0))) (integer_kept m start second to_second xs x c.requires.a)) in
    let is_value = λ (x : ℕ → Bool).
    bits.value x ∙ (λ j. cond
    ((near_to_third.same c.in_ok-near.near x near.live ∙ near.truth x) j)
    ((close.value x ∙ (λ k. cond (is_negative x k) (is_right x k) (is_product x k))) j)
    ((integer_kept m second third close.keeps c.above-sign.result x c.above-sign.ensures.live ∙ is_sign x) j)) in
    let is_over = λ (x : ℕ → Bool).
    over.truth x ∙ (λ j.
    not ((to_third.same c.bit-negative.result x c.bit-negative.ensures.live ∙ is_negative x) j)
    && cond ((near_to_fourth.same c.in_ok-near.near x near.live ∙ near.truth x) j)
    (not (is_signed_byte (pos 128) ((integer_kept m second fourth to_third ps x product.live ∙ is_product x) j)))
    (not (int_eq (integer_kept m start fourth to_fourth xs x c.requires.a j) (pos 0)))) in
    let landing = λ (x : ℕ → Bool).
    lands_at (i x) (count x) level top (short_list (bits_under m start xs x) (omega (arith, bits_length m start xs x, c.requires.width))) c.min-levels.ensures (omega (arith, bits_length m start cs x))
    (integer_of (count x)) refl (is_signed_byte (pos (suc level)) (integer_of (count x))) refl in
    record {
      keeps = to_last;
      bits = rw c.narrow.ensures.lowest (All-take (m.live last) 128 c.in_ok-bits.bits (live_kept m fourth last over.keeps c.in_ok-bits.bits bits.live));
      over = over.live;
      leaves = λ x. is_over x ∙ (landing x).leaves;
      value = λ x h.
          let none = sym (is_over x) ∙ h in
          let whole = integer_kept m fourth last over.keeps c.in_ok-bits.bits x bits.live ∙ is_value x in
          c.narrow.ensures.same (λ e. m.truth_of last e x) (ap (is_signed_byte (pos 128)) whole ∙ result_fits _ _ _ (landing x) none)
          ∙ (whole ∙ (landing x).lands none);
      full = tt;
    }

pub returns-clause-width : goal.returns-clause-width
returns-clause-width g c = omega (arith, ap length c.narrow.ensures.lowest, length-take 128 c.in_ok-bits.bits)
