use Rattle.std.proofs.Common.{◌≡◌, ℕ, ◌+◌, ◌-◌, ◌<◌, ◌≤◌, Bool, length, arith, refl, ap, ◌∙◌, sym}
use Rattle.bfr_store.specs.Keeps.{Keeps}
use Rattle.bfr_store.specs.Edges.{xor}
use Rattle.bfr_store.proofs.Keeping.{keeps_then}
use Rattle.sym_bits.specs.Columns.{sign_value, majority}
use Rattle.sym_bits.specs.Integers.{bits_under}
use Rattle.sym_bits.proofs.Calls.{bit_kept, bits_length, stands_push, stands_end}
use Rattle.sym_bits.proofs.Columns.{top_sum, whole_sum}
use Rattle.sym_bits.proofs.sums.sum.Goals as goal

pub returns-clause-makes : goal.returns-clause-makes
returns-clause-makes g c =
    let start = c.args.store.now in
    let first = c.low_columns.new.store in
    let second = c.full_add.new.store in
    let third = c.differ.new.store in
    let last = c.differ-2.new.store in
    let low = c.in_ok-digits.ensures in
    let column = c.in_ok-low.ensures in
    let half = c.in_ok-half.ensures.makes in
    let sign = c.in_ok-sign.ensures.makes in
    let xs = c.args.a.now in
    let ys = c.args.b.now in
    let rise : Keeps g.B.Meaning second last = keeps_then g.B.Meaning second third last half.keeps sign.keeps in
    let top = c.max-top.result - 1 in
    let lx : length xs ≤ top + 1 = omega arith in
    let ly : length ys ≤ top + 1 = omega arith in
    let px : 0 < length xs = omega arith in
    let py : 0 < length ys = omega arith in
    stands_end g.B.Meaning start last _ c.in_ok-sign.sign c.finish.result _ _ _
    (stands_push g.B.Meaning start first last _ _ c.in_ok-low.low _ (λ a. sign_value (g.B.Meaning.truth_of last c.in_ok-sign.sign a)) _ low.sum c.push.ensures
    (keeps_then g.B.Meaning first second last column.keeps rise) (rise.stays _ column.live.0)
    (λ a.
    let same_x = column.keeps.same c.bit-x.result a c.bit-x.ensures.live in
    let same_y = column.keeps.same c.bit-y.result a c.bit-y.ensures.live in
    let over = half.keeps.same c.in_ok-low.over a column.live.1 ∙ column.carry a in
    top_sum (bits_under g.B.Meaning start xs a) (bits_under g.B.Meaning start ys a) top _ _ _ _ _
    (omega (arith, px, bits_length g.B.Meaning start xs a)) (omega (arith, py, bits_length g.B.Meaning start ys a)) (omega (arith, lx, bits_length g.B.Meaning start xs a)) (omega (arith, ly, bits_length g.B.Meaning start ys a))
    (bit_kept g.B.Meaning start first low.keeps xs top a _ c.requires.a (c.bit-x.ensures.truth a))
    (bit_kept g.B.Meaning start first low.keeps ys top a _ c.requires.b (c.bit-y.ensures.truth a))
    (rise.same c.in_ok-low.low a column.live.0 ∙ column.sum a)
    (sign.truth a ∙ (λ i. xor ((half.truth a ∙ (λ j. xor (same_x j) (same_y j))) i) (over i)))))
    sign.live (λ a. refl) (λ a. whole_sum (bits_under g.B.Meaning start xs a) (bits_under g.B.Meaning start ys a) c.args.carry_in) c.finish.ensures.value c.finish.ensures.parts
