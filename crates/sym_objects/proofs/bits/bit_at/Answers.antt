use Rattle.std.proofs.Common.{◌≡◌, ◌∙◌, ◌-◌, sym, ap, arith, length, slice_get, Some}
use Rattle.std.proofs.lemmas.Option.{get_or_from_slice_get}
use Rattle.sym_objects.proofs.Chosen.{bit_inside, bit_past}
use Rattle.sym_objects.proofs.bits.bit_at.Goals as goal

pub returns-then-k-count-clause-truth : goal.returns-then-k-count-clause-truth
returns-then-k-count-clause-truth c t = bit_inside t c.args.bits.now c.args.k c.at.result c.at.ensures

pub returns-then-k-count-clause-among : goal.returns-then-k-count-clause-among
returns-then-k-count-clause-among c = (c.args.k, omega (arith, c.len-count.ensures.len), get_or_from_slice_get c.args.bits.now c.args.k c.at.result c.at.result c.at.ensures)

pub returns-else-k-count-clause-truth : goal.returns-else-k-count-clause-truth
returns-else-k-count-clause-truth c t =
    let n = c.len-count.ensures in
    let at : slice_get c.args.bits.now (length c.args.bits.now - 1) ≡ Some c.at-else-k-count.result = ap (λ m. slice_get c.args.bits.now (m - 1)) (sym n.len) ∙ c.at-else-k-count.ensures in
    bit_past t c.args.bits.now c.args.k c.at-else-k-count.result (omega (arith, n.len, n.some)) at (omega (arith, n.len))

pub returns-else-k-count-clause-among : goal.returns-else-k-count-clause-among
returns-else-k-count-clause-among c =
    let n = c.len-count.ensures in
    (c.len-count.result - 1, omega (arith, n.len, n.some), get_or_from_slice_get c.args.bits.now (c.len-count.result - 1) c.at-else-k-count.result c.at-else-k-count.result c.at-else-k-count.ensures)
