use Rattle.std.proofs.Common.{◌≡◌, ℕ, ◌+◌, ◌<◌, ◌≤◌, Bool, length, arith, ap, ◌∙◌, sym}
use Rattle.sym_bits.specs.Columns.{sign_value}
use Rattle.sym_bits.specs.Integers.{integer_under, bits_under}
use Rattle.sym_bits.proofs.Calls.{bits_length}
use Rattle.sym_bits.proofs.Columns.{shifted_past}
use Rattle.sym_bits.proofs.lists.above.Goals as goal

pub returns-else-count-len-clause-value : goal.returns-else-count-len-clause-value
returns-else-count-len-clause-value g c x =
    let s = c.args.store.now in
    let n = bits_length g.B.Meaning s c.args.a.now x in
    ap (λ es. integer_under g.B.Meaning s es x) c.of.ensures
    ∙ (ap sign_value (c.bit.ensures.truth x) ∙ sym (shifted_past (bits_under g.B.Meaning s c.args.a.now x) c.args.count c.args.count (omega (arith, n)) (omega (arith, n)) (omega (arith, n))))
