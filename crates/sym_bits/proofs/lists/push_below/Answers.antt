use Rattle.std.proofs.Common.{◌≡◌, ℕ, ◌+◌, Bool, [], ◌∷◌, ◌++◌, length, map, ◌+ℤ◌, arith, ap, ◌∙◌, sym}
use Rattle.sym_bits.specs.Columns.{onto, shifted}
use Rattle.sym_bits.specs.Integers.{AllLive, bits_under, integer_under}
use Rattle.sym_bits.proofs.Columns.{shifted_none}
use Rattle.sym_bits.proofs.lists.push_below.Goals as goal

pub returns-clause-value : goal.returns-clause-value
returns-clause-value g c x =
    let m = g.B.Meaning in
    let s = c.args.store.now in
    let xs = bits_under m s c.args.a.now x in
    c.append.ensures.value x
    ∙ (ap (λ es. onto (bits_under m s es x) (shifted xs 0)) (c.push.ensures ∙ ap (λ es. es ++ c.args.low ∷ []) c.new-digits.ensures)
    ∙ ap (onto (bits_under m s (c.args.low ∷ []) x)) (shifted_none xs))
