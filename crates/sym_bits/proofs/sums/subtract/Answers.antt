use Rattle.std.proofs.Common.{◌≡◌, ℕ, Bool, ℤ, pos, negsuc, ◌+ℤ◌, ◌-ℤ◌, arith, ap, ◌∙◌}
use Rattle.std.proofs.lemmas.Int.{ints}
use Rattle.gl_logic.specs.Bitwise.{not_ℤ}
use Rattle.sym_bits.specs.Integers.{integer_under}
use Rattle.sym_bits.proofs.Calls.{integer_kept, integer_then}
use Rattle.sym_bits.proofs.sums.subtract.Goals as goal

less_one : (i j : ℤ) → (i +ℤ not_ℤ j) +ℤ pos 1 ≡ i -ℤ j
less_one i (pos n) = omega (arith, ints)
less_one i (negsuc n) = omega (arith, ints)

pub returns-clause-makes : goal.returns-clause-makes
returns-clause-makes g c =
    let m = g.B.Meaning in
    let start = c.args.store.now in
    let first = c.complement.new.store in
    let made = c.in_ok-flipped.ensures.makes in
    integer_then m start first _ _ _ _ made.keeps c.sum.ensures.makes (λ x.
    (λ i. (integer_kept m start first made.keeps c.args.a.now x c.requires.a i +ℤ made.value x i) +ℤ pos 1)
    ∙ less_one (integer_under m start c.args.a.now x) (integer_under m start c.args.b.now x))
