use Rattle.std.proofs.Common.{◌≡◌, ◌≤◌, get_or, pos, rules, arith, to_z-of_z, FitsSigned, w32}
use Rattle.std.specs.Int.RustNames.{unsigned_abs}
use Rattle.std.proofs.lemmas.List.Elements.{All-more}
use Rattle.lrat_tests.proofs.tests.texts.is_small.Goals as goal

pub loop-literal-preserved : goal.loop-literal-preserved
loop-literal-preserved c =
    let literal = get_or c.as_slice-literal-items.result.now c.loop-literal.literal-index (pos 0) in
    let fits : FitsSigned w32 literal = search rules in
    let size : c.unsigned_abs.result ≡ unsigned_abs literal = simp to_z-of_z at c.unsigned_abs.ensures.value in
    let small : unsigned_abs literal ≤ 10000000 = omega (arith, size) in
    All-more (λ l. unsigned_abs l ≤ 10000000) c.as_slice-literal-items.result.now c.loop-literal.literal-index (pos 0) c.loop-literal-test.true c.loop-literal.invariant small
