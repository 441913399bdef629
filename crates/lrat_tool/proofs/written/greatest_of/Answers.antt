use Rattle.std.proofs.Common.{◌≡◌, ◌∙◌, ap, sym, get_or, pos, rules, take, to_z-of_z, FitsSigned, w32}
use Rattle.std.specs.Prelude.{max}
use Rattle.std.specs.Int.RustNames.{unsigned_abs}
use Rattle.std.proofs.lemmas.Option.{slice_get-get_or}
use Rattle.lrat_tool.specs.Written.{greatest_of}
use Rattle.lrat_tool.proofs.WrittenSteps.{greatest_more, max_is}
use Rattle.lrat_tool.proofs.written.greatest_of.Goals as goal

pub loop-literal-preserved : goal.loop-literal-preserved
loop-literal-preserved c =
    let items = c.as_slice-literal-items.result.now in
    let i = c.loop-literal.literal-index in
    let literal = get_or items i (pos 0) in
    let fits : FitsSigned w32 literal = search rules in
    let size : c.unsigned_abs.result ≡ unsigned_abs literal = simp to_z-of_z at c.unsigned_abs.ensures.value in
    let before : c.loop-literal.most ≡ greatest_of (take i items) = c.loop-literal.invariant in
    c.max-most.ensures ∙ max_is c.loop-literal.most c.unsigned_abs.result
    ∙ ap (λ n. max n c.unsigned_abs.result) before ∙ ap (λ n. max (greatest_of (take i items)) n) size
    ∙ sym (greatest_more items i literal (slice_get-get_or items i (pos 0) c.loop-literal-test.true))
