use Rattle.std.proofs.Common.{◌∙◌, sym, min, ◌+◌, ◌*◌}
use Rattle.lrat_tool.proofs.Numbers.{digits_more, value_more}
use Rattle.lrat_tool.proofs.number.digits.Goals as goal

pub loop-byte-preserved : goal.loop-byte-preserved
loop-byte-preserved c = record {
  digits = digits_more c.args.word.now c.loop-byte.byte-index c.loop-byte-test.true c.loop-byte.invariant.digits (sym c.is_digit.ensures ∙ c.if-not-is_digit.false);
  value =
      c.min-value.ensures
      ∙ (λ i. min (c.loop-byte.invariant.value i * 10 + c.from.ensures i) 4294967296)
      ∙ value_more c.args.word.now c.loop-byte.byte-index c.loop-byte-test.true (sym c.is_digit.ensures ∙ c.if-not-is_digit.false);
}
