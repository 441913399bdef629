use Rattle.std.proofs.Common.{◌∙◌, ◌++◌, ap, sym, add-one}
use Rattle.gl_book.proofs.Joined.{concat_more}
use Rattle.gl_book.proofs.verdict_text.joined.Goals as goal

pub loop-i-preserved : goal.loop-i-preserved
loop-i-preserved c = rw add-one (c.in_ok-extend_from_slice.ensures.items ∙ (ap (λ bs. bs ++ c.at.result.now) c.loop-i.invariant ∙ sym (concat_more c.args.lines.now c.loop-i.i c.at.result.now c.at.ensures)))
