use Rattle.std.proofs.Common.{◌∙◌, sym}
use Rattle.gl_translate.specs.Heads.{macro_word, all_macros}
use Rattle.gl_translate.proofs.Searches.{word_next}
use Rattle.gl_translate.proofs.words.macro_named.Goals as goal

pub loop-found-preserved : goal.loop-found-preserved
loop-found-preserved c =
    sym (word_next c.args.word.now macro_word all_macros c.loop-found.found-index _ c.loop-found-test.true c.macro_word.result.now c.macro_word.ensures (sym c.eq.ensures ∙ c.if-eq.false))
    ∙ c.loop-found.invariant
