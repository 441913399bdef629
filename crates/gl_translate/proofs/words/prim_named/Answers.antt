use Rattle.std.proofs.Common.{◌∙◌, sym, rules}
use Rattle.gl_logic.specs.PrimCode.{all_prims}
use Rattle.gl_translate.specs.Heads.{prim_word}
use Rattle.gl_translate.proofs.Searches.{word_next}
use Rattle.gl_translate.proofs.Tables.{as_prim}
use Rattle.gl_translate.proofs.words.prim_named.Goals as goal

pub loop-found-preserved : goal.loop-found-preserved
loop-found-preserved c =
    sym (word_next c.args.word.now prim_word all_prims c.loop-found.found-index _ c.loop-found-test.true c.prim_word.result.now c.prim_word.ensures (sym c.eq.ensures ∙ c.if-eq.false))
    ∙ c.loop-found.invariant

pub returns-then-eq : goal.returns-then-eq
returns-then-eq c = as_prim c.args.word.now _ (search rules)

pub returns : goal.returns
returns c = as_prim c.args.word.now _ (search rules)
