use Rattle.std.proofs.Common.{◌∙◌, sym, add-one}
use Rattle.gl_base.proofs.Places.{named_here, not_named_here}
use Rattle.gl_base.proofs.named_texts.number_of.Goals as goal

pub returns-then-eq-clause-found : goal.returns-then-eq-clause-found
returns-then-eq-clause-found c =
    c.loop-i.invariant ∙ named_here c.args.texts.now c.args.name.now c.loop-i.i c.index-texts-i.result c.loop-i-test.true c.index-texts-i.is (rw (← c.as_str.ensures.value) (sym c.eq.ensures ∙ c.if-eq.true))

pub loop-i-preserved : goal.loop-i-preserved
loop-i-preserved c =
    rw add-one (c.loop-i.invariant ∙ not_named_here c.args.texts.now c.args.name.now c.loop-i.i c.index-texts-i.result c.loop-i-test.true c.index-texts-i.is (rw (← c.as_str.ensures.value) (sym c.eq.ensures ∙ c.if-eq.false)))
