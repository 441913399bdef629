use Rattle.gl_translate.specs.Steps.{weight}
use Rattle.gl_translate.proofs.context.Context.headed_step.Goals as goal

pub returns-then-eq-clause-below : goal.returns-then-eq-clause-below
returns-then-eq-clause-below c = c.if_step.ensures.below (weight c.args.forms.now)

pub returns-then-eq-2-clause-below : goal.returns-then-eq-2-clause-below
returns-then-eq-2-clause-below c = c.quote_step.ensures.below (weight c.args.forms.now)

pub returns-in-None-clause-below : goal.returns-in-None-clause-below
returns-in-None-clause-below c = c.function_step.ensures.below (weight c.args.forms.now)
