use Rattle.gl_translate.specs.Steps.{weight}
use Rattle.gl_translate.proofs.context.Context.macro_step.Goals as goal

pub returns-in-Cond-clause-below : goal.returns-in-Cond-clause-below
returns-in-Cond-clause-below c = c.cond_step.ensures.below (weight c.args.forms.now)

pub returns-in-Case-clause-below : goal.returns-in-Case-clause-below
returns-in-Case-clause-below c = c.case_step.ensures.below (weight c.args.forms.now)

pub returns-in-Let-clause-below : goal.returns-in-Let-clause-below
returns-in-Let-clause-below c = c.let_step.ensures.below (weight c.args.forms.now)

pub returns-in-List-clause-below : goal.returns-in-List-clause-below
returns-in-List-clause-below c = c.list_step.ensures.below (weight c.args.forms.now)

pub returns-in-Minus-clause-below : goal.returns-in-Minus-clause-below
returns-in-Minus-clause-below c = c.minus_step.ensures.below (weight c.args.forms.now)

pub returns-in-OneMore-clause-below : goal.returns-in-OneMore-clause-below
returns-in-OneMore-clause-below c = c.one_more_step.ensures.below (weight c.args.forms.now)

pub returns-in-OneLess-clause-below : goal.returns-in-OneLess-clause-below
returns-in-OneLess-clause-below c = c.one_less_step.ensures.below (weight c.args.forms.now)

pub returns-in-AtMost-clause-below : goal.returns-in-AtMost-clause-below
returns-in-AtMost-clause-below c = c.at_most_step.ensures.below (weight c.args.forms.now)

pub returns-in-Above-clause-below : goal.returns-in-Above-clause-below
returns-in-Above-clause-below c = c.above_step.ensures.below (weight c.args.forms.now)

pub returns-in-AtLeast-clause-below : goal.returns-in-AtLeast-clause-below
returns-in-AtLeast-clause-below c = c.at_least_step.ensures.below (weight c.args.forms.now)

pub returns-in-Unequal-clause-below : goal.returns-in-Unequal-clause-below
returns-in-Unequal-clause-below c = c.unequal_step.ensures.below (weight c.args.forms.now)

pub returns-in-Member-clause-below : goal.returns-in-Member-clause-below
returns-in-Member-clause-below c = c.member_step.ensures.below (weight c.args.forms.now)

pub returns-in-First-clause-below : goal.returns-in-First-clause-below
returns-in-First-clause-below c = c.path_call.ensures.below (weight c.args.forms.now)

pub returns-in-Second-clause-below : goal.returns-in-Second-clause-below
returns-in-Second-clause-below c = c.path_call-in-Second.ensures.below (weight c.args.forms.now)

pub returns-in-Third-clause-below : goal.returns-in-Third-clause-below
returns-in-Third-clause-below c = c.path_call-in-Third.ensures.below (weight c.args.forms.now)

pub returns-in-Fourth-clause-below : goal.returns-in-Fourth-clause-below
returns-in-Fourth-clause-below c = c.path_call-in-Fourth.ensures.below (weight c.args.forms.now)

pub returns-in-Fifth-clause-below : goal.returns-in-Fifth-clause-below
returns-in-Fifth-clause-below c = c.path_call-in-Fifth.ensures.below (weight c.args.forms.now)

pub returns-in-Rest-clause-below : goal.returns-in-Rest-clause-below
returns-in-Rest-clause-below c = c.path_call-in-Rest.ensures.below (weight c.args.forms.now)
