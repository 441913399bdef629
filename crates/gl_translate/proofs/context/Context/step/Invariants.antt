use Rattle.std.proofs.Common.{◌≡◌}
use Rattle.gl_logic.specs.Lists.{size_of}
use Rattle.gl_translate.specs.declared.form.Step.{Step}
use Rattle.gl_translate.specs.declared.form.Step.TheVariants as step
use Rattle.gl_translate.specs.Steps.{step_means, form_means}
use Rattle.gl_translate.specs.Contexts.{setting_in}
use Rattle.gl_translate.proofs.Sizes.{size_in}
use Rattle.gl_translate.proofs.context.Context.step.Given as goal

abbrev pub invariant-loop-next : goal.invariant-loop-next
invariant-loop-next l = form_means (setting_in l.self) l.fn.form ≡ step_means (setting_in l.self) l.next

abbrev pub decreases-loop-next : goal.decreases-loop-next
decreases-loop-next l = size_in l.next
