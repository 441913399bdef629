use Rattle.std.proofs.Common.{sym, subst}
use Rattle.gl_translate.specs.declared.form.Form.{Form}
use Rattle.gl_translate.specs.Steps.{Takes, form_means}
use Rattle.gl_translate.specs.Contexts.{setting_in}
use Rattle.gl_translate.proofs.context.Context.first_step.Goals as goal

pub returns-in-Test : goal.returns-in-Test
returns-in-Test c = subst (λ (f : Form). Takes (setting_in c.args.self.now) (form_means (setting_in c.args.self.now) f) c.test_step.result) (sym c.in-Test.is) c.test_step.ensures

pub returns-in-LessOne : goal.returns-in-LessOne
returns-in-LessOne c = subst (λ (f : Form). Takes (setting_in c.args.self.now) (form_means (setting_in c.args.self.now) f) c.unary-in-LessOne.result) (sym c.in-LessOne.is) (c.unary-in-LessOne.ensures.takes (setting_in c.args.self.now))
