use Rattle.std.proofs.Common.{◌∙◌, ap, sym}
use Rattle.gl_translate.specs.Macros.{is_declared}
use Rattle.gl_translate.specs.Contexts.{setting_in}
use Rattle.gl_translate.proofs.Searches.{all_reverse, all_at_false, all_at_end}
use Rattle.gl_translate.proofs.context.Context.are_declared.Goals as goal

pub returns-then-not-is_declared : goal.returns-then-not-is_declared
returns-then-not-is_declared c =
    let p = is_declared (setting_in c.args.self.now) in
    sym (all_reverse p c.args.forms.now ∙ (sym c.loop-form.invariant ∙ all_at_false p c.args.forms.now c.loop-form.form-index c.form-item.result c.loop-form-test.true (ap p (sym c.form-item.is) ∙ (sym c.is_declared.ensures ∙ c.if-not-is_declared.true))))

pub returns : goal.returns
returns c =
    let p = is_declared (setting_in c.args.self.now) in
    sym (all_reverse p c.args.forms.now ∙ (sym c.loop-form.invariant ∙ all_at_end p c.args.forms.now c.loop-form.form-index c.loop-form-test.false))
