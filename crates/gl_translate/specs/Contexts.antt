-- What a context stands for, and what forms mean in it.
use Rattle.std.specs.Prelude.{ℕ, List, map}
use Rattle.gl_logic.specs.Exp.{Exp}
use Rattle.gl_translate.specs.declared.context.Context.{Context}
use Rattle.gl_translate.specs.declared.form.Form.{Form}
use Rattle.gl_translate.specs.declared.form.Step.{Step}
use Rattle.gl_translate.specs.Setting.{Setting}
use Rattle.gl_translate.specs.Meaning.{Outcome, every_part}
use Rattle.gl_translate.specs.Translation.{setting_of, are_in}
use Rattle.gl_translate.specs.Steps.{form_means, step_inside}

abbrev pub setting_in : Context → Setting
setting_in c = setting_of c.texts.now c.world.now c.every c.own.now

-- where these variables are bound, inside so many others: a form, forms, and the parts of a step
abbrev pub form_in : Context → Form → List ℕ → ℕ → Outcome Exp
form_in c f bound around = form_means (setting_in c) f (are_in bound) around

abbrev pub forms_in : Context → List Form → List ℕ → ℕ → Outcome (List Exp)
forms_in c fs bound around = every_part (map (form_means (setting_in c)) fs) (are_in bound) around

abbrev pub step_in : Context → Step → List ℕ → ℕ → Outcome Exp
step_in c st bound around = step_inside (setting_in c) st (are_in bound) around
