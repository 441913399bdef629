use Rattle.std.proofs.Common.{◌≡◌, drop}
use Rattle.std.specs.List.{list_all}
use Rattle.gl_translate.specs.Macros.{is_declared}
use Rattle.gl_translate.specs.Contexts.{setting_in}
use Rattle.gl_translate.proofs.context.Context.are_declared.Given as goal

abbrev pub invariant-loop-form : goal.invariant-loop-form
invariant-loop-form l = list_all (is_declared (setting_in l.self)) (drop l.form-index l.forms) ≡ list_all (is_declared (setting_in l.self)) l.forms
