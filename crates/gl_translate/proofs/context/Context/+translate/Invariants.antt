use Rattle.std.proofs.Common.{◌≡◌, ◌+◌, ◌*◌, ◌-◌, drop, map}
use Rattle.gl_logic.specs.TermOf.{term_of, terms_of}
use Rattle.gl_translate.specs.Meaning.{every_part}
use Rattle.gl_translate.specs.Translation.{are_in}
use Rattle.gl_translate.specs.Steps.{form_means}
use Rattle.gl_translate.specs.Contexts.{setting_in}
use Rattle.gl_translate.proofs.Outcomes.{to_come}
use Rattle.gl_translate.proofs.context.Context.+translate.Given as goal

-- each form around leaves one less
abbrev pub decreases-term : goal.decreases-term
decreases-term l = 4 * (2001 - l.around)

abbrev pub decreases-terms : goal.decreases-terms
decreases-terms l = 4 * (2001 - l.around) + 1

abbrev pub decreases-conditional : goal.decreases-conditional
decreases-conditional l = 4 * (2001 - l.around) + 1

abbrev pub decreases-either : goal.decreases-either
decreases-either l = 4 * (2001 - l.around) + 1

abbrev pub decreases-binding : goal.decreases-binding
decreases-binding l = 4 * (2001 - l.around) + 2

abbrev pub decreases-taken : goal.decreases-taken
decreases-taken l = 4 * (2001 - l.around) + 3

-- the terms so far, in front of those still to come, are those of the whole
abbrev pub invariant-terms-loop-form : goal.invariant-terms-loop-form
invariant-terms-loop-form l = record {
  bound : l.bound ≡ l.fn.bound;
  comes : to_come (map term_of l.terms.items) (every_part (map (form_means (setting_in l.self)) (drop l.form-index l.form-items)) (are_in l.fn.bound) l.around) ≡ every_part (map (form_means (setting_in l.self)) l.form-items) (are_in l.fn.bound) l.around;
}
