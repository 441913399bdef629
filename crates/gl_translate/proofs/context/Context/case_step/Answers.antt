use Rattle.std.proofs.Common.{◌≡◌, ◌∙◌, ap, sym, arith, take, length, map, ◌-◌, ◌∷◌, []}
use Rattle.gl_translate.specs.Setting.{unnamed}
use Rattle.gl_translate.specs.Meaning.{let_form}
use Rattle.gl_translate.specs.Macros.{case_form}
use Rattle.gl_translate.specs.Translation.{meaning}
use Rattle.gl_translate.specs.Steps.{parts_of, form_means, choice_forms}
use Rattle.gl_translate.specs.Contexts.{setting_in}
use Rattle.gl_translate.proofs.Forward.{parts_last}
use Rattle.gl_translate.proofs.Clauses.{chosen_is}
use Rattle.gl_translate.proofs.context.Context.case_step.Goals as goal

pub returns-in_ok-values-in-len1-up-clause-takes : goal.returns-in_ok-values-in-len1-up-clause-takes
returns-in_ok-values-in-len1-up-clause-takes c =
    let s = setting_in c.args.self.now in
    let xs = c.args.forms.now in
    let x = c.x-item.result in
    let rest = parts_of s (take (length xs - 1) xs) in
    let names : c.in_ok-names-in-len1-up.names ≡ unnamed s ∷ [] = c.in_ok-names-in-len1-up.ensures ∙ ap (λ n. n ∷ []) c.args.self.now.no_name in
    let values : map (form_means s) c.in_ok-values-in-len1-up.values.items ≡ meaning s x ∷ [] = ap (map (form_means s)) c.in_ok-values-in-len1-up.ensures in
    ap (case_form s) (parts_last s xs x (omega (arith, c.in-len1-up.len_at_least)) c.x-item.is)
    ∙ (chosen_is s (meaning s x) rest (sym c.are_choices.ensures ∙ c.if-not-are_choices.false)
    ∙ sym (ap (λ vs. let_form vs (map (form_means s) c.in_ok-values-in-len1-up.values.items) (choice_forms s rest)) names ∙ ap (λ ms. let_form (unnamed s ∷ []) ms (choice_forms s rest)) values))
