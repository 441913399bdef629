use Rattle.std.proofs.Common.{◌∙◌, ap, sym, take, length, ◌-◌, Some, arith}
use Rattle.gl_translate.specs.Translation.{list_meaning}
use Rattle.gl_translate.specs.Steps.{parts_of, weight}
use Rattle.gl_translate.specs.Contexts.{setting_in}
use Rattle.gl_translate.proofs.Forward.{takes_at}
use Rattle.gl_translate.proofs.Tables.{headed_is}
use Rattle.gl_translate.proofs.WholeLists.{whole_list, below_more, weight_take}
use Rattle.gl_translate.proofs.context.Context.parts_step.Goals as goal

pub returns-in-Some-clause-takes : goal.returns-in-Some-clause-takes
returns-in-Some-clause-takes c =
    let s = setting_in c.args.self.now in
    let es = c.args.parts.now in
    let forms = parts_of s (take (length es - 1) es) in
    let whole = whole_list s es c.head-item.result c.requires c.head-item.is ∙ ap (λ o. list_meaning s o (Some forms)) (sym c.in-Some.ensures) in
    takes_at s c.headed_step.result (sym (whole ∙ headed_is s c.in-Some.name.number forms)) c.headed_step.ensures.takes

pub returns-in-Some-clause-below : goal.returns-in-Some-clause-below
returns-in-Some-clause-below c =
    let es = c.args.parts.now in
    below_more (weight (take (length es - 1) es)) (weight es) c.headed_step.result (weight_take (length es - 1) es) c.headed_step.ensures.below

pub returns-in-None-clause-takes : goal.returns-in-None-clause-takes
returns-in-None-clause-takes c ne =
    let s = setting_in c.args.self.now in
    let es = c.args.parts.now in
    whole_list s es c.head-item.result c.requires c.head-item.is ∙ ap (λ o. list_meaning s o (Some (parts_of s (take (length es - 1) es)))) (sym c.in-None.ensures)
