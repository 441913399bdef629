use Rattle.std.proofs.Common.{◌∙◌, ap, sym, cond, Option, Some, None, arith}
use Rattle.gl_translate.specs.Meaning.{Meaning}
use Rattle.gl_translate.specs.Translation.{meaning}
use Rattle.gl_translate.specs.Contexts.{setting_in}
use Rattle.gl_translate.proofs.Clauses.{body_first}
use Rattle.gl_translate.proofs.context.Context.body_of.Goals as goal

pub returns-then-are_declares-clause-body : goal.returns-then-are_declares-clause-body
returns-then-are_declares-clause-body c =
    let s = setting_in c.args.self.now in
    sym (body_first s c.args.rest.now c.body-item.result (omega (arith, c.in-len1-up.len_at_least)) c.body-item.is ∙ ap (λ b. cond b (Some (meaning s c.body-item.result)) None) (sym c.are_declares.ensures ∙ c.if-are_declares.true))

pub returns-else-are_declares-clause-body : goal.returns-else-are_declares-clause-body
returns-else-are_declares-clause-body c =
    let s = setting_in c.args.self.now in
    sym (body_first s c.args.rest.now c.body-item.result (omega (arith, c.in-len1-up.len_at_least)) c.body-item.is ∙ ap (λ b. cond b (Some (meaning s c.body-item.result)) None) (sym c.are_declares.ensures ∙ c.if-are_declares.false))
