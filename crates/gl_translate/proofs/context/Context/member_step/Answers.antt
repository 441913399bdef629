use Rattle.std.proofs.Common.{◌∙◌, ap, sym, arith}
use Rattle.gl_translate.specs.Meaning.{fault}
use Rattle.gl_translate.specs.Contexts.{setting_in}
use Rattle.gl_translate.proofs.Clauses.{member_more}
use Rattle.gl_translate.proofs.context.Context.member_step.Goals as goal

pub returns-in-len2-up-clause-takes : goal.returns-in-len2-up-clause-takes
returns-in-len2-up-clause-takes c ne = member_more (setting_in c.args.self.now) c.args.forms.now (omega (arith, c.in-len2-up.len_at_least)) ∙ ap fault (sym c.option_fault.ensures)
