use Rattle.std.proofs.Common.{◌∙◌, sym, ap, option_map}
use Rattle.command_line.specs.Options.{option_number}
use Rattle.command_line.proofs.options.number_of.Goals as goal

pub returns-in-Some-clause-meant : goal.returns-in-Some-clause-meant
returns-in-Some-clause-meant c = c.number_in.ensures.meant ∙ ap (option_number c.args.usual c.args.least c.args.most) (sym (ap (option_map (λ s. s.now)) c.in-Some.is) ∙ c.text_of.ensures)

pub returns-in-None-clause-meant : goal.returns-in-None-clause-meant
returns-in-None-clause-meant c = ap (option_number c.args.usual c.args.least c.args.most) (sym (ap (option_map (λ s. s.now)) c.in-None.is) ∙ c.text_of.ensures)
