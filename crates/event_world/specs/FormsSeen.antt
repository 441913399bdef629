-- What the parts of an event's form stand for.
use Rattle.std.specs.Prelude.{map}
use Rattle.std.specs.Option.{option_copied}
use Rattle.event_world.specs.declared.defun_form.DefunForm.{DefunForm}
use Rattle.event_world.specs.declared.clique_form.StatedForm.{StatedForm}
use Rattle.event_world.specs.declared.clique_form.MadeForm.{MadeForm}
use Rattle.event_world.specs.declared.theorem_form.TheoremForm.{TheoremForm}
use Rattle.event_world.specs.declared.cases_form.CasesForm.{CasesForm}
use Rattle.event_world.specs.declared.cases_form.CaseForm.{CaseForm}
use Rattle.event_world.specs.declared.cases_form.QuotedForm.{QuotedForm}
use Rattle.event_world.specs.DefunMeant.{DefunParts}
use Rattle.event_world.specs.CliqueMeant.{StatedMember, MadeMember}
use Rattle.event_world.specs.TheoremForms.{TheoremParts}
use Rattle.event_world.specs.CasesForms.{CasesParts}
use Rattle.event_world.specs.CasesMeant.{CaseParts, QuotedCases}

abbrev pub defun_seen : DefunForm → DefunParts
defun_seen d = record { name = d.name.number; formals = d.formals; before = d.before; body = d.body.now }

abbrev pub stated_seen : StatedForm → StatedMember
stated_seen d = record { parts = defun_seen d.form; stated = d.stated }

abbrev pub made_seen : MadeForm → MadeMember
made_seen m = record { name = m.name.number; formals = m.formals; body = m.body.now; stated = m.stated }

abbrev pub theorem_form_seen : TheoremForm → TheoremParts
theorem_form_seen p = record { name = p.name.number; hyp = option_copied p.hyp; concl = p.concl.now; bindings = p.bindings.now; options = p.options }

abbrev pub cases_form_seen : CasesForm → CasesParts
cases_form_seen p = record { name = p.name.number; hyp = option_copied p.hyp; concl = p.concl.now; term = p.term.now; cases = p.cases.now; cover = p.cover.now; options = p.options }

abbrev pub case_form_seen : CaseForm → CaseParts
case_form_seen c = record { constants = c.constants; bindings = c.bindings.now }

abbrev pub quoted_form_seen : QuotedForm → QuotedCases
quoted_form_seen q = record { mark = q.mark.now; cases = map case_form_seen q.cases.items }
