use Rattle.std.proofs.Common.{subst}
use Rattle.std.specs.Prelude.{IfSome}
use Rattle.gl_decide.specs.Bounds.{bounds_of}
use Rattle.explain_findings.specs.Questions.{IsAnswerTo}
use Rattle.explain_findings.proofs.Founds.{found_told}
use Rattle.explain_findings.proofs.asker.Asker.try_form.Goals as goal

pub returns-in-Some : goal.returns-in-Some
returns-in-Some g c = found_told _ _ _ _ _ c.in-Some.field-0.answer (subst (λ o. IfSome o (λ q. IsAnswerTo c.answered.new.texts (bounds_of c.args.limits.now) c.args.self.now.state.now c.args.mode c.args.form.now q.answer)) c.in-Some.is c.in_ok-event.ensures) c.found_of.result c.found_of.ensures.agrees
