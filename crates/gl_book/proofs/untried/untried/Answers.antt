use Rattle.std.proofs.Common.{sym, subst}
use Rattle.event_world.specs.Seen.{event_seen}
use Rattle.event_world.specs.declared.event.Event.{Event}
use Rattle.gl_cases.specs.ParamMade.{param_seen}
use Rattle.gl_decide.specs.Bounds.{bounds_of}
use Rattle.gl_decide.specs.declared.verdict.Verdict.TheVariants as verdict
use Rattle.gl_book.specs.Answers.{IsProperAnswer}
use Rattle.book_state.specs.Answerable.{IsOfDefinitions}
use Rattle.gl_book.specs.declared.answer.Answer.TheVariants as answer
use Rattle.gl_book.specs.declared.cases.CasesVerdict.TheVariants as whole
use Rattle.gl_book.proofs.PartsDecided.{memory_decides}
use Rattle.gl_book.proofs.untried.untried.Goals as goal

pub returns-in-Cases : goal.returns-in-Cases
returns-in-Cases c =
    let w = c.args.world.now in
    let bounds = bounds_of c.args.limits.now in
    let is = c.in-Cases.is in
    let ready = subst (λ (e : Event). IsOfDefinitions w.definitions (event_seen e)) is c.requires.event in
    subst (λ (e : Event). IsProperAnswer bounds w c.args.memoized.now (event_seen e) (answer.ByCases (whole.Cover verdict.Memory))) (sym is)
    (memory_decides bounds w (param_seen c.in-Cases.field-0) ready.parts)
