use Rattle.std.proofs.Common.{◌∙◌, sym, subst, ℕ, List}
use Rattle.gl_logic.specs.WorldSeen.{WorldSeen}
use Rattle.event_world.specs.Seen.{event_seen}
use Rattle.gl_decide.specs.Bounds.{bounds_of}
use Rattle.gl_book.specs.Answers.{IsProperAnswer}
use Rattle.gl_book.specs.Walk.{refusal_at, without_value}
use Rattle.gl_book.specs.declared.refusal.RefusalCode.TheVariants as code
use Rattle.gl_book.proofs.last.take_event.Goals as goal

pub returns-in_default : goal.returns-in_default
returns-in_default c = λ names meant.
    let form = c.args.form.now in
    let bounds = bounds_of c.args.limits.now in
    let s = c.args.state.now in
    let e = event_seen c.args.event in
    let a = c.untried-answer.result in
    let why = c.in-Some.cause in
    let here = subst (λ (w : WorldSeen). IsProperAnswer bounds w c.memoized.result.now e a) c.world.ensures.world c.untried-answer.ensures in
    let proper = subst (λ (fs : List ℕ). IsProperAnswer bounds s.world fs e a) c.memoized.ensures.memoized here in
    (refusal_at form (code.Constant why), λ items end. without_value s form items end e a why meant proper (sym c.refused_cause.ensures ∙ c.in-Some.is) c.in_default.not-Memory)
