use Rattle.std.proofs.Common.{ap, subst}
use Rattle.event_world.specs.Seen.{event_seen}
use Rattle.gl_cases.specs.ParamMade.{param_seen}
use Rattle.gl_book.specs.Phases.{job_seen}
use Rattle.gl_book.specs.Tasks.{TakesVerdicts}
use Rattle.gl_book.proofs.Gathered.{cases_taken}
use Rattle.gl_book.proofs.gather.next_answer.Goals as goal

pub returns-in_ok-whole_of-in-Ok : goal.returns-in_ok-whole_of-in-Ok
returns-in_ok-whole_of-in-Ok c =
    let mid = c.next_verdict-cover.new.given.items in
    let left = c.next_verdicts.new.given.items in
    let cases = c.in-Ok.cases.items in
    cases_taken (job_seen c.args.job.now) (param_seen c.in-Cases.thm) c.args.given.now.items mid left c.next_verdict-cover.result cases c.in_ok-whole_of-in-Ok.field-0 (ap event_seen c.in-Cases.is) c.next_verdict-cover.ensures
    (subst (λ n. TakesVerdicts n mid cases left) c.len.ensures c.in-Ok.ensures.verdicts) c.in_ok-whole_of-in-Ok.ensures
