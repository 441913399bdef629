use Rattle.std.proofs.Common.{◌+◌, sym, subst, List}
use Rattle.gl_book.specs.Phases.{job_seen, jobs_of}
use Rattle.gl_book.specs.declared.answer.Answer.{Answer}
use Rattle.gl_book.proofs.Gathered.{Gathering, gathering_next}
use Rattle.gl_book.proofs.gather.gather.Goals as goal

pub loop-i-preserved : goal.loop-i-preserved
loop-i-preserved c =
    let jobs = jobs_of c.args.waiting.now in
    let given = c.args.answers.items in
    let last = c.next_answer.new.given.items in
    subst (λ (gathered : List Answer). Gathering jobs given (c.loop-i.i + 1) gathered last) (sym c.in_ok-push.ensures.items)
    (gathering_next jobs given c.loop-i.i c.loop-i.gathered.items c.loop-i.given.items (job_seen c.at.result.now) c.in_ok-next_answer.field-0 last c.at.ensures c.loop-i.invariant c.in_ok-next_answer.ensures)
