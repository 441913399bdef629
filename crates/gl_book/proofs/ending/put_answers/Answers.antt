use Rattle.std.proofs.Common.{◌≡◌, ◌∙◌, ◌<◌, ap, sym, subst, length, Some, arith}
use Rattle.std.specs.Prelude.{slice_get}
use Rattle.std.specs.Vec.Iter.{into_iter_items}
use Rattle.std.proofs.lemmas.Option.{slice_get_within}
use Rattle.gl_book.specs.Phases.{CanBeAnswered, job_seen, jobs_of}
use Rattle.gl_book.proofs.Phases.{all_at}
use Rattle.gl_book.specs.Stops.{HasRoom, counts_with}
use Rattle.gl_book.proofs.Joined.{on_err}
use Rattle.gl_book.proofs.Puts.{counts_next, get_of_drop, rest_of_drop, room_after, stalls_front, stalls_more, writes_front, writes_more}
use Rattle.gl_book.proofs.ending.put_answers.Goals as goal

pub with-counts-requires : goal.with-counts-requires
with-counts-requires g c =
    let answers = c.args.answers.items in
    let i = c.loop-answer.i in
    let at : slice_get answers i ≡ Some c.in-Some.answer = get_of_drop answers i c.in-Some.answer (into_iter_items c.next.new.self) (sym c.loop-answer.invariant.rest ∙ c.in-Some.ensures.steps.0) in
    let within : i < length (jobs_of c.args.waiting.now) = let l = slice_get_within answers i c.in-Some.answer at in omega (arith, l, c.requires.many) in
    subst HasRoom (sym c.loop-answer.invariant.counts) (room_after (length (jobs_of c.args.waiting.now)) i c.args.start answers within c.requires.many c.requires.room)

pub returns-in_err-put_job-clause-front : goal.returns-in_err-put_job-clause-front
returns-in_err-put_job-clause-front g c =
    let answers = c.args.answers.items in
    let i = c.loop-answer.i in
    let at : slice_get answers i ≡ Some c.in-Some.answer = get_of_drop answers i c.in-Some.answer (into_iter_items c.next.new.self) (sym c.loop-answer.invariant.rest ∙ c.in-Some.ensures.steps.0) in
    on_err c.from_residual.result (writes_front c.args.texts.now c.args.run.now.last_only (jobs_of c.args.waiting.now) answers i (job_seen c.at-job.result.now) c.in-Some.answer c.at-job.ensures at _ _ _ c.loop-answer.invariant.writes c.in_err-put_job.ensures.front)

pub returns-in_err-put_job-clause-keeps_front : goal.returns-in_err-put_job-clause-keeps_front
returns-in_err-put_job-clause-keeps_front g c =
    let answers = c.args.answers.items in
    let i = c.loop-answer.i in
    let at : slice_get answers i ≡ Some c.in-Some.answer = get_of_drop answers i c.in-Some.answer (into_iter_items c.next.new.self) (sym c.loop-answer.invariant.rest ∙ c.in-Some.ensures.steps.0) in
    on_err c.from_residual.result (stalls_front answers i c.in-Some.answer (g.O.Observer.stalls c.args.out.now) (g.O.Observer.stalls c.loop-answer.out) (g.O.Observer.stalls c.put_job.new.out) at c.loop-answer.invariant.keeps c.in_err-put_job.ensures.kept_front)

pub loop-answer-preserved : goal.loop-answer-preserved
loop-answer-preserved g c =
    let answers = c.args.answers.items in
    let i = c.loop-answer.i in
    let a = c.in-Some.answer in
    let left = into_iter_items c.next.new.self in
    let apart = sym c.loop-answer.invariant.rest ∙ c.in-Some.ensures.steps.0 in
    let at : slice_get answers i ≡ Some a = get_of_drop answers i a left apart in
    record {
      counted = let n = c.loop-answer.invariant.counted in let m = ap length c.in-Some.ensures.steps.0 in omega (arith, n, m, c.in-Some.ensures.steps.1);
      within = let l = slice_get_within answers i a at in omega (arith, l);
      rest = rest_of_drop answers i a left apart;
      faults = c.in_ok-put_job.ensures.cause ∙ c.loop-answer.invariant.faults;
      writes = writes_more c.args.texts.now c.args.run.now.last_only (jobs_of c.args.waiting.now) answers i (job_seen c.at-job.result.now) a c.at-job.ensures at _ _ _ c.loop-answer.invariant.writes c.in_ok-put_job.ensures.ok;
      keeps = stalls_more answers i a (g.O.Observer.stalls c.args.out.now) (g.O.Observer.stalls c.loop-answer.out) (g.O.Observer.stalls c.put_job.new.out) at c.loop-answer.invariant.keeps c.in_ok-put_job.ensures.kept;
      counts = c.with-counts.ensures ∙ (ap (λ k. counts_with k a) c.loop-answer.invariant.counts ∙ sym (counts_next c.args.start answers i a at));
    }

pub put_job-requires : goal.put_job-requires
put_job-requires g c =
    all_at (CanBeAnswered c.args.world.now.definitions) (jobs_of c.args.waiting.now) c.loop-answer.i (job_seen c.at-job.result.now) c.requires.ready c.at-job.ensures
