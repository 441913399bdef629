use Rattle.gl_book.specs.Phases.{job_seen, jobs_of}
use Rattle.gl_book.specs.Tasks.{tasks_in}
use Rattle.gl_book.proofs.Gathered.{jobs_next}
use Rattle.gl_book.proofs.task.tasks_of.Goals as goal

pub loop-i-preserved : goal.loop-i-preserved
loop-i-preserved c = jobs_next (jobs_of c.args.waiting.now) c.loop-i.i (job_seen c.at-job.result.now) (tasks_in c.loop-i.tasks) (tasks_in c.add.new.self) c.at-job.ensures c.loop-i.invariant c.in_ok-add.ensures
