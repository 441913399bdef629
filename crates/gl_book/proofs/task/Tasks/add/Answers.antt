use Rattle.gl_cases.specs.ParamMade.{param_seen}
use Rattle.shape_spec.specs.TheoremSeen.{theorem_seen}
use Rattle.gl_book.specs.Tasks.{tasks_in}
use Rattle.gl_book.proofs.Gathered.{cases_next}
use Rattle.gl_book.proofs.task.Tasks.add.Goals as goal

pub loop-i-preserved : goal.loop-i-preserved
loop-i-preserved c = cases_next c.args.memoized.now (tasks_in c.args.self.now) (param_seen c.in-Cases.thm) c.loop-i.i (theorem_seen c.at.result.now) (tasks_in c.loop-i.self) (tasks_in c.push-in-loop-i.new.self) c.at.ensures c.loop-i.invariant c.in_ok-push-2.ensures
