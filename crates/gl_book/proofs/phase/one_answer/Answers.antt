use Rattle.std.proofs.Common.{◌∙◌, ◌++◌, ◌∷◌, [], ap, sym, subst, List}
use Rattle.gl_decide.specs.Bounds.{bounds_of}
use Rattle.gl_book.specs.Phases.{AreAnswered}
use Rattle.gl_book.specs.Tasks.{task_seen, tasks_in}
use Rattle.gl_book.specs.declared.answer.Answer.{Answer}
use Rattle.gl_book.proofs.Phases.{answered_one}
use Rattle.gl_book.proofs.phase.one_answer.Goals as goal

pub returns : goal.returns
returns g c =
    let bounds = bounds_of c.args.limits.now in
    let w = c.args.world.now in
    let jobs = tasks_in c.args.tasks.now in
    subst (λ (answers : List Answer). AreAnswered bounds w jobs answers) (sym (c.in_ok-push.ensures.items ∙ ap (λ xs. xs ++ c.task_answer.result ∷ []) c.new-answers.ensures.items))
    (answered_one bounds w jobs (task_seen c.at.result.now) c.task_answer.result c.requires.one c.at.ensures c.task_answer.ensures)
