use Rattle.std.proofs.Common.{◌≡◌, ◌≤◌, ◌-◌, ◌+◌, sym, subst, take, drop, List, ℕ, arith}
use Rattle.gl_decide.specs.Bounds.{bounds_of}
use Rattle.gl_book.specs.Phases.{AreAnswered, CanBeAnswered}
use Rattle.gl_book.specs.Tasks.{task_seen, tasks_in}
use Rattle.gl_book.specs.declared.answer.Answer.{Answer}
use Rattle.gl_book.proofs.Phases.{all_at, answered_none, answered_next}
use Rattle.gl_book.proofs.phase.piece_answers.Goals as goal

pub loop-number-init : goal.loop-number-init
loop-number-init g c =
    subst (λ (answers : List Answer). AreAnswered (bounds_of c.args.limits.now) c.args.world.now (take (c.args.piece.first - c.args.piece.first) (drop c.args.piece.first (tasks_in c.args.tasks.now))) answers) (sym c.new-answers.ensures.items)
    (answered_none (bounds_of c.args.limits.now) c.args.world.now (drop c.args.piece.first (tasks_in c.args.tasks.now)) c.args.piece.first)

pub task_answer-answer-requires-after_bounds : goal.task_answer-answer-requires-after_bounds
task_answer-answer-requires-after_bounds g c κs within = (all_at (CanBeAnswered c.args.world.now.definitions) (tasks_in c.args.tasks.now) c.loop-number.number (task_seen c.at.result.now) c.requires.answerable c.at.ensures)

pub loop-number-preserved : goal.loop-number-preserved
loop-number-preserved g c =
    let jobs = tasks_in c.args.tasks.now in
    let first = c.args.piece.first in
    let n = c.loop-number.number in
    let after : first ≤ n = omega (arith, c.loop-number.auto.number) in
    subst (λ (answers : List Answer). AreAnswered (bounds_of c.args.limits.now) c.args.world.now (take (n + 1 - first) (drop first jobs)) answers) (sym c.in_ok-push.ensures.items)
    (answered_next (bounds_of c.args.limits.now) c.args.world.now jobs first n (task_seen c.at.result.now) c.loop-number.answers.items c.task_answer-answer.result after c.at.ensures c.loop-number.invariant c.task_answer-answer.ensures)

pub returns : goal.returns
returns g c =
    let jobs = tasks_in c.args.tasks.now in
    let first = c.args.piece.first in
    let all : c.loop-number.number ≡ c.args.piece.end = let h = c.args.piece.has_jobs in omega (arith, c.loop-number-test.false, c.loop-number.auto.number-end, h) in
    subst (λ (e : ℕ). AreAnswered (bounds_of c.args.limits.now) c.args.world.now (take (e - first) (drop first jobs)) c.loop-number.answers.items) all c.loop-number.invariant
