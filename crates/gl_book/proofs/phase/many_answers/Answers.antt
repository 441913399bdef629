use Rattle.std.proofs.Common.{◌≡◌, subst, length, rules}
use Rattle.std.proofs.lemmas.Result.{IfOk-weaker}
use Rattle.gl_decide.specs.Bounds.{Bounds, bounds_of}
use Rattle.gl_book.specs.Phases.{AreAnswered}
use Rattle.gl_book.specs.Tasks.{tasks_in}
use Rattle.gl_book.specs.Pieces.{Follow}
use Rattle.gl_book.proofs.Phases.{all_answered, all_within}
use Rattle.gl_book.proofs.phase.many_answers.Goals as goal

pub answers_by_piece-requires-clause-within : goal.answers_by_piece-requires-clause-within
answers_by_piece-requires-clause-within g c κs within =
    let jobs = tasks_in c.args.tasks.now in
    all_within 0 (length jobs) c.in_ok-pieces.pieces.items (subst (Follow 0 c.in_ok-pieces.pieces.items) c.len.ensures c.in_ok-pieces.ensures.follow)

pub returns : goal.returns
returns g c =
    let bounds = bounds_of c.args.limits.now in
    let w = c.args.world.now in
    let jobs = tasks_in c.args.tasks.now in
    let pieces = c.in_ok-pieces.pieces.items in
    let parts = c.in_ok-parts.parts.items in
    let many : length parts ≡ length pieces = search (rules, c.in_ok-parts.ensures.count) in
    IfOk-weaker c.joined.result _ _ (λ v k. subst (λ (b : Bounds). AreAnswered b w jobs v.items) c.alone.ensures.same
    (all_answered (bounds_of c.alone.result) w jobs pieces parts v.items (subst (Follow 0 pieces) c.len.ensures c.in_ok-pieces.ensures.follow) many c.in_ok-parts.ensures.each k)) c.joined.ensures
