use Rattle.std.proofs.Common.{◌∙◌, sym}
use Rattle.lisp_eval.proofs.applied.value_of.Goals as goal

pub returns-then-is_predicate-clause-value : goal.returns-then-is_predicate-clause-value
returns-then-is_predicate-clause-value c =
    let objects = c.args.arena.now.objects in (c.truth.ensures.live objects, c.truth.ensures.value objects ∙ sym c.predicate.ensures)
