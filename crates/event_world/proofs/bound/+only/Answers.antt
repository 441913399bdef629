use Rattle.std.proofs.Common.{arith}
use Rattle.std.proofs.lemmas.Grind.{common_steps}
use Rattle.event_world.proofs.bound.+only.Goals as goal

pub have_only-loop-term-preserved : goal.have_only-loop-term-preserved
have_only-loop-term-preserved t c = grind (arith, common_steps)

pub has_only_below-returns-clause-told : goal.has_only_below-returns-clause-told
has_only_below-returns-clause-told t c = grind (arith, common_steps)

pub has_only_below-returns-clause-same : goal.has_only_below-returns-clause-same
has_only_below-returns-clause-same t c = grind (arith, common_steps)

pub have_only-returns-then-not-branch-clause-told : goal.have_only-returns-then-not-branch-clause-told
have_only-returns-then-not-branch-clause-told t c = grind (arith, common_steps)

pub have_only-returns-clause-told : goal.have_only-returns-clause-told
have_only-returns-clause-told t c = grind (arith, common_steps)
