use Rattle.std.proofs.Common.{◌≡◌, take}
use Rattle.gl_book.specs.Cases.{outcomes_of}
use Rattle.gl_book.proofs.cases.outcomes.Given as goal

abbrev pub invariant-loop-verdict : goal.invariant-loop-verdict
invariant-loop-verdict l = l.all ≡ outcomes_of (take l.verdict-index l.verdicts)
