use Rattle.std.proofs.Common.{take}
use Rattle.cnf_rup.specs.Literals.{IsUpTo}
use Rattle.lrat_tests.proofs.tests.texts.is_small.Given as goal

abbrev pub invariant-loop-literal : goal.invariant-loop-literal
invariant-loop-literal l = IsUpTo 10000000 (take l.literal-index l.literal-items)
