use Rattle.std.proofs.Common.{◌≡◌, take}
use Rattle.lrat_tool.specs.Written.{greatest_of}
use Rattle.lrat_tool.proofs.written.greatest_of.Given as goal

abbrev pub invariant-loop-literal : goal.invariant-loop-literal
invariant-loop-literal l = l.most ≡ greatest_of (take l.literal-index l.literal-items)
