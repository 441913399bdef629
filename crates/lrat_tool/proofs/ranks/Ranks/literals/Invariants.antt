use Rattle.std.proofs.Common.{take}
use Rattle.sexp_print.specs.Printed.{BeginsWith}
use Rattle.lrat_tool.specs.Ranks.{AreRanked}
use Rattle.lrat_tool.proofs.ranks.Ranks.literals.Given as goal

abbrev pub invariant-loop-literal : goal.invariant-loop-literal
invariant-loop-literal l = record {
  ranked : AreRanked l.self (take l.literal-index l.literals) l.ranked.items;
  grows : BeginsWith l.fn.self l.self;
}
