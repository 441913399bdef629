use Rattle.std.proofs.Common.{◌≡◌, drop}
use Rattle.lrat_tool.specs.Pieces.{joined_of}
use Rattle.lrat_tool.proofs.pieces.joined.Given as goal

abbrev pub invariant-loop-answer : goal.invariant-loop-answer
invariant-loop-answer l = joined_of (drop l.answer-index l.answers) ≡ joined_of l.answers
