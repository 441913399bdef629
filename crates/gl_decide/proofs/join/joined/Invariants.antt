use Rattle.std.proofs.Common.{◌≡◌, false, drop}
use Rattle.gl_decide.specs.Pieces.{joined_with}
use Rattle.gl_decide.proofs.join.joined.Given as goal

abbrev pub invariant-loop-answer : goal.invariant-loop-answer
invariant-loop-answer l = joined_with l.met (drop l.answer-index l.answers) ≡ joined_with false l.answers
