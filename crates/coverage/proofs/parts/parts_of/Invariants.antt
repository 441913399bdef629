use Rattle.std.proofs.Common.{take}
use Rattle.coverage.specs.Heads.{subject_of}
use Rattle.coverage.specs.Parts.{AreParts}
use Rattle.coverage.specs.Dealt.{terms_in, lists_in}
use Rattle.coverage.proofs.parts.parts_of.Given as goal

abbrev pub invariant-loop-term : goal.invariant-loop-term
invariant-loop-term l = AreParts l.count (subject_of l.subject) (terms_in (take l.term-index l.said)) (lists_in l.lists)
