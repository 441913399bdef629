use Rattle.std.proofs.Common.{◌≡◌, ℕ, List, length, vec_len}
use Rattle.lrat_tool.specs.Parts.{AreJoined, EachRead}
use Rattle.lrat_tool.proofs.joining.joined.Given as goal

abbrev pub invariant-loop-read : goal.invariant-loop-read
invariant-loop-read l = (parts : List (List (List ℕ))) → length parts ≡ length l.fn.reads.items → EachRead l.first parts l.fn.reads.items → AreJoined l.first parts l.reads.items l.whole

abbrev pub decreases-loop-read : goal.decreases-loop-read
decreases-loop-read l = vec_len l.reads
