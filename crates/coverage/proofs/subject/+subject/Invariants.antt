use Rattle.std.proofs.Common.{◌+◌, ◌*◌}
use Rattle.coverage.specs.Heads.{depth_of}
use Rattle.coverage.proofs.subject.+subject.Given as goal

abbrev pub decreases-is_in : goal.decreases-is_in
decreases-is_in l = 2 * depth_of l.subject.now

abbrev pub decreases-is_found : goal.decreases-is_found
decreases-is_found l = 2 * depth_of l.subject.now + 1
