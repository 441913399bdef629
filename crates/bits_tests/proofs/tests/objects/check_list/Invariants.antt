use Rattle.std.proofs.Common.{◌<◌, length}
use Rattle.bits_tests.proofs.tests.objects.check_list.Given as goal

abbrev pub invariant-loop-i : goal.invariant-loop-i
invariant-loop-i g l = l.at.number < length l.objs.nodes
