use Rattle.std.proofs.Common.{◌≡◌}
use Rattle.gl_book.specs.Generated.{generated}
use Rattle.gl_book.proofs.generator.generate.Given as goal

abbrev pub invariant-loop-i : goal.invariant-loop-i
invariant-loop-i l = l.bytes.items ≡ generated l.i
