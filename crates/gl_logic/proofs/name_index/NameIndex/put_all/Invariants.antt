use Rattle.std.proofs.Common.{◌≡◌, length, take}
use Rattle.gl_logic.specs.Named.{IsIndex}
use Rattle.gl_logic.specs.NewNames.{numbers_of}
use Rattle.gl_logic.proofs.name_index.NameIndex.put_all.Given as goal

abbrev pub invariant-loop-i : goal.invariant-loop-i
invariant-loop-i l = (length l.self ≡ length l.fn.self) × IsIndex l.self (take l.i (numbers_of l.defs))
