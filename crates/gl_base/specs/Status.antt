-- The exit codes.
use Rattle.std.specs.Prelude.{ℕ}
use Rattle.gl_base.specs.declared.status.Status.{Status}
use Rattle.gl_base.specs.declared.status.Status.TheVariants.{Good, Refuted, BookRefused, Undecided, ReadFault, WriteFault, NoMemory, Usage}

abbrev pub code_of : Status → ℕ
code_of Good = 0
code_of Refuted = 1
code_of BookRefused = 2
code_of Undecided = 3
code_of ReadFault = 4
code_of WriteFault = 5
code_of NoMemory = 6
code_of Usage = 64
