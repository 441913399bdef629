use Rattle.gl_logic.proofs.Bitwise.{bit_of_and, bit_of_or, bit_of_xor}
use Rattle.gl_logic.proofs.TwosComplement.{bit_half, same_bits}
use Rattle.gl_logic.proofs.integer_laws.bits.Goals as goal

pub returns-clause-and : goal.returns-clause-and
returns-clause-and c = bit_of_and

pub returns-clause-or : goal.returns-clause-or
returns-clause-or c = bit_of_or

pub returns-clause-xor : goal.returns-clause-xor
returns-clause-xor c = bit_of_xor

pub returns-clause-higher : goal.returns-clause-higher
returns-clause-higher c = bit_half

pub returns-clause-same : goal.returns-clause-same
returns-clause-same c = same_bits
