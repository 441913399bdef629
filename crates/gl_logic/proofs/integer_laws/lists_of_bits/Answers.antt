use Rattle.std.proofs.Common.{◌∷◌, length}
use Rattle.gl_logic.specs.TwosComplement.{integer_of}
use Rattle.gl_logic.proofs.TwosComplement.{within, signed, from_bits_of, list_within, bits_back, bit_integer, bit_of_bits}
use Rattle.gl_logic.proofs.integer_laws.lists_of_bits.Goals as goal

pub returns-clause-integer : goal.returns-clause-integer
returns-clause-integer c w i h = from_bits_of w i (within w i h)

pub returns-clause-within : goal.returns-clause-within
returns-clause-within c b bs = signed (length bs) (integer_of (b ∷ bs)) (list_within b bs)

pub returns-clause-list : goal.returns-clause-list
returns-clause-list c = bits_back

pub returns-clause-bit : goal.returns-clause-bit
returns-clause-bit c k bs = bit_integer bs k

pub returns-clause-bit_of_bits : goal.returns-clause-bit_of_bits
returns-clause-bit_of_bits c = bit_of_bits
