use Rattle.gl_logic.proofs.TwosComplement.{within, signed}
use Rattle.gl_logic.proofs.Lengths.{short, shorter, length_by_half}
use Rattle.gl_logic.proofs.integer_laws.lengths.Goals as goal

pub returns-clause-half : goal.returns-clause-half
returns-clause-half c = length_by_half

pub returns-clause-least : goal.returns-clause-least
returns-clause-least c k i = (λ h. short k i (within k i h), λ h. signed k i (shorter k i h))
