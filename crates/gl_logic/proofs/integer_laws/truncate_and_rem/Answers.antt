use Rattle.gl_logic.proofs.Quotients.{rem_smaller, rem_not_negative, rem_not_positive}
use Rattle.gl_logic.proofs.integer_laws.truncate_and_rem.Goals as goal

pub returns-clause-smaller : goal.returns-clause-smaller
returns-clause-smaller c = rem_smaller

pub returns-clause-not_negative : goal.returns-clause-not_negative
returns-clause-not_negative c = rem_not_negative

pub returns-clause-not_positive : goal.returns-clause-not_positive
returns-clause-not_positive c = rem_not_positive
