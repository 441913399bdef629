use Rattle.gl_logic.specs.TermOf.{term_of}
use Rattle.gl_logic.proofs.EqualTerms.{same_told}
use Rattle.gl_logic.proofs.same_terms.are_same.Goals as goal

pub returns : goal.returns
returns c = same_told c.same.result (term_of c.args.a.now) (term_of c.args.b.now) c.same.ensures
