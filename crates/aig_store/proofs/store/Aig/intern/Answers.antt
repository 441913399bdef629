use Rattle.aig_store.proofs.Pushes.{extends-push}
use Rattle.aig_store.proofs.store.Aig.intern.Goals as goal

pub returns-clause-extends : goal.returns-clause-extends
returns-clause-extends c = rw c.push.ensures.added (extends-push c.args.self.now c.args.node c.limit_of-limit.ensures.ordered c.limit_of-limit.ensures.distinct c.requires.proper c.in_default.ensures.absent)
