use Rattle.bdd_store.proofs.Pushes.{extends-push}
use Rattle.bdd_store.proofs.store.Bdd.number_of.Goals as goal

pub returns-clause-extends : goal.returns-clause-extends
returns-clause-extends c = rw c.push.ensures.added (extends-push c.args.self.now c.args.node c.limit_of-limit.ensures.ordered c.limit_of-limit.ensures.distinct c.requires.branch c.in_default.ensures.absent)
