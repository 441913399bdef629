use Rattle.bdd_store.proofs.Stores.{store-other}
use Rattle.bdd_store.proofs.store.Bdd.grow.Goals as goal

pub invariant_of-self : goal.invariant_of-self
invariant_of-self c =
    let i = c.self.inside in
    let s = c.self.invariant.0 in (
      store-other i.nodes.nodes c.widen.new.entries.items i.limit i.width s.ordered s.distinct s.room (c.widen.ensures.answers i.nodes.nodes s.ordered.some s.computed.answers) c.widen.ensures.some,
      c.self.invariant.1,
      c.self.invariant.2,
    )
