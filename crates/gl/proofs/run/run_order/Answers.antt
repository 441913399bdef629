use Rattle.std.proofs.Common.{refl, sym, subst, inl, Some}
use Rattle.gl_words.specs.CommandOf.{order_seen}
use Rattle.gl_words.specs.declared.orders.Order.{Order as GivenOrder}
use Rattle.gl.specs.Runs.{IsUnread}
use Rattle.gl.proofs.run.run_order.Goals as goal

pub returns-in-Proof-clause-read_fault : goal.returns-in-Proof-clause-read_fault
returns-in-Proof-clause-read_fault g c = λ e.
    subst (λ (o : GivenOrder). IsUnread (Some (order_seen o)) (g.S.Shelf.holds c.args.shelf.now) (g.S.Shelf.faults c.args.shelf.now) (g.S.Shelf.faults c.run_proof.new.shelf)) (sym c.in-Proof.is)
    (record { name = c.in-Proof.proof.name.now; asked = refl; failed = c.run_proof.ensures.read_fault e })

pub returns-in-Judge-clause-read_fault : goal.returns-in-Judge-clause-read_fault
returns-in-Judge-clause-read_fault g c = λ e.
    subst (λ (o : GivenOrder). IsUnread (Some (order_seen o)) (g.S.Shelf.holds c.args.shelf.now) (g.S.Shelf.faults c.args.shelf.now) (g.S.Shelf.faults c.run_judgement.new.shelf)) (sym c.in-Judge.is)
    (record { name = c.in-Judge.pair.cnf.now; asked = inl refl; failed = c.run_judgement.ensures.read_fault e })
