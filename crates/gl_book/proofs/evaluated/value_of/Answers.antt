use Rattle.std.proofs.Common.{ap, Err}
use Rattle.gl_logic.specs.TermOf.{term_of}
use Rattle.gl_book.proofs.Refusals.{printed_value, too_large}
use Rattle.gl_book.proofs.evaluated.value_of.Goals as goal

pub returns-in-Ok-clause-value : goal.returns-in-Ok-clause-value
returns-in-Ok-clause-value c =
    printed_value c.args.world.now (term_of c.args.term.now) c.in_ok-machine.machine.arena c.arena.result.now c.in_ok-machine.id c.arena.ensures c.in_ok-machine.ensures.value c.in-Ok.value c.in-Ok.ensures.object (λ l. let z = c.in-Ok.ensures.small l in absurd cc)

pub returns-in-Large-clause-cause : goal.returns-in-Large-clause-cause
returns-in-Large-clause-cause c =
    too_large c.args.world.now (term_of c.args.term.now) c.in_ok-machine.machine.arena c.arena.result.now c.in_ok-machine.id c.arena.ensures c.in_ok-machine.ensures.value (c.in-Err.ensures.large (ap (λ f. Err f) c.in-Large.is))
