use Rattle.std.proofs.Common.{ap, arith, length, length-append, [], ◌∷◌}
use Rattle.gl_interp.specs.declared.envs.Cell.{Cell}
use Rattle.gl_interp.proofs.Cells.{built_push, count_at, linked_push}
use Rattle.gl_interp.proofs.envs.Envs.bind.Goals as goal

pub invariant_of-self-2 : goal.invariant_of-self-2
invariant_of-self-2 c =
    let cell : Cell = record { name = c.args.name; value = c.args.value; next = c.args.next } in
    linked_push c.self.inside.cells.items c.push.new.self.items cell c.in_ok-push.ensures.items c.self.invariant (omega (arith, c.requires, count_at c.self.inside.cells.items c.args.self.now c.self.view_is))

pub returns-clause-number : goal.returns-clause-number
returns-clause-number c =
    let cell : Cell = record { name = c.args.name; value = c.args.value; next = c.args.next } in
    omega (arith, count_at c.self.inside.cells.items c.args.self.now c.self.view_is, ap length c.in_ok-push.ensures.items, length-append c.self.inside.cells.items (cell ∷ []))

pub returns-clause-added : goal.returns-clause-added
returns-clause-added c =
    let cell : Cell = record { name = c.args.name; value = c.args.value; next = c.args.next } in
    built_push c.self.inside.cells.items c.push.new.self.items c.args.self.now cell c.self.view_is c.in_ok-push.ensures.items
