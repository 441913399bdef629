use Rattle.std.proofs.Common.{rules, ◌∙◌, ap, refl}
use Rattle.gl_logic.specs.Object.{Int}
use Rattle.hons_arena.specs.Held.{Interns}
use Rattle.hons_arena.proofs.Trees.{places_cell}
use Rattle.sym_objects.specs.Seen.{stands_for}
use Rattle.sym_objects.proofs.arenas.place_integer.Goals as goal

pub returns-clause-places : goal.returns-clause-places
returns-clause-places g c v =
    let i = c.integer_of_bits-value.result in
    let interns : Interns c.args.arena.now c.int.new.self (Int i) c.int.result = search rules in
    places_cell (stands_for g.B.Meaning c.args.objs.now c.args.x v) (Int i) c.args.arena.now c.int.new.self c.int.result (c.bits_of-bits.ensures.bits.value v ∙ ap Int (c.integer_of_bits-value.ensures v)) refl refl interns
