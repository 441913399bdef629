use Rattle.std.proofs.Common.{◌∙◌, ap, refl}
use Rattle.gl_logic.specs.Object.{Character, Symbol, Text, boolean_object}
use Rattle.hons_arena.proofs.Trees.{places_cell}
use Rattle.sym_objects.specs.Seen.{stands_for}
use Rattle.sym_objects.proofs.ToArena.{places_as}
use Rattle.sym_objects.proofs.arenas.place_atom.Goals as goal

pub returns-in-Character-clause-places : goal.returns-in-Character-clause-places
returns-in-Character-clause-places g c v =
    places_cell (stands_for g.B.Meaning c.args.objs.now c.args.x v) (Character c.in-Character.code) c.args.arena.now c.character.new.self c.character.result (c.in-Character.ensures.means v) refl refl c.character.ensures.interns

pub returns-in-Symbol-clause-places : goal.returns-in-Symbol-clause-places
returns-in-Symbol-clause-places g c v =
    places_as (stands_for g.B.Meaning c.args.objs.now c.args.x v) (Symbol c.in-Symbol.t.number) c.args.arena.now c.symbol.result (c.in-Symbol.ensures.means v) c.symbol.ensures

pub returns-in-Text-clause-places : goal.returns-in-Text-clause-places
returns-in-Text-clause-places g c v =
    places_as (stands_for g.B.Meaning c.args.objs.now c.args.x v) (Text c.in-Text.t.number) c.args.arena.now c.string.result (c.in-Text.ensures.means v) c.string.ensures

pub returns-in-Boolean-clause-places : goal.returns-in-Boolean-clause-places
returns-in-Boolean-clause-places g c v =
    places_as (stands_for g.B.Meaning c.args.objs.now c.args.x v) (Symbol c.symbol_of.result.number) c.args.arena.now c.symbol-in-Boolean.result (c.in-Boolean.ensures.means v ∙ (ap boolean_object (c.is_true.ensures v) ∙ c.symbol_of.ensures)) c.symbol-in-Boolean.ensures
