use Rattle.std.proofs.Common.{rules, sym, ◌∙◌, refl}
use Rattle.gl_logic.specs.Object.{Int, Character}
use Rattle.hons_arena.specs.Held.{Interns}
use Rattle.hons_arena.proofs.Trees.{int_from_kind, character_from_kind, places_cell}
use Rattle.hons_arena.proofs.arena.HonsArena.put_atom.Goals as goal

pub returns-in-Int : goal.returns-in-Int
returns-in-Int c =
    let interns : Interns c.args.self.now c.int.new.self (Int c.in-Int.i) c.int.result = search rules in
    places_cell c.args.tree.now (Int c.in-Int.i) c.args.self.now c.int.new.self c.int.result (int_from_kind c.args.tree.now c.in-Int.i (sym c.kind.ensures ∙ c.in-Int.is)) refl refl interns

pub returns-in-Character : goal.returns-in-Character
returns-in-Character c =
    places_cell c.args.tree.now (Character c.in-Character.code) c.args.self.now c.character.new.self c.character.result (character_from_kind c.args.tree.now c.in-Character.code (sym c.kind.ensures ∙ c.in-Character.is)) refl refl c.character.ensures.interns
