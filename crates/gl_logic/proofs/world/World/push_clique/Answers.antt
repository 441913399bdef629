use Rattle.std.proofs.Common.{◌≡◌, ◌∙◌, ◌++◌, ◌∷◌, [], ap, sym, refl, rules, arith, map, length, List, ℕ, subst}
use Rattle.std.specs.Io.Iter.{u64_saturate}
use Rattle.std.specs.List.{flat_map}
use Rattle.std.proofs.lemmas.List.{length-map, map-append}
use Rattle.gl_logic.specs.Named.{AreFreeNames, AreDifferentNames, place_of}
use Rattle.gl_logic.specs.Definition.{Definition}
use Rattle.gl_logic.specs.DefinitionOf.{definition_of}
use Rattle.gl_logic.specs.WorldSeen.{WorldSeen, IsWorld, IsClique, definition_names}
use Rattle.gl_logic.specs.NewNames.{numbers_of, HasRoom}
use Rattle.gl_logic.specs.Parts.{cells_in}
use Rattle.gl_logic.specs.declared.def.Def.{Def}
use Rattle.gl_logic.proofs.CellCounts.{in_bodies, more_definitions}
use Rattle.gl_logic.proofs.NewNames.{names_are, front_names, free_behind, room_behind}
use Rattle.gl_logic.proofs.Worlds.{world_push}
use Rattle.gl_logic.proofs.world.World.push_clique.Goals as goal

pub put_all-requires-clause-index : goal.put_all-requires-clause-index
put_all-requires-clause-index c =
    let old = c.self.inside.definitions.items in
    let members = c.into_items-members.result.items in
    let all : c.as_slice-3.result.now ≡ old ++ members = c.as_slice-3.ensures.value ∙ c.in_ok-append.ensures.items in
    let count : c.len-first.result ≡ length old = search rules in
    λ name. c.reserve_all.ensures.same name ∙ (c.self.invariant.index name ∙ ap (λ (ns : List ℕ). place_of ns name) (front_names old members c.as_slice-3.result.now c.len-first.result all count))

pub put_all-requires-clause-free : goal.put_all-requires-clause-free
put_all-requires-clause-free c =
    let old = c.self.inside.definitions.items in
    let members = c.into_items-members.result.items in
    let all : c.as_slice-3.result.now ≡ old ++ members = c.as_slice-3.ensures.value ∙ c.in_ok-append.ensures.items in
    let count : c.len-first.result ≡ length old = search rules in
    let view : c.args.self.now.definitions ≡ map definition_of old = sym (ap (λ (w : WorldSeen). w.definitions) c.self.view_is) in
    let given : c.args.defs ≡ map definition_of members = sym c.into_items-members.ensures in
    free_behind old members c.as_slice-3.result.now c.len-first.result all count
    (subst (λ (ds : List Definition). AreFreeNames (definition_names (map definition_of old)) (definition_names ds)) given (subst (λ (ds : List Definition). AreFreeNames (definition_names ds) (definition_names c.args.defs)) view c.requires.free))
    (subst (λ (ds : List Definition). AreDifferentNames (definition_names ds)) given c.requires.different)

pub put_all-requires-clause-room : goal.put_all-requires-clause-room
put_all-requires-clause-room c =
    let old = c.self.inside.definitions.items in
    let members = c.into_items-members.result.items in
    let all : c.as_slice-3.result.now ≡ old ++ members = c.as_slice-3.ensures.value ∙ c.in_ok-append.ensures.items in
    let count : c.len-first.result ≡ length old = search rules in
    room_behind old members c.as_slice-3.result.now c.len-first.result all count (length c.reserve_all.new.self)
    (subst (λ (ds : List Def). HasRoom (length c.reserve_all.new.self) ds 0 (length ds)) c.as_slice-2.ensures.value c.in_ok-reserve_all.ensures.room)

pub invariant_of-self-2 : goal.invariant_of-self-2
invariant_of-self-2 c =
    let old = c.self.inside.definitions.items in
    let members = c.into_items-members.result.items in
    let ds = map definition_of old in
    let items = c.append.new.self.items in
    let slice : c.as_slice-3.result.now ≡ items = c.as_slice-3.ensures.value in
    let after : map definition_of items ≡ ds ++ map definition_of members = ap (map definition_of) c.in_ok-append.ensures.items ∙ map-append definition_of old members in
    let view : c.args.self.now.definitions ≡ ds = sym (ap (λ (w : WorldSeen). w.definitions) c.self.view_is) in
    let given : c.args.defs ≡ map definition_of members = sym c.into_items-members.ensures in
    let count : c.len-count.result ≡ length members = search rules in
    let counted : c.len-count.result ≡ length (map definition_of members) = count ∙ sym (length-map members definition_of) in
    let cliques : c.push_reserved.new.self.items ≡ c.self.inside.cliques.items ++ length (map definition_of members) ∷ [] = c.push_reserved.ensures.items ∙ (λ i. c.reserve.ensures.items i ++ counted i ∷ []) in
    let clique = subst (λ (es : List Definition). IsClique ds es) given (subst (λ (es : List Definition). IsClique es c.args.defs) view c.requires.clique) in
    let more = more_definitions (record { definitions = ds; cliques = c.self.inside.cliques.items; constants = c.self.inside.constants; events = c.self.inside.events })
    (record { definitions = map definition_of items; cliques = c.push_reserved.new.self.items; constants = c.self.inside.constants; events = c.self.inside.events }) (map definition_of members) after refl in
    let cells : c.cells_of_bodies-cells.result ≡ u64_saturate (length (flat_map cells_in (in_bodies (map definition_of members)))) = c.cells_of_bodies-cells.ensures ∙ ap (λ (es : List Def). u64_saturate (length (flat_map cells_in (in_bodies (map definition_of es))))) c.as_slice.ensures.value in
    record {
      index = λ name. c.put_all.ensures name ∙ ap (λ (ns : List ℕ). place_of ns name) (ap numbers_of slice ∙ sym (names_are items));
      world = subst (λ (es : List Definition). IsWorld es c.push_reserved.new.self.items) (sym after) (subst (λ (ns : List ℕ). IsWorld (ds ++ map definition_of members) ns) (sym cliques) (world_push ds c.self.inside.cliques.items (map definition_of members) c.self.invariant.world clique));
      cells = omega (arith, more, c.self.invariant.cells, cells, c.saturating_add-self-inside.ensures);
    }
