use Rattle.std.proofs.Common.{◌≡◌, ◌∙◌, ◌++◌, ◌∷◌, [], ap, sym, refl, rules, arith, map, length, List, ℕ, subst}
use Rattle.std.proofs.lemmas.List.{length-map, map-append}
use Rattle.gl_logic.specs.Named.{IsFree}
use Rattle.gl_logic.specs.Definition.{Definition}
use Rattle.gl_logic.specs.DefinitionOf.{definition_of}
use Rattle.gl_logic.specs.IsTermOf.{IsTermOf}
use Rattle.gl_logic.specs.IsGround.{IsGround}
use Rattle.gl_logic.specs.IsAdmissible.{IsAdmissible}
use Rattle.gl_logic.specs.WorldSeen.{WorldSeen, IsWorld, definition_names}
use Rattle.gl_logic.proofs.CellCounts.{one_definition}
use Rattle.gl_logic.proofs.Indexes.{index_push}
use Rattle.gl_logic.proofs.Worlds.{world_push, clique_of_one}
use Rattle.gl_logic.proofs.world.World.push.Goals as goal

pub invariant_of-self-2 : goal.invariant_of-self-2
invariant_of-self-2 c =
    let old = c.self.inside.definitions.items in
    let ds = map definition_of old in
    let d = definition_of c.args.def in
    let count : c.len-number.result ≡ length old = search rules in
    let view : c.args.self.now.definitions ≡ ds = sym (ap (λ (w : WorldSeen). w.definitions) c.self.view_is) in
    let after = ap (map definition_of) c.in_ok-push.ensures.items ∙ map-append definition_of old _ in
    let cliques : c.push_reserved.new.self.items ≡ c.self.inside.cliques.items ++ 1 ∷ [] = c.push_reserved.ensures.items ∙ ap (λ (ns : List ℕ). ns ++ 1 ∷ []) c.reserve-2.ensures.items in
    let clique = clique_of_one ds d c.requires.formals (subst (λ (es : List Definition). IsTermOf (es ++ d ∷ []) d.body) view c.requires.body) (subst (λ (es : List Definition). IsGround (length es) d) view c.requires.same_ground)
    (subst (λ (es : List Definition). IsAdmissible (length es) (d ∷ [])) view c.requires.admissible) in
    let more = one_definition (record { definitions = ds; cliques = c.self.inside.cliques.items; constants = c.self.inside.constants; events = c.self.inside.events })
    (record { definitions = map definition_of c.push.new.self.items; cliques = c.push_reserved.new.self.items; constants = c.self.inside.constants; events = c.self.inside.events }) d after refl in
    record {
      index =
          index_push c.self.inside.definition_index c.reserve.new.self c.put.new.self (definition_names ds) _ c.args.def.name.number c.len-number.result c.self.invariant.index (subst (λ (es : List Definition). IsFree (definition_names es) d.name) view c.requires.free)
          (count ∙ (sym (length-map old definition_of) ∙ sym (length-map ds (λ (e : Definition). e.name)))) (ap definition_names after ∙ map-append (λ (e : Definition). e.name) ds _) c.reserve.ensures.same c.put.ensures.places;
      world = subst (λ (es : List Definition). IsWorld es c.push_reserved.new.self.items) (sym after) (subst (λ (ns : List ℕ). IsWorld (ds ++ d ∷ []) ns) (sym cliques) (world_push ds c.self.inside.cliques.items (d ∷ []) c.self.invariant.world clique));
      cells = omega (arith, more, c.self.invariant.cells, c.constant_cell_count-cells.ensures, c.saturating_add-self-inside.ensures);
    }
