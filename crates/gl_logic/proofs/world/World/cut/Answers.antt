use Rattle.std.proofs.Common.{◌≡◌, ◌∙◌, ap, sym, subst, arith, List, ℕ, map, take}
use Rattle.gl_logic.specs.Definition.{Definition}
use Rattle.gl_logic.specs.DefinitionOf.{definition_of}
use Rattle.gl_logic.specs.WorldSeen.{IsWorld, WorldSeen}
use Rattle.gl_logic.proofs.CellCounts.{fewer_cells}
use Rattle.gl_logic.proofs.Cuts.{first_seen, index_names, index_numbers}
use Rattle.gl_logic.proofs.world.World.cut.Goals as goal

pub cut_definitions-requires : goal.cut_definitions-requires
cut_definitions-requires c = index_numbers c.self.inside.definition_index c.self.inside.definitions.items c.self.invariant.index

pub invariant_of-self : goal.invariant_of-self
invariant_of-self c =
    let old = c.self.inside.definitions.items in
    let n = c.args.extent.definitions in
    let ds : map definition_of c.cut_definitions.new.definitions.items ≡ take n c.args.self.now.definitions = ap (map definition_of) c.cut_definitions.ensures.rest ∙ first_seen n old ∙ ap (λ (w : WorldSeen). take n w.definitions) c.self.view_is in
    let ns : c.truncate.new.self.items ≡ take c.args.extent.cliques c.args.self.now.cliques = c.truncate.ensures.items ∙ ap (λ (w : WorldSeen). take c.args.extent.cliques w.cliques) c.self.view_is in
    let cs : c.cut.new.self ≡ take c.args.extent.constants c.args.self.now.constants = c.cut.ensures ∙ ap (λ (w : WorldSeen). take c.args.extent.constants w.constants) c.self.view_is in
    let few = fewer_cells c.args.extent _ c.args.self.now (record { definitions = map definition_of c.cut_definitions.new.definitions.items; cliques = c.truncate.new.self.items; constants = c.cut.new.self; events = c.cut-2.new.self }) c.self.view_is ds cs in
    record {
      index = index_names c.cut_definitions.new.index c.cut_definitions.new.definitions.items c.cut_definitions.ensures.index;
      world = subst (λ (es : List Definition). IsWorld es c.truncate.new.self.items) (sym ds) (subst (λ (ks : List ℕ). IsWorld (take n c.args.self.now.definitions) ks) (sym ns) c.requires);
      cells = omega (arith, few, c.self.invariant.cells);
    }

pub returns : goal.returns
returns c =
    let old = c.self.inside.definitions.items in
    let n = c.args.extent.definitions in
    let ds : map definition_of c.cut_definitions.new.definitions.items ≡ take n c.args.self.now.definitions = ap (map definition_of) c.cut_definitions.ensures.rest ∙ first_seen n old ∙ ap (λ (w : WorldSeen). take n w.definitions) c.self.view_is in
    let ns : c.truncate.new.self.items ≡ take c.args.extent.cliques c.args.self.now.cliques = c.truncate.ensures.items ∙ ap (λ (w : WorldSeen). take c.args.extent.cliques w.cliques) c.self.view_is in
    let cs : c.cut.new.self ≡ take c.args.extent.constants c.args.self.now.constants = c.cut.ensures ∙ ap (λ (w : WorldSeen). take c.args.extent.constants w.constants) c.self.view_is in
    let es : c.cut-2.new.self ≡ take c.args.extent.events c.args.self.now.events = c.cut-2.ensures ∙ ap (λ (w : WorldSeen). take c.args.extent.events w.events) c.self.view_is in
    λ i. record { definitions = ds i; cliques = ns i; constants = cs i; events = es i }
