use Rattle.std.proofs.Common.{◌≡◌, ◌∙◌, ap, arith, map, take, length, List}
use Rattle.std.specs.Io.Iter.{u64_saturate}
use Rattle.std.specs.List.{flat_map}
use Rattle.std.proofs.lemmas.List.{length-map, take_all}
use Rattle.gl_logic.specs.Definition.{Definition}
use Rattle.gl_logic.specs.DefinitionOf.{definition_of}
use Rattle.gl_logic.specs.Parts.{cells_in}
use Rattle.gl_logic.proofs.CellCounts.{bodies_next, in_bodies}
use Rattle.gl_logic.proofs.Indexes.{read_map}
use Rattle.gl_logic.proofs.world.cells_of_bodies.Goals as goal

pub loop-definition-preserved : goal.loop-definition-preserved
loop-definition-preserved c =
    let ds = c.args.definitions.now in
    let i = c.loop-definition.definition-index in
    let d = c.definition-item.result in
    let seen = map definition_of ds in
    omega (arith, bodies_next seen i (definition_of d) (read_map definition_of ds i d c.loop-definition-test.true c.definition-item.is), c.loop-definition.invariant, c.constant_cell_count.ensures, c.saturating_add-count.ensures)

pub returns : goal.returns
returns c =
    let ds = c.args.definitions.now in
    let all : take c.loop-definition.definition-index (map definition_of ds) ≡ map definition_of ds = take_all c.loop-definition.definition-index (map definition_of ds) (omega (arith, length-map ds definition_of, c.loop-definition-test.false)) in
    c.loop-definition.invariant ∙ ap (λ (es : List Definition). u64_saturate (length (flat_map cells_in (in_bodies es)))) all
