use Rattle.std.proofs.Common.{◌≡◌, ◌∙◌, ◌<◌, ap, sym, subst, arith, length}
use Rattle.std.proofs.lemmas.List.{length-map}
use Rattle.gl_logic.specs.DefinitionOf.{definition_of}
use Rattle.gl_logic.specs.WorldSeen.{WorldSeen, IsDefinitionOf}
use Rattle.gl_logic.proofs.Indexes.{read_map}
use Rattle.gl_logic.proofs.Worlds.{definition_of_world}
use Rattle.gl_logic.proofs.world.World.def.Goals as goal

pub returns-clause-proper : goal.returns-clause-proper
returns-clause-proper c =
    let items = c.self.inside.definitions.items in
    let view : length c.args.self.now.definitions ≡ length items = ap (λ (w : WorldSeen). length w.definitions) (sym c.self.view_is) ∙ length-map items definition_of in
    let asked = c.requires in
    let within : c.args.f.number < length items = omega (arith, view, asked) in
    subst (λ (w : WorldSeen). IsDefinitionOf w.definitions c.args.f.number (definition_of c.index.result.now)) c.self.view_is
    (definition_of_world _ _ c.self.invariant.world c.args.f.number (definition_of c.index.result.now) (read_map definition_of items c.args.f.number c.index.result.now within c.index.ensures))
