use Rattle.std.proofs.Common.{◌∷◌, [], sym, subst, refl, List, zero, suc}
use Rattle.gl_logic.specs.Definition.{Definition}
use Rattle.gl_logic.specs.Ground.{ground}
use Rattle.gl_logic.specs.IsGround.{IsGround}
use Rattle.gl_logic.specs.Named.{AreDifferentNames}
use Rattle.gl_logic.specs.WorldSeen.{IsClique}
use Rattle.gl_logic.specs.WorkedDefinitions.{atom_definition}
use Rattle.gl_logic.proofs.Worlds.{clique_of_one}
use Rattle.base_tests.proofs.tests.worlds.take_a_clique.Goals as goal

first_ground : IsGround 0 atom_definition
unfolding ground
first_ground = (refl, refl)

one_name : AreDifferentNames (5 ∷ [])
one_name zero zero name e h = refl
one_name zero (suc j) name e h = absurd cc
one_name (suc i) j name e h = absurd cc

first_clique : IsClique [] (atom_definition ∷ [])
first_clique = clique_of_one [] atom_definition one_name (refl, ((refl, (tt, tt)), tt)) first_ground tt

pub push_clique-requires-clause-clique : goal.push_clique-requires-clause-clique
push_clique-requires-clause-clique g c =
    subst (λ (ds : List Definition). IsClique ds c.args.defs) (sym c.requires.none) (subst (λ (ds : List Definition). IsClique [] ds) (sym c.requires.atom) first_clique)
