use Rattle.std.proofs.Common.{◌≡◌, ◌∙◌, ℕ, map, ap, sym, ◌++◌, ◌∷◌, [], Some, List, Option}
use Rattle.std.specs.Prelude.{slice_get}
use Rattle.std.specs.Option.{option_map}
use Rattle.std.proofs.lemmas.Option.{slice_get-map}
use Rattle.gl_logic.specs.Definition.{Definition}
use Rattle.gl_logic.specs.DefinitionOf.{definition_of}
use Rattle.gl_logic.specs.declared.def.Measure.{Measure}
use Rattle.admission.specs.Admitted.{settled, settled_measure}
use Rattle.admission.proofs.Cliques.{map_more}
use Rattle.event_world.proofs.Inversions.{some_same}
use Rattle.event_world.proofs.clique.all_settled.Goals as goal

measure_at : (ds : List Definition) (ms : List (Option Measure)) (i : ℕ) (d : Definition) (m : Option Measure) → ms ≡ map settled_measure ds → slice_get ds i ≡ Some d → slice_get ms i ≡ Some m → m ≡ settled_measure d
measure_at ds ms i d m e h g = some_same m (settled_measure d) (sym g ∙ (ap (λ (xs : List (Option Measure)). slice_get xs i) e ∙ (slice_get-map settled_measure ds i ∙ ap (option_map settled_measure) h)))

pub loop-i-preserved : goal.loop-i-preserved
loop-i-preserved c =
    let ds = c.args.defs.now in
    let d = definition_of c.at-def.result.now in
    let m = measure_at ds c.args.measures.now c.loop-i.i d c.at-measure.result.now c.requires c.at-def.ensures c.at-measure.ensures in
    c.in_ok-push.ensures.ok
    ∙ ((λ j. c.loop-i.invariant j ++ (c.in_ok-with_measure.ensures ∙ ap (λ (x : Option Measure). record d { measure = x }) m) j ∷ [])
    ∙ sym (map_more settled ds c.loop-i.i d c.at-def.ensures))
