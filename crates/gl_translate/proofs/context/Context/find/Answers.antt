use Rattle.std.proofs.Common.{◌≡◌, ◌∙◌, ap, sym, refl, ◌+◌, List, [], ◌∷◌, map, length, Some, None}
use Rattle.std.proofs.lemmas.List.{length-map}
use Rattle.gl_logic.specs.Definition.{Definition}
use Rattle.gl_logic.specs.Named.{place_of}
use Rattle.gl_logic.specs.WorldSeen.{definition_names}
use Rattle.gl_translate.specs.Meaning.{function_names}
use Rattle.gl_translate.specs.Translation.{function_of}
use Rattle.gl_translate.proofs.FunctionPlaces.{place_after, together}
use Rattle.gl_translate.proofs.context.Context.find.Goals as goal

names_of_functions : (ds : List Definition) → definition_names ds ≡ function_names (map function_of ds)
names_of_functions [] = refl
names_of_functions (d ∷ ds) = ap (λ ns. d.name ∷ ns) (names_of_functions ds)

pub returns-in-Some : goal.returns-in-Some
returns-in-Some c =
    let ds = c.args.self.now.world.now.definitions in
    let n = c.args.name.number in
    ap (λ o. place_after (length (map function_of ds)) o (place_of (function_names c.args.self.now.own.now) n)) (c.in-Some.ensures.place ∙ ap (λ ns. place_of ns n) (names_of_functions ds))
    ∙ together (map function_of ds) c.args.self.now.own.now n

pub returns-in-Some-place : goal.returns-in-Some-place
returns-in-Some-place c =
    let ds = c.args.self.now.world.now.definitions in
    let n = c.args.name.number in
    let i = c.in-Some-place.place in
    ap (λ k. Some (k + i)) (c.count.ensures.count ∙ sym (length-map ds function_of))
    ∙ (ap (λ o. place_after (length (map function_of ds)) None o) c.in-Some-place.ensures.place
    ∙ (ap (λ o. place_after (length (map function_of ds)) o (place_of (function_names c.args.self.now.own.now) n)) (c.in-None.ensures.place ∙ ap (λ ns. place_of ns n) (names_of_functions ds))
    ∙ together (map function_of ds) c.args.self.now.own.now n))

pub returns-in-None-place : goal.returns-in-None-place
returns-in-None-place c =
    let ds = c.args.self.now.world.now.definitions in
    let n = c.args.name.number in
    ap (λ o. place_after (length (map function_of ds)) None o) c.in-None-place.ensures.place
    ∙ (ap (λ o. place_after (length (map function_of ds)) o (place_of (function_names c.args.self.now.own.now) n)) (c.in-None.ensures.place ∙ ap (λ ns. place_of ns n) (names_of_functions ds))
    ∙ together (map function_of ds) c.args.self.now.own.now n)
