use Rattle.std.proofs.Common.{◌≡◌, ◌∙◌, ℤ, List, [], ◌∷◌, ◌++◌, sym, arith, ap, subst, length, to_z-of_z}
use Rattle.std.proofs.lemmas.List.{length_push}
use Rattle.lrat_tool.specs.Flat.{FlatSeen, ArePlaces, flat_seen}
use Rattle.lrat_tool.proofs.Flats.{seen_push, places_more}
use Rattle.lrat_tool.proofs.flat.Clauses.push.Goals as goal

pub returns-clause-ok : goal.returns-clause-ok
returns-clause-ok c =
    let places = c.self.inside.places.items in
    let xs = c.self.inside.literals.items in
    let l = c.args.literal in
    let fits = c.ranges.literal in
    let pushed : c.push_last.new.literals.items ≡ xs ++ l ∷ [] = simp to_z-of_z at c.in_ok-push_last.ensures.ok in
    ap (flat_seen places) pushed
    ∙ seen_push places xs (l ∷ []) c.self.invariant
    ∙ ap (λ (s : FlatSeen ℤ). record { lists = s.lists; rest = s.rest ++ l ∷ [] }) c.self.view_is

pub invariant_of-self-2 : goal.invariant_of-self-2
invariant_of-self-2 c =
    let places = c.self.inside.places.items in
    let xs = c.self.inside.literals.items in
    let l = c.args.literal in
    let fits = c.ranges.literal in
    let pushed : c.push_last.new.literals.items ≡ xs ++ l ∷ [] = simp to_z-of_z at c.in_ok-push_last.ensures.ok in
    subst (λ (ys : List ℤ). ArePlaces places (length ys)) (sym pushed) (places_more places (length xs) (length (xs ++ l ∷ [])) (omega (arith, length_push xs l)) c.self.invariant)
