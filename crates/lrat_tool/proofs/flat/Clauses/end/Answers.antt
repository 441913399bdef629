use Rattle.std.proofs.Common.{◌∙◌, ℕ, ℤ, List, [], ◌∷◌, ◌++◌, sym, arith, ap, subst, length}
use Rattle.lrat_tool.specs.Flat.{FlatSeen, ArePlaces, flat_seen}
use Rattle.lrat_tool.proofs.Flats.{seen_end, places_push}
use Rattle.lrat_tool.proofs.flat.Clauses.end.Goals as goal

pub returns-clause-ok : goal.returns-clause-ok
returns-clause-ok c =
    let places = c.self.inside.places.items in
    let xs = c.self.inside.literals.items in
    ap (λ (ps : List ℕ). flat_seen ps xs) c.in_ok-push.ensures.items
    ∙ seen_end places xs c.in-Ok.place (omega (arith, c.in-Ok.ensures, c.len.ensures)) c.self.invariant
    ∙ ap (λ (s : FlatSeen ℤ). record { lists = s.lists ++ s.rest ∷ []; rest = [] }) c.self.view_is

pub invariant_of-self-2 : goal.invariant_of-self-2
invariant_of-self-2 c =
    let places = c.self.inside.places.items in
    let xs = c.self.inside.literals.items in
    subst (λ (ps : List ℕ). ArePlaces ps (length xs)) (ap (λ (n : ℕ). places ++ n ∷ []) (omega (arith, c.in-Ok.ensures, c.len.ensures)) ∙ sym c.in_ok-push.ensures.items) (places_push places (length xs) c.self.invariant)
