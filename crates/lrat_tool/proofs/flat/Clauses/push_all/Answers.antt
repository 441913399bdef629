use Rattle.std.proofs.Common.{◌∙◌, ℤ, List, ◌++◌, sym, arith, ap, subst, length}
use Rattle.std.proofs.lemmas.List.{length-append}
use Rattle.lrat_tool.specs.Flat.{FlatSeen, ArePlaces, flat_seen}
use Rattle.lrat_tool.proofs.Flats.{seen_push, places_more}
use Rattle.lrat_tool.proofs.flat.Clauses.push_all.Goals as goal

pub returns-clause-ok : goal.returns-clause-ok
returns-clause-ok c =
    let places = c.self.inside.places.items in
    let xs = c.self.inside.literals.items in
    ap (flat_seen places) c.in_ok-extend_from_slice.ensures.items
    ∙ seen_push places xs c.args.literals.now c.self.invariant
    ∙ ap (λ (s : FlatSeen ℤ). record { lists = s.lists; rest = s.rest ++ c.args.literals.now }) c.self.view_is

pub invariant_of-self-2 : goal.invariant_of-self-2
invariant_of-self-2 c =
    let places = c.self.inside.places.items in
    let xs = c.self.inside.literals.items in
    subst (λ (ys : List ℤ). ArePlaces places (length ys)) (sym c.in_ok-extend_from_slice.ensures.items) (places_more places (length xs) (length (xs ++ c.args.literals.now)) (omega (arith, length-append xs c.args.literals.now)) c.self.invariant)
