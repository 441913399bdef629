use Rattle.std.proofs.Common.{◌∙◌, ap, sym, subst, ℕ, ℤ, length, map}
use Rattle.std.proofs.lemmas.List.{length-map}
use Rattle.lrat_tool.specs.Flat.{ArePlaces, FlatSeen, cut}
use Rattle.lrat_tool.specs.Ranks.{ranked}
use Rattle.lrat_tool.proofs.Ranked.{begins_itself, cut_map}
use Rattle.lrat_tool.proofs.flat.Clauses.rename.Goals as goal

pub invariant_of-self : goal.invariant_of-self
invariant_of-self c =
    let ranks = c.literals.new.self in
    let xs = c.as_slice.result.now in
    subst (λ (n : ℕ). ArePlaces c.self.inside.places.items n)
    (sym (ap length (c.in_ok-self-inside.ensures.ranked ranks (begins_itself ranks)) ∙ length-map xs (ranked ranks) ∙ ap length c.as_slice.ensures.value)) c.self.invariant

pub returns-clause-ok : goal.returns-clause-ok
returns-clause-ok c all begins =
    let places = c.self.inside.places.items in
    ap (cut places) (c.in_ok-self-inside.ensures.ranked all begins ∙ ap (map (ranked all)) c.as_slice.ensures.value)
    ∙ cut_map (ranked all) places c.self.inside.literals.items
    ∙ ap (λ (s : FlatSeen ℤ). map (map (ranked all)) s.lists) c.self.view_is
