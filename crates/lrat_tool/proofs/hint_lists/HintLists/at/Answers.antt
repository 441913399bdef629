use Rattle.std.proofs.Common.{ℕ, ◌∙◌, arith, ap, length, get_or, []}
use Rattle.lrat_tool.specs.Flat.{FlatSeen, cut}
use Rattle.lrat_tool.proofs.Flats.{cut_length}
use Rattle.lrat_tool.proofs.hint_lists.HintLists.at.Goals as goal

pub part-requires-clause-within : goal.part-requires-clause-within
part-requires-clause-within c = omega (arith, c.requires, ap (λ (s : FlatSeen ℕ). length s.lists) c.self.view_is, cut_length c.self.inside.places.items c.self.inside.hints.items, c.as_slice-2.ensures.len)

pub returns : goal.returns
returns c =
    c.part.ensures
    ∙ (λ i. get_or (cut (c.as_slice-2.ensures.value i) (c.as_slice.ensures.value i)) c.args.k [])
    ∙ ap (λ (s : FlatSeen ℕ). get_or s.lists c.args.k []) c.self.view_is
