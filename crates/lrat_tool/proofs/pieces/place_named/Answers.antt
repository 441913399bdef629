use Rattle.std.proofs.Common.{sym, subst, ℕ, List, length, take}
use Rattle.lrat_tool.specs.Held.{Rises}
use Rattle.lrat_tool.proofs.Ids.{rises_take}
use Rattle.lrat_tool.proofs.pieces.place_named.Goals as goal

pub place_of-requires : goal.place_of-requires
place_of-requires c =
    let many = length c.args.formula.now.lists in
    let rises = rises_take many c.args.log.now.ids.items c.args.k c.requires.numbered.1 in
    subst (λ (n : ℕ). Rises n (take c.args.k c.as_slice-ids.result.now)) (sym c.len.ensures) (subst (λ (ids : List ℕ). Rises many (take c.args.k ids)) (sym c.as_slice-ids.ensures.value) rises)
