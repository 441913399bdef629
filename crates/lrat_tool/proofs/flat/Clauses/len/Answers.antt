use Rattle.std.proofs.Common.{ℤ, arith, ap, length}
use Rattle.lrat_tool.specs.Flat.{FlatSeen}
use Rattle.lrat_tool.proofs.Flats.{cut_length}
use Rattle.lrat_tool.proofs.flat.Clauses.len.Goals as goal

pub returns : goal.returns
returns c = omega (arith, ap (λ (s : FlatSeen ℤ). length s.lists) c.self.view_is, cut_length c.self.inside.places.items c.self.inside.literals.items, c.len.ensures)
