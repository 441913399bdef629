-- A cons with a part in the newest cell is not held.
use Rattle.std.proofs.Common.{arith, ◌≡◌, ℕ, ◌-◌, ◌<◌, List, length, subst}
use Rattle.hons_arena.specs.declared.cell.Cell.{Cell}
use Rattle.hons_arena.specs.Cells.{cell_at, FitsBelow, HasNewestPart, IsInterned}
use Rattle.hons_arena.specs.Hash.{home_of}
use Rattle.hons_arena.specs.Probe.{IsAbsent, IsFirstWith}
use Rattle.hons_arena.specs.Table.{IsTable, IsFreeFor, empty, walk}
use Rattle.hons_arena.proofs.Interned.{parts_more}

pub newest_absent : (cells : List Cell) (c : Cell) → IsInterned cells → HasNewestPart (length cells) c → IsAbsent cells c
newest_absent cells c interned newest k h e = newest (subst (FitsBelow (length cells - 1)) e (parts_more k (length cells - 1) (omega (arith, h)) (cell_at cells k) (interned.behind k h)))

pub newest_free : (cells : List Cell) (slots : List ℕ) (c : Cell) (h q : ℕ) → IsTable cells slots → h ≡ home_of (length slots) c → IsFirstWith slots h empty q → IsFreeFor slots c (length cells) q
newest_free cells slots c h q table home first = record {
  steps = first.steps;
  within = first.within;
  at = subst (λ (n : ℕ). q ≡ walk (length slots) n first.steps) home first.at;
  free = first.is;
  before = λ i l. subst (λ (n : ℕ). Rattle.hons_arena.specs.Table.slot_at slots (walk (length slots) n i) < length cells) home (table.numbers (walk (length slots) h i) (first.before i l));
}
