use Rattle.std.proofs.Common.{◌≡◌, ◌+◌, ◌-◌, ℕ, List, length, true, vec_len}
use Rattle.gl_base.specs.Outside.{Takes}
use Rattle.lrat_tool.proofs.read.read_text.Given as goal

-- what was read and what is left make the text that was opened
abbrev pub invariant-loop-buffer : goal.invariant-loop-buffer
invariant-loop-buffer g l = record {
  told : Takes (g.S.Shelf.holds l.fn.shelf l.name) (g.S.Shelf.rest l.shelf) l.bytes.items;
  opened : g.S.Shelf.is_open l.shelf ≡ true;
  stayed : g.S.Shelf.faults l.shelf ≡ g.S.Shelf.faults l.fn.shelf;
  kept : (other : List ℕ) → g.S.Shelf.holds l.shelf other ≡ g.S.Shelf.holds l.fn.shelf other;
  sized : length l.buffer ≡ 65536;
}

abbrev pub decreases-loop-buffer : goal.decreases-loop-buffer
decreases-loop-buffer g l = 67108864 + 1 - vec_len l.bytes
