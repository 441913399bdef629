use Rattle.std.proofs.Common.{◌≡◌, ◌<◌, ℕ, eqb, false, get_or}
use Rattle.gl_logic.specs.declared.ids.TextId.{TextId}
use Rattle.gl_logic.proofs.names.Names.contains.Given as goal

abbrev pub invariant-loop-item : goal.invariant-loop-item
invariant-loop-item l = (k : ℕ) (d : TextId) → k < l.item-index → eqb l.name.number (get_or l.item-items k d).number ≡ false
