use Rattle.std.proofs.Common.{◌≡◌, ℕ, length}
use Rattle.gl_logic.specs.Named.{place_in}
use Rattle.gl_logic.specs.NewNames.{HasRoom}
use Rattle.gl_logic.proofs.name_index.NameIndex.reserve_all.Given as goal

abbrev pub invariant-loop-def : goal.invariant-loop-def
invariant-loop-def l = HasRoom (length l.self) l.defs 0 l.def-index × ((other : ℕ) → place_in l.self other ≡ place_in l.fn.self other)
