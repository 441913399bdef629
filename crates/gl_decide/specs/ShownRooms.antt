-- Stores whose last decision is shown by a book.
use Rattle.std.specs.Prelude.{◌≤◌}
use Rattle.bfr_store.specs.declared.meaning.Meaning.{Ghosts}
use Rattle.sat_core.specs.Decisions.{SatSeen}
use Rattle.gl_symbolic.specs.Books.{HoldsEmpty}
use Rattle.gl_symbolic.specs.declared.room.Room.{Room}
use Rattle.gl_symbolic.specs.declared.room.Room.TheVariants as room

-- stores of a search, of at most so many nodes, whose last decision's book is there, with the empty clause in it
abbrev pub IsShownIn : Ghosts SatSeen → Room → Type 0
IsShownIn h (room.Sat s) = HoldsEmpty s.store × (h.limit_of s.store ≤ 4000000)
IsShownIn h _ = ⊥
