-- The last theorem of a book, as it is answered.
use Rattle.std.specs.Prelude.{ℕ, List}
use Rattle.event_world.specs.Seen.{theorem_seen}
use Rattle.gl_decide.specs.Bounds.{Bounds}
use Rattle.book_state.specs.Answerable.{IsReadyTheorem}
use Rattle.gl_book.specs.Lasts.{HasNone, IsLastOf}
use Rattle.gl_book.specs.declared.last.Last.{Last}
use Rattle.gl_book.specs.declared.last.Last.TheVariants as last

-- what a text has: no last theorem, or one, in its world, with the table that numbers their names
abbrev pub IsLast : Bounds → List ℕ → Last → Type 0
IsLast bounds bytes last.None = (names : List (List ℕ)) × HasNone names bounds bytes
IsLast bounds bytes (last.Found w thm texts) = IsLastOf texts bounds bytes w (theorem_seen thm)

-- it can be decided in that world
abbrev pub IsReadyLast : Last → Type 0
IsReadyLast last.None = Unit {0}
IsReadyLast (last.Found w thm texts) = IsReadyTheorem w.definitions (theorem_seen thm)
