-- The place of what a line is of.
use Rattle.std.specs.Prelude.{◌≡◌, Option, Some, None}
use Rattle.gl_book.specs.declared.origin.Spot.{Spot}
use Rattle.gl_book.specs.declared.origin.Origin.{Origin}
use Rattle.gl_book.specs.declared.origin.Origin.TheVariants as origin
use Rattle.explain_report.specs.declared.record.Record.{Record}
use Rattle.explain_text.specs.declared.screen.Seen.{Seen}

-- a record has the item, the line and the column of a spot
pub record IsAtSpot (s : Spot) (r : Record) : Type 0 where
  pub item : r.item ≡ s.item
  pub line : r.line ≡ s.line
  pub column : r.column ≡ s.column

-- and so has that of a line of an event and of its input
abbrev pub IsAt : Origin → Record → Type 0
IsAt (origin.Event s) r = IsAtSpot s r
IsAt (origin.Input s) r = IsAtSpot s r
IsAt (origin.Mark n) r = r.item ≡ n
IsAt origin.End r = Unit {0}

-- what is put into a record, and what it is taken from
pub record PutsSeen (s : Seen) (r : Record) : Type 0 where
  pub item : r.item ≡ s.item
  pub line : r.line ≡ s.line
  pub column : r.column ≡ s.column

pub record IsOfSpot (spot : Spot) (s : Seen) : Type 0 where
  pub item : s.item ≡ spot.item
  pub line : s.line ≡ spot.line
  pub column : s.column ≡ spot.column

abbrev pub IsSeen : Origin → Option Seen → Type 0
IsSeen (origin.Event spot) (Some s) = IsOfSpot spot s
IsSeen (origin.Input spot) (Some s) = IsOfSpot spot s
IsSeen (origin.Mark n) (Some s) = s.item ≡ n
IsSeen origin.End s = Unit {0}
IsSeen _ None = ⊥
