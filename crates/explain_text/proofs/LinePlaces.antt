-- A record has the place of what its line is of.
use Rattle.std.proofs.Common.{◌≡◌, ◌∙◌, Option, Some, None, IfSome}
use Rattle.gl_book.specs.declared.origin.Origin.{Origin}
use Rattle.gl_book.specs.declared.origin.Origin.TheVariants as origin
use Rattle.explain_report.specs.declared.record.Record.{Record}
use Rattle.explain_text.specs.declared.screen.Seen.{Seen}
use Rattle.explain_text.specs.Seen.{IsAt, IsAtSpot, IsOfSpot, IsSeen, PutsSeen}

pub at_seen : (o : Origin) (s : Seen) (r : Record) → IsSeen o (Some s) → PutsSeen s r → IsAt o r
at_seen (origin.Event spot) s r h k = record { item = k.item ∙ h.item; line = k.line ∙ h.line; column = k.column ∙ h.column }
at_seen (origin.Input spot) s r h k = record { item = k.item ∙ h.item; line = k.line ∙ h.line; column = k.column ∙ h.column }
at_seen (origin.Mark n) s r h k = k.item ∙ h
at_seen origin.End s r h k = tt

pub at_none : (o : Origin) (r : Record) → IsSeen o None → IsAt o r
at_none (origin.Event spot) r h = absurd h
at_none (origin.Input spot) r h = absurd h
at_none (origin.Mark n) r h = absurd h
at_none origin.End r h = tt
