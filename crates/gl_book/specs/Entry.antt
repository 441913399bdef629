-- What comes of a book, in order.
use Rattle.std.specs.Prelude.{List, [], ◌∷◌}
use Rattle.std.specs.List.{flat_map}
use Rattle.book_shelf.specs.declared.item.Mark.{Mark}
use Rattle.event_world.specs.EventSeen.{EventSeen}
use Rattle.gl_decide.specs.Stalls.{StallSeen}
use Rattle.gl_decide.specs.declared.verdict.Verdict.{Verdict}
use Rattle.gl_decide.specs.declared.verdict.Verdict.TheVariants as verdict
use Rattle.gl_book.specs.declared.cases.CasesVerdict.{CasesVerdict}
use Rattle.gl_book.specs.declared.cases.CasesVerdict.TheVariants as whole
use Rattle.gl_book.specs.declared.answer.Answer.{Answer}
use Rattle.gl_book.specs.declared.answer.Answer.TheVariants as answer
use Rattle.gl_book.specs.declared.refusal.Refusal.{Refusal}

pub data Entry : Type 0 where
  -- an event, and the answer to it
  Answered : EventSeen → Answer → Entry
  -- the mark of an included book
  Marked : Mark → Entry
  -- the refusal that ends a book
  Refused : Refusal → Entry

-- ---- stalls
-- a theorem that is left undecided for want of nodes or clauses has one
abbrev pub verdict_stalls : Verdict → List StallSeen
verdict_stalls (verdict.Nodes s) = s ∷ []
verdict_stalls (verdict.Clauses s) = s ∷ []
verdict_stalls _ = []

-- of a theorem by cases the part whose cause is told, and no other part
abbrev pub cases_stalls : CasesVerdict → List StallSeen
cases_stalls (whole.Cover v) = verdict_stalls v
cases_stalls (whole.Case i v) = verdict_stalls v
cases_stalls _ = []

abbrev pub stalls_of : Answer → List StallSeen
stalls_of (answer.Decided v) = verdict_stalls v
stalls_of (answer.ByCases v) = cases_stalls v
stalls_of _ = []

abbrev pub entry_stalls : Entry → List StallSeen
entry_stalls (Answered e a) = stalls_of a
entry_stalls (Marked m) = []
entry_stalls (Refused r) = []

-- in the order of the entries
abbrev pub stalls_in : List Entry → List StallSeen
stalls_in entries = flat_map entry_stalls entries
