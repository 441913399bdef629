-- The lines of a transcript. Each ends with byte 10.
use Rattle.std.specs.Prelude.{ℕ, Bool, true, false, not, ◌||◌, nat_lt, if◌then◌else◌, List, [], ◌∷◌, ◌++◌, map, codes, count_by, Option, None, Some}
use Rattle.std.specs.List.{flat_map, list_any}
use Rattle.std.specs.Fmt.{decimal}
use Rattle.gl_logic.specs.Object.{Object}
use Rattle.gl_logic.specs.Definition.{Definition}
use Rattle.gl_logic.specs.declared.def.Natural.{Natural}
use Rattle.gl_logic.specs.declared.def.Natural.TheVariants as natural
use Rattle.gl_logic.specs.declared.def.Measure.{Measure}
use Rattle.gl_logic.specs.declared.def.Measure.TheVariants as measure
use Rattle.gl_base.specs.declared.status.Status.{Status}
use Rattle.gl_base.specs.declared.status.Status.TheVariants as status
use Rattle.gl_translate.specs.declared.fault.TermFault.{TermFault}
use Rattle.gl_translate.specs.declared.fault.TermFault.TheVariants as term
use Rattle.sexp_print.specs.Printed.{name_of, printed}
use Rattle.shape_spec.specs.declared.theorem.Mode.{Mode}
use Rattle.shape_spec.specs.declared.theorem.Mode.TheVariants as mode
use Rattle.shape_spec.specs.declared.theorem.Part.{Part}
use Rattle.shape_spec.specs.declared.theorem.Part.TheVariants as part
use Rattle.sexp_reader.specs.declared.ends.ReadCode.{ReadCode}
use Rattle.sexp_reader.specs.declared.ends.ReadCode.TheVariants as read
use Rattle.book_shelf.specs.declared.item.Mark.{Mark}
use Rattle.book_shelf.specs.declared.item.Mark.TheVariants as mark
use Rattle.event_world.specs.declared.fault.EventFault.{EventFault}
use Rattle.event_world.specs.declared.fault.EventFault.TheVariants as event
use Rattle.event_world.specs.EventSeen.{EventSeen, Redundant, Defun, Defconst, Value, Assert, Memoize, Unmemoize, SetMode, Theorem, Cases, Clique, RedundantClique}
use Rattle.gl_decide.specs.declared.verdict.Verdict.{Verdict}
use Rattle.gl_decide.specs.declared.verdict.Verdict.TheVariants as verdict
use Rattle.gl_book.specs.declared.counts.Counts.{Counts}
use Rattle.gl_book.specs.Entry.{Entry, Answered, Marked, Refused}
use Rattle.gl_book.specs.declared.refusal.Refusal.{Refusal}
use Rattle.gl_book.specs.declared.refusal.RefusalCode.{RefusalCode}
use Rattle.gl_book.specs.declared.refusal.RefusalCode.TheVariants as code
use Rattle.gl_book.specs.declared.answer.Cause.{Cause}
use Rattle.gl_book.specs.declared.answer.Cause.TheVariants as cause
use Rattle.gl_book.specs.declared.cases.CasesVerdict.{CasesVerdict}
use Rattle.gl_book.specs.declared.cases.CasesVerdict.TheVariants as whole
use Rattle.gl_book.specs.declared.answer.Answer.{Answer}
use Rattle.gl_book.specs.declared.answer.Answer.TheVariants as answer

-- words, a name, and words
abbrev pub named_line : List (List ℕ) → List ℕ → ℕ → List ℕ → List ℕ
named_line names before t after = before ++ (name_of names t ++ (after ++ 10 ∷ []))

-- an input: two blanks, the variable, and its object
abbrev pub input_lines : List (List ℕ) → List (ℕ × Object) → List (List ℕ)
input_lines names [] = []
input_lines names (p ∷ env) = named_line names (codes "  ") p.0 (codes " = " ++ printed names p.1) ∷ input_lines names env

abbrev pub part_word : Part → List ℕ
part_word part.Hyp = codes "hyp"
part_word part.Concl = codes "concl"

-- ---- theorems
-- what leaves one undecided: its cause, for most with the part whose value it is of
abbrev pub open_words : List (List ℕ) → Verdict → List ℕ
open_words names (verdict.Uncovered v) = codes " uncovered " ++ name_of names v.number
open_words names (verdict.Clock p env) = codes " clock " ++ part_word p
open_words names (verdict.Width p env) = codes " width " ++ part_word p
open_words names (verdict.Steps p env) = codes " steps " ++ part_word p
open_words names (verdict.Cells p env) = codes " cells " ++ part_word p
open_words names (verdict.Nodes s) = codes " nodes"
open_words names (verdict.Clauses s) = codes " clauses"
open_words names verdict.Memory = codes " memory"
open_words names _ = []

-- and its input, where it has one
abbrev pub open_input : Verdict → List (ℕ × Object)
open_input (verdict.Clock p env) = env
open_input (verdict.Width p env) = env
open_input (verdict.Steps p env) = env
open_input (verdict.Cells p env) = env
open_input _ = []

-- left undecided: the name, words for the part of it that is, and the cause
abbrev pub open_lines : List (List ℕ) → ℕ → List ℕ → Verdict → List (List ℕ)
open_lines names t what v = named_line names (codes "UNDECIDED ") t (what ++ open_words names v) ∷ input_lines names (open_input v)

abbrev pub verdict_lines : List (List ℕ) → ℕ → Verdict → List (List ℕ)
verdict_lines names t verdict.Proved = named_line names (codes "PROVED ") t [] ∷ []
verdict_lines names t verdict.Vacuous = named_line names (codes "VACUOUS ") t [] ∷ []
verdict_lines names t (verdict.Refuted env) = named_line names (codes "REFUTED ") t [] ∷ input_lines names env
verdict_lines names t v = open_lines names t [] v

-- ---- theorems by cases
-- an input of the hypothesis that is of no case; the cover, or the case with its number, that is left undecided
abbrev pub cases_lines : List (List ℕ) → ℕ → CasesVerdict → List (List ℕ)
cases_lines names t whole.Proved = verdict_lines names t verdict.Proved
cases_lines names t whole.Vacuous = verdict_lines names t verdict.Vacuous
cases_lines names t (whole.Refuted env) = verdict_lines names t (verdict.Refuted env)
cases_lines names t (whole.Uncased env) = named_line names (codes "UNDECIDED ") t (codes " uncased") ∷ input_lines names env
cases_lines names t (whole.Cover v) = open_lines names t (codes " cover") v
cases_lines names t (whole.Case i v) = open_lines names t (codes " case " ++ decimal i) v

-- ---- definitions
-- the name of a variable between words
abbrev pub about : List (List ℕ) → List ℕ → ℕ → List ℕ → List ℕ
about names before v after = before ++ (name_of names v ++ after)

abbrev pub natural_words : List (List ℕ) → Natural → List ℕ
natural_words names (natural.Count v) = about names (codes "(ACL2-COUNT ") v.number (codes ")")
natural_words names (natural.Len v) = about names (codes "(LEN ") v.number (codes ")")
natural_words names (natural.Nat v) = about names (codes "(NFIX ") v.number (codes ")")
natural_words names (natural.Gap a b) = about names (codes "(NFIX (- ") b.number (about names (codes " ") a.number (codes "))"))

abbrev pub measure_words : List (List ℕ) → Measure → List ℕ
measure_words names (measure.Count v) = natural_words names (natural.Count v)
measure_words names (measure.Len v) = natural_words names (natural.Len v)
measure_words names (measure.Nat v) = natural_words names (natural.Nat v)
measure_words names (measure.Gap a b) = natural_words names (natural.Gap a b)
measure_words names (measure.Lex m k) = codes "(MAKE-ORD 1 (+ 1 " ++ (natural_words names m ++ (codes ") " ++ (natural_words names k ++ codes ")")))

abbrev pub stated_measure : List (List ℕ) → Option Measure → List ℕ
stated_measure names None = []
stated_measure names (Some m) = codes " " ++ measure_words names m

-- a definition, and its measure where it has one
abbrev pub defun_line : List (List ℕ) → Definition → List ℕ
defun_line names d = named_line names (codes "DEFUN ") d.name (stated_measure names d.measure)

-- ---- values
abbrev pub cause_word : Cause → List ℕ
cause_word cause.Width = codes "width"
cause_word cause.Steps = codes "steps"
cause_word cause.Cells = codes "cells"
cause_word cause.Size = codes "size"
cause_word cause.Memory = codes "memory"

abbrev pub undecided_line : List ℕ → Cause → List ℕ
undecided_line word c = word ++ (codes " undecided " ++ (cause_word c ++ 10 ∷ []))

abbrev pub truth_word : Bool → List ℕ
truth_word true = codes "ok"
truth_word false = codes "nil"

abbrev pub mode_line : Mode → List ℕ
mode_line mode.Bdd = codes "MODE BDD" ++ 10 ∷ []
mode_line mode.Sat = codes "MODE SAT" ++ 10 ∷ []
mode_line mode.Param = codes "MODE PARAM" ++ 10 ∷ []

abbrev pub redundant_line : List (List ℕ) → ℕ → List ℕ
redundant_line names t = named_line names (codes "REDUNDANT ") t []

-- of an event with its answer. A constant without a value is refused, and has no line of its own
abbrev pub event_lines : List (List ℕ) → EventSeen → Answer → List (List ℕ)
event_lines names (Redundant t) a = redundant_line names t ∷ []
event_lines names (RedundantClique ts) a = map (redundant_line names) ts
event_lines names (Defun d) a = defun_line names d ∷ []
event_lines names (Clique ds) a = map (defun_line names) ds
event_lines names (SetMode m) a = mode_line m ∷ []
event_lines names (Defconst t body) (answer.Value x) = named_line names (codes "DEFCONST ") t (codes " " ++ printed names x) ∷ []
event_lines names (Value body) (answer.Value x) = (codes "VALUE " ++ (printed names x ++ 10 ∷ [])) ∷ []
event_lines names (Value body) (answer.Undecided c) = undecided_line (codes "VALUE") c ∷ []
event_lines names (Assert body) (answer.Truth b) = (codes "ASSERT " ++ (truth_word b ++ 10 ∷ [])) ∷ []
event_lines names (Assert body) (answer.Undecided c) = undecided_line (codes "ASSERT") c ∷ []
event_lines names (Memoize f) (answer.Function t) = named_line names (codes "MEMOIZE ") t.number [] ∷ []
event_lines names (Unmemoize f) (answer.Function t) = named_line names (codes "UNMEMOIZE ") t.number [] ∷ []
event_lines names (Theorem thm) (answer.Decided v) = verdict_lines names thm.name v
event_lines names (Cases thm) (answer.ByCases v) = cases_lines names thm.cover.name v
event_lines names _ _ = []

abbrev pub read_word : ReadCode → List ℕ
read_word read.EndInside = codes "S1"
read_word read.StrayClose = codes "S2"
read_word read.BadDot = codes "S3"
read_word read.BadByte = codes "S4"
read_word read.WideNumber = codes "S5"
read_word read.NumberForm = codes "S6"
read_word read.BadHash = codes "S7"
read_word read.TooDeep = codes "S8"
read_word read.LongName = codes "S9"

abbrev pub term_word : TermFault → List ℕ
term_word term.UnknownFunction = codes "V4"
term_word term.WrongCount = codes "V5"
term_word term.UnboundVariable = codes "V6"
term_word term.BadUse = codes "V7"
term_word term.TooDeep = codes "V12"
-- want of memory refuses no form
term_word term.Memory = codes "memory"

abbrev pub event_word : EventFault → List ℕ
event_word event.UnknownEvent = codes "V1"
event_word event.BadEvent = codes "V2"
event_word event.Redefined = codes "V3"
event_word (event.Term fault) = term_word fault
event_word (event.NotAdmitted i) = codes "V8 " ++ decimal i
event_word event.BadBindings = codes "V10"
event_word event.BadOption = codes "V11"
event_word event.BadCases = codes "V13"
event_word event.Memory = codes "memory"

abbrev pub code_word : RefusalCode → List ℕ
code_word (code.Text fault) = read_word fault
code_word code.TooLong = codes "S10"
code_word code.Cyclic = codes "V14"
code_word code.Many = codes "V15"
code_word (code.Event fault) = event_word fault
code_word (code.Constant c) = codes "V9 " ++ cause_word c

abbrev pub refused_line : Refusal → List ℕ
refused_line r = codes "REFUSED " ++ (decimal r.line ++ (codes " " ++ (decimal r.column ++ (codes " " ++ (code_word r.code ++ 10 ∷ [])))))

-- ---- marks
abbrev pub mark_line : List (List ℕ) → Mark → List ℕ
mark_line names (mark.Book t) = named_line names (codes "BOOK ") t.number []
mark_line names (mark.End t) = named_line names (codes "END ") t.number []
mark_line names (mark.Same t) = named_line names (codes "SAME ") t.number []

abbrev pub entry_lines : List (List ℕ) → Entry → List (List ℕ)
entry_lines names (Answered e a) = event_lines names e a
entry_lines names (Marked m) = mark_line names m ∷ []
entry_lines names (Refused r) = refused_line r ∷ []

-- ---- the last line
abbrev pub is_proved : Answer → Bool
is_proved (answer.Decided verdict.Proved) = true
is_proved (answer.ByCases whole.Proved) = true
is_proved _ = false

abbrev pub is_vacuous : Answer → Bool
is_vacuous (answer.Decided verdict.Vacuous) = true
is_vacuous (answer.ByCases whole.Vacuous) = true
is_vacuous _ = false

abbrev pub is_refuted : Answer → Bool
is_refuted (answer.Decided (verdict.Refuted env)) = true
is_refuted (answer.ByCases (whole.Refuted env)) = true
is_refuted _ = false

abbrev pub is_decided : Answer → Bool
is_decided a = is_proved a || is_vacuous a || is_refuted a

-- a value or a truth that is not there, and a theorem with any other verdict
abbrev pub is_undecided : Answer → Bool
is_undecided (answer.Undecided why) = true
is_undecided (answer.Decided v) = not (is_decided (answer.Decided v))
is_undecided (answer.ByCases v) = not (is_decided (answer.ByCases v))
is_undecided _ = false

-- an asserted value that is NIL
abbrev pub is_failed : Answer → Bool
is_failed (answer.Truth b) = not b
is_failed _ = false

-- how many entries are answers of a kind
abbrev pub is_answer : (Answer → Bool) → Entry → Bool
is_answer is_one (Answered e a) = is_one a
is_answer is_one _ = false

abbrev pub count_of : (Answer → Bool) → List Entry → ℕ
count_of is_one entries = count_by (is_answer is_one) entries

abbrev pub counts_of : List Entry → Counts
counts_of entries = record { proved = count_of is_proved entries; vacuous = count_of is_vacuous entries; refuted = count_of is_refuted entries; undecided = count_of is_undecided entries; failed = count_of is_failed entries }

abbrev pub done_line : Counts → List ℕ
done_line c = codes "DONE proved=" ++ (decimal c.proved ++ (codes " vacuous=" ++ (decimal c.vacuous ++ (codes " refuted=" ++ (decimal c.refuted ++ (codes " undecided=" ++ (decimal c.undecided ++ 10 ∷ [])))))))

-- ---- the whole
abbrev pub transcript_lines : List (List ℕ) → List Entry → List (List ℕ)
transcript_lines names entries = flat_map (entry_lines names) entries ++ done_line (counts_of entries) ∷ []

abbrev pub is_refusal : Entry → Bool
is_refusal (Refused r) = true
is_refusal _ = false

-- the status of a book that is not refused
abbrev pub status_by : Counts → Status
status_by c = if nat_lt 0 c.refuted || nat_lt 0 c.failed then status.Refuted else (if nat_lt 0 c.undecided then status.Undecided else status.Good)

abbrev pub status_of : List Entry → Status
status_of entries = if list_any is_refusal entries then status.BookRefused else status_by (counts_of entries)
