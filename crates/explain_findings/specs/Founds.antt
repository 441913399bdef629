-- What comes of an event, by its answer.
use Rattle.std.specs.Prelude.{◌≡◌, ℕ, Bool, true, false, List, [], map, drop, Option, Some, None}
use Rattle.gl_logic.specs.Object.{Object}
use Rattle.gl_decide.specs.declared.verdict.Verdict.{Verdict as Decided}
use Rattle.gl_decide.specs.declared.verdict.Verdict.TheVariants as decided
use Rattle.gl_book.specs.declared.cases.CasesVerdict.{CasesVerdict}
use Rattle.gl_book.specs.declared.cases.CasesVerdict.TheVariants as whole
use Rattle.gl_book.specs.declared.answer.Answer.{Answer}
use Rattle.gl_book.specs.declared.answer.Answer.TheVariants as answer
use Rattle.gl_book.specs.Lines.{is_proved, is_vacuous, is_refuted, is_undecided, is_failed}
use Rattle.gl_book.specs.Undecided.{undecided_words}
use Rattle.explain_report.specs.declared.record.Verdict.{Verdict}
use Rattle.explain_report.specs.declared.record.Verdict.TheVariants as verdict
use Rattle.explain_report.specs.declared.record.Input.{Input}
use Rattle.explain_report.specs.declared.record.Found.{Found}

-- ---- the verdict
-- the last line of a transcript counts it as none of what asks for a look, and not as proved
pub record IsUncounted (a : Answer) : Type 0 where
  pub unproved : is_proved a ≡ false
  pub some_left : is_vacuous a ≡ false
  pub unrefuted : is_refuted a ≡ false
  pub decided : is_undecided a ≡ false
  pub unfailed : is_failed a ≡ false

-- the last line counts the answer as this verdict
abbrev pub IsVerdictOf : Answer → Verdict → Type 0
IsVerdictOf a verdict.Proved = is_proved a ≡ true
IsVerdictOf a verdict.Vacuous = is_vacuous a ≡ true
IsVerdictOf a verdict.Refuted = is_refuted a ≡ true
IsVerdictOf a verdict.Undecided = is_undecided a ≡ true
IsVerdictOf a verdict.Failed = is_failed a ≡ true
IsVerdictOf a verdict.Holds = a ≡ answer.Truth true
IsVerdictOf a verdict.Value = IsUncounted a
IsVerdictOf a verdict.Taken = IsUncounted a
IsVerdictOf a _ = ⊥

-- it is what the event says that was found to hold
abbrev pub IsHolding : Verdict → Type 0
IsHolding verdict.Proved = Unit {0}
IsHolding verdict.Holds = Unit {0}
IsHolding _ = ⊥

-- ---- the input
-- of what leaves a theorem undecided
abbrev pub input_of_open : Decided → Option (List (ℕ × Object))
input_of_open (decided.Clock p env) = Some env
input_of_open (decided.Width p env) = Some env
input_of_open (decided.Steps p env) = Some env
input_of_open (decided.Cells p env) = Some env
input_of_open _ = None

abbrev pub input_of : Answer → Option (List (ℕ × Object))
input_of (answer.Decided (decided.Refuted env)) = Some env
input_of (answer.Decided v) = input_of_open v
input_of (answer.ByCases (whole.Refuted env)) = Some env
input_of (answer.ByCases (whole.Uncased env)) = Some env
input_of (answer.ByCases (whole.Cover v)) = input_of_open v
input_of (answer.ByCases (whole.Case i v)) = input_of_open v
input_of _ = None

abbrev pub pairs_in : Option (List (ℕ × Object)) → List (ℕ × Object)
pairs_in (Some env) = env
pairs_in None = []

abbrev pub input_seen : List Input → List (ℕ × Object)
input_seen inputs = map (λ i. (i.variable.number, i.object)) inputs

-- ---- what is found says what the answer says: its verdict, its cause in words, and its input
pub record IsFound (names : List (List ℕ)) (a : Answer) (f : Found) : Type 0 where
  pub verdict : IsVerdictOf a f.verdict
  pub words : f.words.items ≡ drop 1 (undecided_words names a)
  pub input : input_seen f.inputs.items ≡ pairs_in (input_of a)
