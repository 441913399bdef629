-- When the answer to an event is proper.
use Rattle.std.specs.Prelude.{◌≡◌, ◌≢◌, ℕ, Bool, not, List, [], Some, slice_get}
use Rattle.gl_logic.specs.Object.{Object}
use Rattle.gl_logic.specs.ObjectEq.{is_nil}
use Rattle.gl_logic.specs.Parts.{IsLarge}
use Rattle.gl_logic.specs.Exp.{Exp}
use Rattle.gl_logic.specs.Evaluate.{HasValue}
use Rattle.gl_logic.specs.Wide.{IsWide}
use Rattle.gl_logic.specs.WorldSeen.{WorldSeen, definition_names}
use Rattle.event_world.specs.EventSeen.{TheoremSeen, EventSeen, Defconst, Value, Assert, Memoize, Unmemoize, Theorem, Cases}
use Rattle.gl_cases.specs.Parts.{ParamSeen}
use Rattle.gl_decide.specs.Bounds.{Bounds}
use Rattle.gl_decide.specs.Causes.{IsOutOfWidth, IsOutOfSteps, IsOutOfCells}
use Rattle.gl_decide.specs.Verdicts.{IsProperVerdict}
use Rattle.gl_book.specs.Cases.{IsDecidedByCases}
use Rattle.gl_book.specs.declared.answer.Cause.{Cause}
use Rattle.gl_book.specs.declared.answer.Cause.TheVariants as cause
use Rattle.gl_book.specs.declared.answer.Answer.{Answer}
use Rattle.gl_book.specs.declared.answer.Answer.TheVariants as answer

-- ---- terms without variables
-- a value by the definitions alone, where no value on the way leaves 128 bits
pub record IsValue (w : WorldSeen) (t : Exp) (x : Object) : Type 0 where
  pub has : HasValue w.definitions [] t x
  pub narrow : ¬ IsWide w.definitions [] t

-- one that may be printed
pub record IsPrintedValue (w : WorldSeen) (t : Exp) (x : Object) : Type 0 where
  pub is : IsValue w t x
  pub small : ¬ IsLarge x

-- one that is too large to print
abbrev pub IsTooLarge : WorldSeen → Exp → Type 0
IsTooLarge w t = (x : Object) × IsValue w t x × IsLarge x

-- whether it is other than NIL
abbrev pub IsTruth : WorldSeen → Exp → Bool → Type 0
IsTruth w t b = (x : Object) × IsValue w t x × (b ≡ not (is_nil x))

-- why a value is not printed, by the limits of the run and the functions whose calls are kept. Want of memory is free
abbrev pub HasCause : Bounds → WorldSeen → List ℕ → Exp → Cause → Type 0
HasCause bounds w memoized t cause.Width = IsOutOfWidth w [] t
HasCause bounds w memoized t cause.Steps = IsOutOfSteps w memoized bounds.steps [] t
HasCause bounds w memoized t cause.Cells = IsOutOfCells w bounds.cells [] t
HasCause bounds w memoized t cause.Size = IsTooLarge w t
HasCause bounds w memoized t cause.Memory = Unit {0}

-- why it is not there. A value that nothing prints may have any size
pub record LacksValue (bounds : Bounds) (w : WorldSeen) (memoized : List ℕ) (t : Exp) (c : Cause) : Type 0 where
  pub has : HasCause bounds w memoized t c
  pub no_size : c ≢ cause.Size

-- ---- answers
-- of a value to print, and of a constant
abbrev pub IsProperValue : Bounds → WorldSeen → List ℕ → Exp → Answer → Type 0
IsProperValue bounds w memoized t (answer.Value x) = IsPrintedValue w t x
IsProperValue bounds w memoized t (answer.Undecided c) = HasCause bounds w memoized t c
IsProperValue bounds w memoized t _ = ⊥

-- of a value that is not to be NIL
abbrev pub IsProperTruth : Bounds → WorldSeen → List ℕ → Exp → Answer → Type 0
IsProperTruth bounds w memoized t (answer.Truth b) = IsTruth w t b
IsProperTruth bounds w memoized t (answer.Undecided c) = LacksValue bounds w memoized t c
IsProperTruth bounds w memoized t _ = ⊥

-- of a function whose calls are kept from now on, or no longer: its name
abbrev pub IsFunctionNamed : WorldSeen → ℕ → Answer → Type 0
IsFunctionNamed w f (answer.Function name) = slice_get (definition_names w.definitions) f ≡ Some name.number
IsFunctionNamed w f _ = ⊥

-- of a theorem
abbrev pub IsDecided : Bounds → WorldSeen → TheoremSeen → Answer → Type 0
IsDecided bounds w thm (answer.Decided v) = IsProperVerdict w bounds thm v
IsDecided bounds w thm _ = ⊥

-- of a theorem by cases
abbrev pub IsSettled : Bounds → WorldSeen → ParamSeen → Answer → Type 0
IsSettled bounds w thm (answer.ByCases v) = IsDecidedByCases bounds w thm v
IsSettled bounds w thm _ = ⊥

-- nothing is to be found out
abbrev pub IsDone : Answer → Type 0
IsDone answer.Done = Unit {0}
IsDone _ = ⊥

-- by the limits of the run, the world and the functions whose calls are kept at the event's place
abbrev pub IsProperAnswer : Bounds → WorldSeen → List ℕ → EventSeen → Answer → Type 0
IsProperAnswer bounds w memoized (Value t) a = IsProperValue bounds w memoized t a
IsProperAnswer bounds w memoized (Defconst name t) a = IsProperValue bounds w memoized t a
IsProperAnswer bounds w memoized (Assert t) a = IsProperTruth bounds w memoized t a
IsProperAnswer bounds w memoized (Memoize f) a = IsFunctionNamed w f a
IsProperAnswer bounds w memoized (Unmemoize f) a = IsFunctionNamed w f a
IsProperAnswer bounds w memoized (Theorem thm) a = IsDecided bounds w thm a
IsProperAnswer bounds w memoized (Cases thm) a = IsSettled bounds w thm a
IsProperAnswer bounds w memoized _ a = IsDone a
