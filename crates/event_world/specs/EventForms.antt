-- Events as the program looks at them: by the code of their word.
use Rattle.std.specs.Prelude.{ℕ, if◌then◌else◌, List, codes, bytes_eq, Option, Some, None}
use Rattle.gl_logic.specs.Object.{Object, Symbol, Cons}
use Rattle.gl_logic.specs.WorldSeen.{WorldSeen}
use Rattle.gl_logic.specs.Wording.{text_of, elements}
use Rattle.shape_spec.specs.declared.theorem.Mode.{Mode}
use Rattle.shape_spec.specs.declared.theorem.Mode.TheVariants as mode
use Rattle.event_world.specs.declared.fault.EventFault.TheVariants as code
use Rattle.event_world.specs.declared.word.EventWord.{EventWord}
use Rattle.event_world.specs.declared.word.EventWord.TheVariants as word
use Rattle.event_world.specs.Outcomes.{Outcome, found_or}
use Rattle.event_world.specs.EventSeen.{EventSeen, Value, Assert, Memoize, Unmemoize}
use Rattle.event_world.specs.EventWords.{behind_head}
use Rattle.event_world.specs.RedundantMeant.{redundant, redundant_clique}
use Rattle.event_world.specs.PlainMeant.{mode_meant}
use Rattle.event_world.specs.PlainForms.{package_by, book_by, memo_by, evaluation_by, defconst_by}
use Rattle.event_world.specs.DefunMeant.{defun_meant}
use Rattle.event_world.specs.CliqueForms.{clique_by}
use Rattle.event_world.specs.TheoremForms.{theorem_by}
use Rattle.event_world.specs.CasesForms.{param_by}
use Rattle.event_world.specs.EventMeant.{unless_redundant}

-- by a symbol's text
unfoldable pub event_word : List ℕ → Option EventWord
event_word text =
    if bytes_eq text (codes "IN-PACKAGE") then Some word.InPackage
    else if bytes_eq text (codes "INCLUDE-BOOK") then Some word.IncludeBook
    else if bytes_eq text (codes "DEFUN") then Some word.Defun
    else if bytes_eq text (codes "MUTUAL-RECURSION") then Some word.MutualRecursion
    else if bytes_eq text (codes "DEFCONST") then Some word.Defconst
    else if bytes_eq text (codes "VALUE-TRIPLE") then Some word.ValueTriple
    else if bytes_eq text (codes "ASSERT-EVENT") then Some word.AssertEvent
    else if bytes_eq text (codes "MEMOIZE") then Some word.Memoize
    else if bytes_eq text (codes "UNMEMOIZE") then Some word.Unmemoize
    else if bytes_eq text (codes "GL-BDD-MODE") then Some word.BddMode
    else if bytes_eq text (codes "GL-SATLINK-MODE") then Some word.SatMode
    else if bytes_eq text (codes "GL-PARAM-MODE") then Some word.ParamMode
    else if bytes_eq text (codes "DEF-GL-THM") then Some word.Theorem
    else if bytes_eq text (codes "DEF-GL-PARAM-THM") then Some word.ParamTheorem
    else None

-- the event of a list whose head is a symbol of the table
abbrev pub word_in : List (List ℕ) → Object → Option EventWord
word_in names (Cons (Symbol t) rest) = event_word (text_of names t)
word_in names _ = None

abbrev pub redundant_by : List (List ℕ) → WorldSeen → EventWord → Object → Option (List Object) → Option EventSeen
redundant_by names w word.Defun form parts = redundant w form
redundant_by names w word.Defconst form parts = redundant w form
redundant_by names w word.Theorem form parts = redundant w form
redundant_by names w word.ParamTheorem form parts = redundant w form
redundant_by names w word.MutualRecursion form parts = redundant_clique names w parts
redundant_by names w _ form parts = None

-- checks 3 to 9 of a proper list, by what stands behind the word
abbrev pub checked : List (List ℕ) → WorldSeen → Mode → List ℕ → EventWord → List Object → Outcome EventSeen
checked names w now memoized word.InPackage parts = package_by names parts
checked names w now memoized word.IncludeBook parts = book_by names parts
checked names w now memoized word.Defun parts = defun_meant names w parts
checked names w now memoized word.MutualRecursion parts = clique_by names w parts
checked names w now memoized word.Defconst parts = defconst_by names w parts
checked names w now memoized word.ValueTriple parts = evaluation_by names w Value parts
checked names w now memoized word.AssertEvent parts = evaluation_by names w Assert parts
checked names w now memoized word.Memoize parts = memo_by names w Memoize parts
checked names w now memoized word.Unmemoize parts = memo_by names w Unmemoize parts
checked names w now memoized word.BddMode parts = mode_meant mode.Bdd parts
checked names w now memoized word.SatMode parts = mode_meant mode.Sat parts
checked names w now memoized word.ParamMode parts = mode_meant mode.Param parts
checked names w now memoized word.Theorem parts = theorem_by names w now memoized parts
checked names w now memoized word.ParamTheorem parts = param_by names w now memoized parts

-- behind the head; a list that is not proper has not the parts of an event
abbrev pub meant_behind : List (List ℕ) → WorldSeen → Mode → List ℕ → EventWord → Object → Option (List Object) → Outcome EventSeen
meant_behind names w now memoized word form parts =
    unless_redundant (redundant_by names w word form parts) (
    found_or code.BadEvent parts (checked names w now memoized word))

abbrev pub event_by : List (List ℕ) → WorldSeen → Mode → List ℕ → Object → Outcome EventSeen
event_by names w now memoized form =
    found_or code.UnknownEvent (word_in names form) (λ word.
    meant_behind names w now memoized word form (elements (behind_head form)))
