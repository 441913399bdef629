-- The event that a form means in a world, a mode and a list of memoized functions, or the code of the first check that fails.
--
-- The checks, in their order:
--   1. V1: the form is a list whose head is the word of an event
--   2. a named event whose form equals the accepted one of its name is redundant, and accepted
--   3. V2: the parts of the event, and a name that it may have
--   4. V11: options, keywords and `declare` forms; then V13: the cases of a theorem by cases
--   5. V3: the name is not taken
--   6. V7: formals
--   7. V4, V5, V6, V7, V12: the terms
--   8. V10: bindings
--   9. V8: recursive calls. (V9, a constant without a value, is not told by the form)
-- Checks 3 to 9 stand with each event: package_meant, book_meant, mode_meant, memo_meant, evaluation_meant and defconst_meant in PlainMeant, defun_meant, clique_meant, theorem_meant, param_meant.
use Rattle.std.specs.Prelude.{ℕ, List, [], ◌∷◌, codes, Option, Some, None, Ok}
use Rattle.gl_logic.specs.Object.{Object}
use Rattle.gl_logic.specs.WorldSeen.{WorldSeen}
use Rattle.shape_spec.specs.declared.theorem.Mode.{Mode}
use Rattle.shape_spec.specs.declared.theorem.Mode.TheVariants as mode
use Rattle.gl_logic.specs.Wording.{elements}
use Rattle.gl_translate.specs.Words.{beside}
use Rattle.event_world.specs.declared.fault.EventFault.TheVariants as code
use Rattle.event_world.specs.Outcomes.{Outcome, found_or}
use Rattle.event_world.specs.EventSeen.{EventSeen, Value, Assert, Memoize, Unmemoize}
use Rattle.event_world.specs.EventWords.{word_of, behind_head}
use Rattle.event_world.specs.RedundantMeant.{redundant_meant}
use Rattle.event_world.specs.PlainMeant.{package_meant, book_meant, mode_meant, memo_meant, evaluation_meant, defconst_meant}
use Rattle.event_world.specs.DefunMeant.{defun_meant}
use Rattle.event_world.specs.CliqueMeant.{clique_meant}
use Rattle.event_world.specs.TheoremMeant.{theorem_meant}
use Rattle.event_world.specs.CasesMeant.{param_meant}

-- the events by their words, each with what it means by what stands behind the word: checks 3 to 9
abbrev pub events : List (List ℕ) → WorldSeen → Mode → List ℕ → List (List ℕ × (List Object → Outcome EventSeen))
events names w now memoized =
    (codes "IN-PACKAGE", package_meant names)
    ∷ (codes "INCLUDE-BOOK", book_meant names)
    ∷ (codes "DEFUN", defun_meant names w)
    ∷ (codes "MUTUAL-RECURSION", clique_meant names w)
    ∷ (codes "DEFCONST", defconst_meant names w)
    ∷ (codes "VALUE-TRIPLE", evaluation_meant names w Value)
    ∷ (codes "ASSERT-EVENT", evaluation_meant names w Assert)
    ∷ (codes "MEMOIZE", memo_meant names w Memoize)
    ∷ (codes "UNMEMOIZE", memo_meant names w Unmemoize)
    ∷ (codes "GL-BDD-MODE", mode_meant mode.Bdd)
    ∷ (codes "GL-SATLINK-MODE", mode_meant mode.Sat)
    ∷ (codes "GL-PARAM-MODE", mode_meant mode.Param)
    ∷ (codes "DEF-GL-THM", theorem_meant names w now memoized)
    ∷ (codes "DEF-GL-PARAM-THM", param_meant names w now memoized)
    ∷ []

-- a redundant event is accepted before all further checks
abbrev pub unless_redundant : Option EventSeen → Outcome EventSeen → Outcome EventSeen
unless_redundant (Some event) further = Ok event
unless_redundant None further = further

-- a list that is not proper has not the parts of an event
abbrev pub event_meant : List (List ℕ) → WorldSeen → Mode → List ℕ → Object → Outcome EventSeen
event_meant names w now memoized form =
    found_or code.UnknownEvent (word_of names form) (λ word.
    found_or code.UnknownEvent (beside (events names w now memoized) word) (λ event.
    unless_redundant (redundant_meant names w word form) (
    found_or code.BadEvent (elements (behind_head form)) event)))
