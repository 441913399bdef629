-- The events that make no name, and constants.
use Rattle.std.specs.Prelude.{ℕ, ◌&&◌, not, bytes_eq, Bool, false, List, [], ◌∷◌, codes, Option, None, Ok, Err}
use Rattle.gl_logic.specs.Object.{Object, Symbol, Text}
use Rattle.gl_logic.specs.Exp.{Exp}
use Rattle.gl_logic.specs.Named.{place_of}
use Rattle.gl_logic.specs.WorldSeen.{WorldSeen, definition_names}
use Rattle.gl_translate.specs.Translation.{translation}
use Rattle.gl_translate.specs.declared.fault.TermFault.TheVariants as term_fault
use Rattle.gl_logic.specs.Wording.{text_of, spells}
use Rattle.shape_spec.specs.declared.theorem.Mode.{Mode}
use Rattle.event_world.specs.declared.fault.EventFault.TheVariants as code
use Rattle.event_world.specs.Outcomes.{Outcome, and_then, found_or, holds_or, of_term}
use Rattle.event_world.specs.EventSeen.{EventSeen, Nothing, Defconst, SetMode}
use Rattle.event_world.specs.PartsOf.{is_empty, two_in}
use Rattle.event_world.specs.NamesMeant.{constant_name, is_taken}

-- each event is meant by what stands behind its word

-- ---- (in-package "ACL2"): check 3, V2
abbrev pub is_string : List (List ℕ) → List ℕ → Object → Bool
is_string names text (Text t) = bytes_eq (text_of names t) text
is_string names text _ = false

abbrev pub package_meant : List (List ℕ) → List Object → Outcome EventSeen
package_meant names (p ∷ []) = holds_or code.BadEvent (is_string names (codes "ACL2") p) (Ok Nothing)
package_meant names _ = Err code.BadEvent

-- ---- (include-book "centaur/gl/gl" :dir :system): check 3, V2
abbrev pub book_meant : List (List ℕ) → List Object → Outcome EventSeen
book_meant names (b ∷ k ∷ d ∷ []) =
    holds_or code.BadEvent (is_string names (codes "centaur/gl/gl") b && (spells names (codes ":DIR") k && spells names (codes ":SYSTEM") d)) (
    Ok Nothing)
book_meant names _ = Err code.BadEvent

-- ---- (gl-bdd-mode), (gl-satlink-mode): check 3, V2
abbrev pub mode_meant : Mode → List Object → Outcome EventSeen
mode_meant mode parts = holds_or code.BadEvent (is_empty parts) (Ok (SetMode mode))

-- ---- (memoize 'f), (unmemoize 'f): check 3, V2, and check 7, V4 where f is no definition
abbrev pub function_named : WorldSeen → Object → Option ℕ
function_named w (Symbol f) = place_of (definition_names w.definitions) f
function_named w _ = None

abbrev pub memo_meant : List (List ℕ) → WorldSeen → (ℕ → EventSeen) → List Object → Outcome EventSeen
memo_meant names w event (x ∷ []) =
    found_or code.BadEvent (two_in x) (λ q.
    holds_or code.BadEvent (spells names (codes "QUOTE") q.0) (
    found_or (code.Term term_fault.UnknownFunction) (function_named w q.1) (λ f.
    Ok (event f))))
memo_meant names w event _ = Err code.BadEvent

-- ---- a term without variables, by its form
abbrev pub closed_meant : List (List ℕ) → WorldSeen → Object → Outcome Exp
closed_meant names w form = of_term (translation names w (record { vars = []; every = false; own = [] }) form)

-- ---- (value-triple e), (assert-event e): check 3, V2, and check 7, the term
abbrev pub evaluation_meant : List (List ℕ) → WorldSeen → (Exp → EventSeen) → List Object → Outcome EventSeen
evaluation_meant names w event (form ∷ []) = and_then (closed_meant names w form) (λ t. Ok (event t))
evaluation_meant names w event _ = Err code.BadEvent

-- ---- (defconst *c* e): check 3, V2, check 5, V3, and check 7, the term. Check 9, V9, needs the term's value
abbrev pub defconst_meant : List (List ℕ) → WorldSeen → List Object → Outcome EventSeen
defconst_meant names w (n ∷ form ∷ []) =
    found_or code.BadEvent (constant_name names n) (λ name.
    holds_or code.Redefined (not (is_taken names w name)) (
    and_then (closed_meant names w form) (λ t.
    Ok (Defconst name t))))
defconst_meant names w _ = Err code.BadEvent
