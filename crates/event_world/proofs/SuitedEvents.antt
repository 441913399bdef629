-- What an accepted event is in its world.
use Rattle.std.proofs.Common.{◌≡◌, ◌∙◌, sym, refl, subst, ℕ, Bool, List, Option, Some, None}
use Rattle.std.specs.Prelude.{Result, Ok, Err, IfOk}
use Rattle.std.specs.Option.{option_and_then}
use Rattle.gl_logic.specs.Object.{Object}
use Rattle.gl_logic.specs.WorldSeen.{WorldSeen}
use Rattle.gl_logic.specs.Wording.{elements, all_meant}
use Rattle.shape_spec.specs.declared.theorem.Mode.{Mode}
use Rattle.shape_spec.specs.declared.theorem.Mode.TheVariants as mode
use Rattle.event_world.specs.declared.fault.EventFault.{EventFault}
use Rattle.event_world.specs.declared.fault.EventFault.TheVariants as code
use Rattle.event_world.specs.declared.word.EventWord.{EventWord}
use Rattle.event_world.specs.declared.word.EventWord.TheVariants as word
use Rattle.event_world.specs.EventSeen.{EventSeen, Nothing, Redundant, RedundantClique, SetMode, Memoize, Unmemoize, Value, Assert}
use Rattle.event_world.specs.Outcomes.{Outcome, found_or, holds_or, Gives}
use Rattle.event_world.specs.EventForms.{word_in, redundant_by, checked, event_by}
use Rattle.event_world.specs.EventWords.{behind_head}
use Rattle.event_world.specs.PartsOf.{is_empty, one_of, three_of}
use Rattle.event_world.specs.PlainForms.{is_package, is_book}
use Rattle.event_world.specs.RedundantMeant.{repeated_name, repeated_member, are_repeated, checked_repeated, redundant}
use Rattle.event_world.specs.EventMeant.{unless_redundant, event_meant}
use Rattle.event_world.specs.Suits.{Suits}
use Rattle.event_world.proofs.Inversions.{given, same_given, found_ok, holds_ok, none_some, map_some, if_some}
use Rattle.event_world.proofs.Suited.{evaluation_suits, defconst_suits, memo_suits, defun_suits, theorem_suits}
use Rattle.event_world.proofs.SuitedCliques.{clique_suits}
use Rattle.event_world.proofs.SuitedCases.{param_suits}
use Rattle.event_world.proofs.EventTables.{event_is}

-- ---- events that ask nothing of the world
nothing_suits : (w : WorldSeen) (t : Bool) (event e : EventSeen) → Suits w event → holds_or code.BadEvent t (Ok event) ≡ Ok e → Suits w e
nothing_suits w t event e s h = holds_ok code.BadEvent t (given event) e h (λ z q. subst (Suits w) (same_given event e q) s)

checked_suits : (names : List (List ℕ)) (w : WorldSeen) (now : Mode) (memoized : List ℕ) (k : EventWord) (xs : List Object) (e : EventSeen) → checked names w now memoized k xs ≡ Ok e → Suits w e
checked_suits names w now memoized word.InPackage xs e h = nothing_suits w (is_package names (one_of xs)) Nothing e tt h
checked_suits names w now memoized word.IncludeBook xs e h = nothing_suits w (is_book names (three_of xs)) Nothing e tt h
checked_suits names w now memoized word.Defun xs e h = defun_suits names w xs e h
checked_suits names w now memoized word.MutualRecursion xs e h = clique_suits names w xs e h
checked_suits names w now memoized word.Defconst xs e h = defconst_suits names w xs e h
checked_suits names w now memoized word.ValueTriple xs e h = evaluation_suits names w Value xs e (λ t k. k) h
checked_suits names w now memoized word.AssertEvent xs e h = evaluation_suits names w Assert xs e (λ t k. k) h
checked_suits names w now memoized word.Memoize xs e h = memo_suits names w Memoize xs e (λ f k. k) h
checked_suits names w now memoized word.Unmemoize xs e h = memo_suits names w Unmemoize xs e (λ f k. k) h
checked_suits names w now memoized word.BddMode xs e h = nothing_suits w (is_empty xs) (SetMode mode.Bdd) e tt h
checked_suits names w now memoized word.SatMode xs e h = nothing_suits w (is_empty xs) (SetMode mode.Sat) e tt h
checked_suits names w now memoized word.ParamMode xs e h = nothing_suits w (is_empty xs) (SetMode mode.Param) e tt h
checked_suits names w now memoized word.Theorem xs e h = theorem_suits names w now memoized xs e h
checked_suits names w now memoized word.ParamTheorem xs e h = param_suits names w now memoized xs e h

-- ---- redundant events
repeated_suits : (w : WorldSeen) (form : Object) (e : EventSeen) → redundant w form ≡ Some e → Suits w e
repeated_suits w form e h = map_some Redundant (repeated_name w form) e h (λ n hn q. subst (Suits w) q tt)

checked_repeated_suits : (w : WorldSeen) (o : Option (List ℕ)) (e : EventSeen) → checked_repeated o ≡ Some e → Suits w e
checked_repeated_suits w None e h = none_some e h
checked_repeated_suits w (Some ns) e h = if_some (are_repeated ns) (RedundantClique ns) e h (λ t q. subst (Suits w) q tt)

redundant_suits : (names : List (List ℕ)) (w : WorldSeen) (k : EventWord) (form : Object) (o : Option (List Object)) (e : EventSeen) → redundant_by names w k form o ≡ Some e → Suits w e
redundant_suits names w word.InPackage form o e h = none_some e h
redundant_suits names w word.IncludeBook form o e h = none_some e h
redundant_suits names w word.Defun form o e h = repeated_suits w form e h
redundant_suits names w word.MutualRecursion form o e h = checked_repeated_suits w (option_and_then (all_meant (repeated_member names w)) o) e h
redundant_suits names w word.Defconst form o e h = repeated_suits w form e h
redundant_suits names w word.ValueTriple form o e h = none_some e h
redundant_suits names w word.AssertEvent form o e h = none_some e h
redundant_suits names w word.Memoize form o e h = none_some e h
redundant_suits names w word.Unmemoize form o e h = none_some e h
redundant_suits names w word.BddMode form o e h = none_some e h
redundant_suits names w word.SatMode form o e h = none_some e h
redundant_suits names w word.ParamMode form o e h = none_some e h
redundant_suits names w word.Theorem form o e h = repeated_suits w form e h
redundant_suits names w word.ParamTheorem form o e h = repeated_suits w form e h

unless_suits : (w : WorldSeen) (o : Option EventSeen) (further : Outcome EventSeen) (e : EventSeen) → ((r : EventSeen) → o ≡ Some r → Suits w r) → (further ≡ Ok e → Suits w e) → unless_redundant o further ≡ Ok e → Suits w e
unless_suits w (Some r) further e f g h = subst (Suits w) (same_given r e h) (f r refl)
unless_suits w None further e f g h = g h

-- ---- the whole
suits_by : (names : List (List ℕ)) (w : WorldSeen) (now : Mode) (memoized : List ℕ) (form : Object) (e : EventSeen) → event_by names w now memoized form ≡ Ok e → Suits w e
suits_by names w now memoized form e h =
    let parts = elements (behind_head form) in
    found_ok code.UnknownEvent (word_in names form) _ e h (λ k hk q.
    unless_suits w (redundant_by names w k form parts) (found_or code.BadEvent parts (checked names w now memoized k)) e
    (λ r hr. redundant_suits names w k form parts r hr)
    (λ z. found_ok code.BadEvent parts (checked names w now memoized k) e z (λ xs hxs y. checked_suits names w now memoized k xs e y)) q)

pub event_suits : (names : List (List ℕ)) (w : WorldSeen) (now : Mode) (memoized : List ℕ) (form : Object) (e : EventSeen) → event_meant names w now memoized form ≡ Ok e → Suits w e
event_suits names w now memoized form e h = suits_by names w now memoized form e (sym (event_is names w now memoized form) ∙ h)

-- ---- answers
pub given_has : {A B : Type 0} (value_of : A → B) (o : Outcome B) (r : Result A EventFault) (P : B → Type 0) → ((b : B) → o ≡ Ok b → P b) → Gives value_of o r → IfOk r (λ a. P (value_of a))
given_has value_of o (Ok a) P g h = g (value_of a) h
given_has value_of o (Err e) P g h = tt

pub gives_at : {A B : Type 0} (value_of : A → B) (o p : Outcome B) (r : Result A EventFault) → o ≡ p → Gives value_of o r → Gives value_of p r
gives_at value_of o p (Ok a) e h = sym e ∙ h
gives_at value_of o p (Err c) e h = λ k. sym e ∙ h k
