-- What the checks of an event come to: something, or the code of the first that fails.
use Rattle.std.specs.Prelude.{◌≡◌, ◌≢◌, Bool, if◌then◌else◌, Option, Some, None, Result, Ok, Err, MatchResult}
use Rattle.gl_translate.specs.declared.fault.TermFault.{TermFault}
use Rattle.event_world.specs.declared.fault.EventFault.{EventFault}
use Rattle.event_world.specs.declared.fault.EventFault.TheVariants as code

abbrev pub Outcome : Type 0 → Type 0
Outcome A = Result A EventFault

-- one check before the next
abbrev pub and_then : {A B : Type 0} → Outcome A → (A → Outcome B) → Outcome B
and_then (Ok x) next = next x
and_then (Err c) next = Err c

-- a check that finds something, or fails with this code
abbrev pub found_or : {A B : Type 0} → EventFault → Option A → (A → Outcome B) → Outcome B
found_or c (Some x) next = next x
found_or c None next = Err c

-- a check that holds, or fails with this code
abbrev pub holds_or : {B : Type 0} → EventFault → Bool → Outcome B → Outcome B
holds_or c holds next = if holds then next else Err c

-- what a form means as a term, or the code of its first fault: V4, V5, V6, V7 or V12
abbrev pub of_term : {A : Type 0} → Result A TermFault → Outcome A
of_term (Ok t) = Ok t
of_term (Err f) = Err (code.Term f)

-- ---- answers
-- what stands for the outcome's value, or its code; want of memory is free
abbrev pub Gives : {A B : Type 0} → (A → B) → Outcome B → Result A EventFault → Type 0
Gives value_of o r = MatchResult r (λ a. o ≡ Ok (value_of a)) (λ e. e ≢ code.Memory → o ≡ Err e)
