-- The events that make no name, and constants, as the program takes their forms apart.
use Rattle.std.specs.Prelude.{ℕ, ◌&&◌, not, Bool, false, if◌then◌else◌, List, codes, Option, Some, None, Ok}
use Rattle.std.specs.Option.{option_and_then}
use Rattle.gl_logic.specs.Object.{Object}
use Rattle.gl_logic.specs.Exp.{Exp}
use Rattle.gl_logic.specs.WorldSeen.{WorldSeen}
use Rattle.gl_translate.specs.declared.fault.TermFault.TheVariants as term_fault
use Rattle.gl_logic.specs.Wording.{spells}
use Rattle.event_world.specs.declared.fault.EventFault.TheVariants as code
use Rattle.event_world.specs.Outcomes.{Outcome, and_then, found_or, holds_or}
use Rattle.event_world.specs.EventSeen.{EventSeen, Nothing, Defconst}
use Rattle.event_world.specs.PartsOf.{one_of, two_of, three_of, two_in}
use Rattle.event_world.specs.NamesMeant.{constant_name, is_taken}
use Rattle.event_world.specs.PlainMeant.{is_string, function_named, closed_meant}

abbrev pub is_package : List (List ℕ) → Option Object → Bool
is_package names (Some p) = is_string names (codes "ACL2") p
is_package names None = false

abbrev pub package_by : List (List ℕ) → List Object → Outcome EventSeen
package_by names parts = holds_or code.BadEvent (is_package names (one_of parts)) (Ok Nothing)

abbrev pub is_book : List (List ℕ) → Option (Object × Object × Object) → Bool
is_book names (Some p) = is_string names (codes "centaur/gl/gl") p.0 && (spells names (codes ":DIR") p.1 && spells names (codes ":SYSTEM") p.2)
is_book names None = false

abbrev pub book_by : List (List ℕ) → List Object → Outcome EventSeen
book_by names parts = holds_or code.BadEvent (is_book names (three_of parts)) (Ok Nothing)

abbrev pub quoted_in : List (List ℕ) → Object × Object → Option Object
quoted_in names p = if spells names (codes "QUOTE") p.0 then Some p.1 else None

abbrev pub quoted_part : List (List ℕ) → List Object → Option Object
quoted_part names parts = option_and_then (λ x. option_and_then (quoted_in names) (two_in x)) (one_of parts)

abbrev pub function_in : List (List ℕ) → WorldSeen → List Object → Outcome ℕ
function_in names w parts =
    found_or code.BadEvent (quoted_part names parts) (λ x.
    found_or (code.Term term_fault.UnknownFunction) (function_named w x) (λ f.
    Ok f))

abbrev pub memo_by : List (List ℕ) → WorldSeen → (ℕ → EventSeen) → List Object → Outcome EventSeen
memo_by names w event parts = and_then (function_in names w parts) (λ f. Ok (event f))

abbrev pub evaluation_by : List (List ℕ) → WorldSeen → (Exp → EventSeen) → List Object → Outcome EventSeen
evaluation_by names w event parts =
    found_or code.BadEvent (one_of parts) (λ form.
    and_then (closed_meant names w form) (λ t.
    Ok (event t)))

pub record ConstantParts : Type 0 where
  pub name : ℕ
  pub form : Object

abbrev pub constant_with : Option ℕ → Object → Option ConstantParts
constant_with (Some c) form = Some (record { name = c; form = form })
constant_with None form = None

abbrev pub constant_in : List (List ℕ) → Object × Object → Option ConstantParts
constant_in names p = constant_with (constant_name names p.0) p.1

abbrev pub defconst_by : List (List ℕ) → WorldSeen → List Object → Outcome EventSeen
defconst_by names w parts =
    found_or code.BadEvent (option_and_then (constant_in names) (two_of parts)) (λ p.
    holds_or code.Redefined (not (is_taken names w p.name)) (
    and_then (closed_meant names w p.form) (λ t.
    Ok (Defconst p.name t))))
