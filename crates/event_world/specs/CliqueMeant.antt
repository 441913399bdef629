-- Definitions that may call one another.
use Rattle.std.specs.Prelude.{ℕ, Bool, ◌&&◌, not, leb, if◌then◌else◌, List, [], ◌∷◌, length, map, codes, Option, None, Some, Ok, Err}
use Rattle.std.specs.List.{list_all}
use Rattle.std.specs.Option.{option_map, option_and_then}
use Rattle.gl_logic.specs.Object.{Object}
use Rattle.gl_logic.specs.Definition.{Definition}
use Rattle.gl_logic.specs.IsAdmissible.{recursive_calls}
use Rattle.gl_logic.specs.WorldSeen.{WorldSeen}
use Rattle.gl_logic.specs.declared.def.Measure.{Measure}
use Rattle.gl_translate.specs.declared.fault.TermFault.TheVariants as term_fault
use Rattle.admission.specs.Refused.{first_refused}
use Rattle.admission.specs.Admitted.{settled}
use Rattle.gl_logic.specs.Wording.{spells, elements, all_meant}
use Rattle.gl_logic.specs.NameSets.{are_different}
use Rattle.event_world.specs.declared.fault.EventFault.TheVariants as code
use Rattle.event_world.specs.Outcomes.{Outcome, and_then, found_or, holds_or}
use Rattle.event_world.specs.EventSeen.{EventSeen, Clique}
use Rattle.event_world.specs.PartsOf.{is_empty}
use Rattle.event_world.specs.NamesMeant.{is_taken}
use Rattle.event_world.specs.Declares.{stated_measure}
use Rattle.event_world.specs.DefunMeant.{DefunParts, defun_parts, formals_meant, body_meant}

-- ---- check 3, V2: 1 to 16 forms, each a `defun`, no two of one name
abbrev pub headed_parts : List (List ℕ) → List Object → Option DefunParts
headed_parts names (k ∷ parts) = if spells names (codes "DEFUN") k then defun_parts names parts else None
headed_parts names [] = None

abbrev pub member_parts : List (List ℕ) → Object → Option DefunParts
member_parts names x = option_and_then (headed_parts names) (elements x)

abbrev pub are_members : List DefunParts → Bool
are_members ds = (leb 1 (length ds) && leb (length ds) 16) && are_different (map (λ d. d.name) ds)

-- ---- check 4, V11: the measure that each states
pub record StatedMember : Type 0 where
  pub parts : DefunParts
  pub stated : Option Measure

abbrev pub stated_member : List (List ℕ) → DefunParts → Option StatedMember
stated_member names d = option_map (λ m. record { parts = d; stated = m }) (stated_measure names d.formals d.before)

-- ---- check 6, V7. (Check 5, V3, stands below)
pub record MadeMember : Type 0 where
  pub name : ℕ
  pub formals : List ℕ
  pub body : Object
  pub stated : Option Measure

abbrev pub made_member : List (List ℕ) → StatedMember → Option MadeMember
made_member names d = option_map (λ vs. record { name = d.parts.name; formals = vs; body = d.parts.body; stated = d.stated }) (formals_meant names d.parts.formals)

-- ---- check 7: the bodies in their order, in which all members may be called
-- each member with its count of formals
abbrev pub owns_of : List MadeMember → List (ℕ × ℕ)
owns_of ms = map (λ m. (m.name, length m.formals)) ms

abbrev pub member_meant : List (List ℕ) → WorldSeen → List (ℕ × ℕ) → MadeMember → Outcome Definition
member_meant names w own m = and_then (body_meant names w own m.formals m.body) (λ t. Ok (record { name = m.name; formals = m.formals; body = t; measure = m.stated }))

abbrev pub members_meant : List (List ℕ) → WorldSeen → List (ℕ × ℕ) → List MadeMember → Outcome (List Definition)
members_meant names w own [] = Ok []
members_meant names w own (m ∷ ms) = and_then (member_meant names w own m) (λ d. and_then (members_meant names w own ms) (λ ds. Ok (d ∷ ds)))

-- ---- check 9, V8: each call of a member is a step to the callee's measure. A member that states none has the count of its first formal
abbrev pub unmeasured : Definition → Definition
unmeasured d = record d { measure = None }

-- a clique without a recursive call has no measures
abbrev pub with_settled : ℕ → List Definition → List Definition
with_settled first ds = if is_empty (recursive_calls first ds) then map unmeasured ds else map settled ds

abbrev pub clique_admitted : ℕ → List Definition → Option ℕ → Outcome EventSeen
clique_admitted first ds None = Ok (Clique (with_settled first ds))
clique_admitted first ds (Some i) = Err (code.NotAdmitted i)

abbrev pub clique_judged : WorldSeen → List Definition → Outcome EventSeen
clique_judged w ds = clique_admitted (length w.definitions) ds (first_refused (length w.definitions) (map settled ds))

-- ---- the checks in their order, each on all members before the next, by what stands behind `mutual-recursion`
abbrev pub clique_meant : List (List ℕ) → WorldSeen → List Object → Outcome EventSeen
clique_meant names w parts =
    found_or code.BadEvent (all_meant (member_parts names) parts) (λ ds.
    holds_or code.BadEvent (are_members ds) (
    found_or code.BadOption (all_meant (stated_member names) ds) (λ stated.
    holds_or code.Redefined (list_all (λ d. not (is_taken names w d.parts.name)) stated) (
    found_or (code.Term term_fault.BadUse) (all_meant (made_member names) stated) (λ made.
    and_then (members_meant names w (owns_of made) made) (clique_judged w))))))
