-- Cliques as the program takes their forms apart: all members by one check before the next.
use Rattle.std.specs.Prelude.{ℕ, Bool, not, if◌then◌else◌, List, Option, Some, None}
use Rattle.std.specs.List.{list_all}
use Rattle.gl_logic.specs.Object.{Object}
use Rattle.gl_logic.specs.WorldSeen.{WorldSeen}
use Rattle.gl_logic.specs.Wording.{all_meant}
use Rattle.gl_translate.specs.declared.fault.TermFault.TheVariants as term_fault
use Rattle.event_world.specs.declared.fault.EventFault.TheVariants as code
use Rattle.event_world.specs.Outcomes.{Outcome, and_then, found_or, holds_or}
use Rattle.event_world.specs.EventSeen.{EventSeen}
use Rattle.event_world.specs.NamesMeant.{is_taken}
use Rattle.event_world.specs.DefunMeant.{DefunParts}
use Rattle.event_world.specs.CliqueMeant.{StatedMember, MadeMember, member_parts, are_members, stated_member, made_member, owns_of, members_meant, clique_judged}

abbrev pub checked_members : Option (List DefunParts) → Option (List DefunParts)
checked_members (Some ds) = if are_members ds then Some ds else None
checked_members None = None

abbrev pub clique_parts : List (List ℕ) → List Object → Option (List DefunParts)
clique_parts names parts = checked_members (all_meant (member_parts names) parts)

abbrev pub all_stated : List (List ℕ) → List DefunParts → Option (List StatedMember)
all_stated names ds = all_meant (stated_member names) ds

abbrev pub is_new : List (List ℕ) → WorldSeen → StatedMember → Bool
is_new names w d = not (is_taken names w d.parts.name)

abbrev pub are_new : List (List ℕ) → WorldSeen → List StatedMember → Bool
are_new names w ds = list_all (is_new names w) ds

abbrev pub all_made : List (List ℕ) → List StatedMember → Option (List MadeMember)
all_made names ds = all_meant (made_member names) ds

abbrev pub clique_made : List (List ℕ) → WorldSeen → List DefunParts → Outcome EventSeen
clique_made names w ds =
    found_or code.BadOption (all_stated names ds) (λ stated.
    holds_or code.Redefined (are_new names w stated) (
    found_or (code.Term term_fault.BadUse) (all_made names stated) (λ made.
    and_then (members_meant names w (owns_of made) made) (clique_judged w))))

abbrev pub clique_by : List (List ℕ) → WorldSeen → List Object → Outcome EventSeen
clique_by names w parts = found_or code.BadEvent (clique_parts names parts) (clique_made names w)
