-- Definitions as the program takes their forms apart: what is left where the name is free.
use Rattle.std.specs.Prelude.{ℕ, List, [], ◌∷◌, length, Option}
use Rattle.gl_logic.specs.WorldSeen.{WorldSeen}
use Rattle.gl_logic.specs.declared.def.Measure.{Measure}
use Rattle.gl_translate.specs.declared.fault.TermFault.TheVariants as term_fault
use Rattle.event_world.specs.declared.fault.EventFault.TheVariants as code
use Rattle.event_world.specs.Outcomes.{Outcome, and_then, found_or}
use Rattle.event_world.specs.EventSeen.{EventSeen}
use Rattle.event_world.specs.DefunMeant.{DefunParts, formals_meant, body_meant, judged, definition_made}

abbrev pub defun_made : List (List ℕ) → WorldSeen → DefunParts → Option Measure → Outcome EventSeen
defun_made names w d stated =
    found_or (code.Term term_fault.BadUse) (formals_meant names d.formals) (λ vs.
    and_then (body_meant names w ((d.name, length vs) ∷ []) vs d.body) (λ t.
    judged w stated (definition_made d.name vs t)))
