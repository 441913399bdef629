-- Definitions.
use Rattle.std.specs.Prelude.{ℕ, Bool, false, ◌+◌, ◌&&◌, ◌||◌, leb, cond, if◌then◌else◌, List, [], ◌∷◌, length, not, Option, Some, None, Result, Ok, Err}
use Rattle.std.specs.List.{list_all}
use Rattle.gl_logic.specs.Object.{Object}
use Rattle.gl_logic.specs.Exp.{Exp}
use Rattle.gl_logic.specs.Definition.{Definition}
use Rattle.gl_logic.specs.WorldSeen.{WorldSeen}
use Rattle.gl_logic.specs.declared.def.Measure.{Measure}
use Rattle.gl_translate.specs.Translation.{translation}
use Rattle.gl_translate.specs.declared.fault.TermFault.TheVariants as term_fault
use Rattle.admission.specs.Admitted.{verdict}
use Rattle.gl_logic.specs.Wording.{elements, all_meant}
use Rattle.gl_logic.specs.NameSets.{are_different}
use Rattle.event_world.specs.declared.fault.EventFault.TheVariants as code
use Rattle.event_world.specs.Outcomes.{Outcome, and_then, found_or, holds_or, of_term}
use Rattle.event_world.specs.EventSeen.{EventSeen, Defun}
use Rattle.event_world.specs.PartsOf.{split_last}
use Rattle.event_world.specs.NamesMeant.{plain_name, is_taken}
use Rattle.event_world.specs.Declares.{is_text, is_declare, stated_measure}

-- the name, the formals as they are written, what stands before the body, the body
pub record DefunParts : Type 0 where
  pub name : ℕ
  pub formals : List Object
  pub before : List Object
  pub body : Object

-- ---- check 3, V2: (defun f (v ..) body) with an optional string and `declare` forms before the body
abbrev pub texts_in : List Object → ℕ
texts_in [] = 0
texts_in (x ∷ xs) = cond (is_text x) 1 0 + texts_in xs

-- strings, at most one, and `declare` forms
abbrev pub may_stand_before : List (List ℕ) → List Object → Bool
may_stand_before names before = list_all (λ x. is_text x || is_declare names x) before && leb (texts_in before) 1

abbrev pub with_body : List (List ℕ) → ℕ → List Object → Option (List Object × Object) → Option DefunParts
with_body names f formals (Some p) = if may_stand_before names p.0 then Some (record { name = f; formals = formals; before = p.0; body = p.1 }) else None
with_body names f formals None = None

abbrev pub named_parts : List (List ℕ) → Option ℕ → Option (List Object) → List Object → Option DefunParts
named_parts names (Some f) (Some formals) behind = with_body names f formals (split_last behind)
named_parts names _ _ behind = None

abbrev pub defun_parts : List (List ℕ) → List Object → Option DefunParts
defun_parts names (n ∷ vs ∷ behind) = named_parts names (plain_name names n) (elements vs) behind
defun_parts names _ = None

-- ---- check 6, V7: the formals are legal variables, all different, at most 255
abbrev pub are_formals : List ℕ → Bool
are_formals vs = are_different vs && leb (length vs) 255

abbrev pub checked_formals : Option (List ℕ) → Option (List ℕ)
checked_formals (Some vs) = if are_formals vs then Some vs else None
checked_formals None = None

abbrev pub formals_meant : List (List ℕ) → List Object → Option (List ℕ)
formals_meant names formals = checked_formals (all_meant (plain_name names) formals)

-- ---- check 7: the body, in which the formals are in scope and the definitions being made are called
abbrev pub body_meant : List (List ℕ) → WorldSeen → List (ℕ × ℕ) → List ℕ → Object → Outcome Exp
body_meant names w own vs body = of_term (translation names w (record { vars = vs; every = false; own = own }) body)

-- ---- check 9, V8: each recursive call is a step of the measure
abbrev pub admitted : Definition → Result (Option Measure) ℕ → Outcome EventSeen
admitted d (Ok m) = Ok (Defun (record d { measure = m }))
admitted d (Err i) = Err (code.NotAdmitted i)

abbrev pub definition_made : ℕ → List ℕ → Exp → Definition
definition_made f vs t = record { name = f; formals = vs; body = t; measure = None }

abbrev pub judged : WorldSeen → Option Measure → Definition → Outcome EventSeen
judged w stated d = admitted d (verdict (length w.definitions) d.formals d.body stated)

-- ---- the checks in their order, by what stands behind `defun`
abbrev pub defun_meant : List (List ℕ) → WorldSeen → List Object → Outcome EventSeen
defun_meant names w parts =
    found_or code.BadEvent (defun_parts names parts) (λ d.
    found_or code.BadOption (stated_measure names d.formals d.before) (λ stated.
    holds_or code.Redefined (not (is_taken names w d.name)) (
    found_or (code.Term term_fault.BadUse) (formals_meant names d.formals) (λ vs.
    and_then (body_meant names w ((d.name, length vs) ∷ []) vs d.body) (λ t.
    judged w stated (definition_made d.name vs t))))))
