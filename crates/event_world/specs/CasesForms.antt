-- Theorems by cases as the program takes their forms apart: first their parts, then the checks.
use Rattle.std.specs.Prelude.{ℕ, Bool, false, ◌&&◌, not, if◌then◌else◌, List, [], ◌∷◌, codes, Option, Some, None, Ok}
use Rattle.std.specs.List.{list_all}
use Rattle.std.specs.Option.{option_map, option_and_then}
use Rattle.gl_logic.specs.Object.{Object}
use Rattle.gl_logic.specs.Exp.{Exp}
use Rattle.gl_logic.specs.WorldSeen.{WorldSeen}
use Rattle.gl_logic.specs.Wording.{all_meant}
use Rattle.shape_spec.specs.BindingsMeant.{bindings_meant}
use Rattle.shape_spec.specs.declared.theorem.Mode.{Mode}
use Rattle.shape_spec.specs.ShapeSeen.{ShapeSeen}
use Rattle.gl_cases.specs.Parts.{CaseSeen, ParamSeen}
use Rattle.gl_cases.specs.ParamMade.{param_set}
use Rattle.event_world.specs.declared.fault.EventFault.TheVariants as code
use Rattle.event_world.specs.Outcomes.{Outcome, and_then, found_or, holds_or}
use Rattle.event_world.specs.EventSeen.{EventSeen, Cases}
use Rattle.event_world.specs.NamesMeant.{plain_name, is_taken}
use Rattle.event_world.specs.PartsOf.{two_in}
use Rattle.event_world.specs.KeywordTexts.{case_texts}
use Rattle.event_world.specs.Keywords.{pairs_of, value_of}
use Rattle.event_world.specs.TheoremMeant.{clocks_meant, claim_meant, hyp_meant}
use Rattle.event_world.specs.CasesMeant.{CaseParts, QuotedCases, parameters, cases_of, has_any, case_bound, claim_of}

-- the name, the forms, and all options
pub record CasesParts : Type 0 where
  pub name : ℕ
  pub hyp : Option Object
  pub concl : Object
  pub term : Object
  pub cases : Object
  pub cover : Object
  pub options : List (ℕ × Object)

abbrev pub with_forms : ℕ → Option Object → List (ℕ × Object) → Option Object → Option Object → Option Object → Option Object → Option CasesParts
with_forms n h options (Some c) (Some p) (Some q) (Some b) = Some (record { name = n; hyp = h; concl = c; term = p; cases = q; cover = b; options = options })
with_forms n h options _ _ _ _ = None

abbrev pub forms_in : List (List ℕ) → ℕ → List (ℕ × Object) → Option CasesParts
forms_in names n options =
    with_forms n (value_of names (codes ":HYP") options) options
    (value_of names (codes ":CONCL") options) (value_of names (codes ":PARAM-HYP") options) (value_of names (codes ":PARAM-BINDINGS") options) (value_of names (codes ":COV-BINDINGS") options)

abbrev pub named_forms : List (List ℕ) → Option ℕ → Option (List (ℕ × Object)) → Option CasesParts
named_forms names (Some n) (Some options) = forms_in names n options
named_forms names _ _ = None

abbrev pub cases_parts : List (List ℕ) → List Object → Option CasesParts
cases_parts names (n ∷ behind) = named_forms names (plain_name names n) (pairs_of names behind)
cases_parts names [] = None

abbrev pub has_any_in : List ℕ → Option Object → Bool
has_any_in vs (Some x) = has_any vs x
has_any_in vs None = false

-- none of them stands in the hypothesis, the conclusion and the bindings of the cover
abbrev pub is_without : List ℕ → CasesParts → Bool
is_without vs p = not (has_any_in vs p.hyp) && (not (has_any vs p.concl) && not (has_any vs p.cover))

-- nor in the bindings of the cases
abbrev pub are_without : List ℕ → List CaseParts → Bool
are_without vs cs = list_all (λ c. not (has_any vs c.bindings)) cs

-- the parameters stand in the term of the cases alone
abbrev pub is_kept : CasesParts → List CaseParts → Bool
is_kept p cs = is_without (parameters cs) p && are_without (parameters cs) cs

abbrev pub if_kept : CasesParts → QuotedCases → Option QuotedCases
if_kept p q = if is_kept p q.cases then Some q else None

abbrev pub quoted_cases : List (List ℕ) → CasesParts → Option QuotedCases
quoted_cases names p = option_and_then (if_kept p) (option_and_then (cases_of names) (two_in p.cases))

-- a theorem with these terms, where its bindings and those of its cases are some
abbrev pub parts_claimed : List (List ℕ) → CasesParts → QuotedCases → Exp → Exp → Exp → Outcome ParamSeen
parts_claimed names p q h c t =
    found_or code.BadBindings (bindings_meant names p.cover) (λ b.
    found_or code.BadBindings (all_meant (case_bound names q.mark) q.cases) (λ cs.
    claim_of p.name h c t b cs))

-- the bindings of the cover, and the cases with theirs, where all are some
abbrev pub parts_bound : List (List ℕ) → CasesParts → QuotedCases → Option (List (ℕ × ShapeSeen) × List CaseSeen)
parts_bound names p q = option_and_then (λ b. option_map (λ cs. (b, cs)) (all_meant (case_bound names q.mark) q.cases)) (bindings_meant names p.cover)

abbrev pub cases_claimed : List (List ℕ) → WorldSeen → CasesParts → QuotedCases → Outcome ParamSeen
cases_claimed names w p q =
    and_then (hyp_meant names w p.hyp) (λ h.
    and_then (claim_meant names w p.concl) (λ c.
    and_then (claim_meant names w p.term) (λ t.
    parts_claimed names p q h c t)))

-- ---- the checks in their order
abbrev pub param_by : List (List ℕ) → WorldSeen → Mode → List ℕ → List Object → Outcome EventSeen
param_by names w now memoized parts =
    found_or code.BadEvent (cases_parts names parts) (λ p.
    found_or code.BadOption (clocks_meant names case_texts p.options) (λ clocks.
    found_or code.BadCases (quoted_cases names p) (λ q.
    holds_or code.Redefined (not (is_taken names w p.name)) (
    and_then (cases_claimed names w p q) (λ thm.
    Ok (Cases (param_set clocks.0 clocks.1 now memoized thm)))))))
