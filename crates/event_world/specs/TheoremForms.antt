-- Theorems as the program takes their forms apart: first their parts, then the checks.
use Rattle.std.specs.Prelude.{ℕ, not, List, [], ◌∷◌, codes, Option, Some, None, Ok}
use Rattle.gl_logic.specs.Object.{Object}
use Rattle.gl_logic.specs.WorldSeen.{WorldSeen}
use Rattle.shape_spec.specs.declared.theorem.Mode.{Mode}
use Rattle.event_world.specs.declared.fault.EventFault.TheVariants as code
use Rattle.event_world.specs.Outcomes.{Outcome, and_then, found_or, holds_or}
use Rattle.event_world.specs.EventSeen.{EventSeen, Theorem}
use Rattle.event_world.specs.NamesMeant.{plain_name, is_taken}
use Rattle.event_world.specs.KeywordTexts.{option_texts}
use Rattle.event_world.specs.Keywords.{pairs_of, value_of}
use Rattle.event_world.specs.TheoremMeant.{clocks_meant, claim_meant, hyp_meant, bound_meant, theorem_made}

-- the name, the forms of the hypothesis, where there is one, of the conclusion and of the bindings, and all options
pub record TheoremParts : Type 0 where
  pub name : ℕ
  pub hyp : Option Object
  pub concl : Object
  pub bindings : Object
  pub options : List (ℕ × Object)

abbrev pub with_required : List (List ℕ) → ℕ → List (ℕ × Object) → Option Object → Option Object → Option TheoremParts
with_required names n options (Some c) (Some b) = Some (record { name = n; hyp = value_of names (codes ":HYP") options; concl = c; bindings = b; options = options })
with_required names n options _ _ = None

abbrev pub required_in : List (List ℕ) → ℕ → List (ℕ × Object) → Option TheoremParts
required_in names n options = with_required names n options (value_of names (codes ":CONCL") options) (value_of names (codes ":G-BINDINGS") options)

abbrev pub with_options : List (List ℕ) → Option ℕ → Option (List (ℕ × Object)) → Option TheoremParts
with_options names (Some n) (Some options) = required_in names n options
with_options names _ _ = None

abbrev pub theorem_parts : List (List ℕ) → List Object → Option TheoremParts
theorem_parts names (n ∷ behind) = with_options names (plain_name names n) (pairs_of names behind)
theorem_parts names [] = None

-- ---- the checks in their order
abbrev pub theorem_claimed : List (List ℕ) → WorldSeen → Mode → List ℕ → TheoremParts → ℕ × ℕ → Outcome EventSeen
theorem_claimed names w now memoized p clocks =
    and_then (hyp_meant names w p.hyp) (λ h.
    and_then (claim_meant names w p.concl) (λ c.
    and_then (bound_meant names p.bindings h c) (λ b.
    Ok (Theorem (theorem_made now memoized p.name clocks h c b)))))

abbrev pub theorem_by : List (List ℕ) → WorldSeen → Mode → List ℕ → List Object → Outcome EventSeen
theorem_by names w now memoized parts =
    found_or code.BadEvent (theorem_parts names parts) (λ p.
    found_or code.BadOption (clocks_meant names option_texts p.options) (λ clocks.
    holds_or code.Redefined (not (is_taken names w p.name)) (
    theorem_claimed names w now memoized p clocks)))
