-- A theorem by cases of its terms is one of its bound parts.
use Rattle.std.proofs.Common.{◌≡◌, refl, ℕ, List, Option, Some, None}
use Rattle.std.specs.Option.{option_map, option_and_then}
use Rattle.gl_logic.specs.Exp.{Exp}
use Rattle.shape_spec.specs.BindingsMeant.{bindings_meant}
use Rattle.gl_logic.specs.Wording.{all_meant}
use Rattle.event_world.specs.declared.fault.EventFault.{EventFault}
use Rattle.event_world.specs.declared.fault.EventFault.TheVariants as code
use Rattle.event_world.specs.Outcomes.{Outcome, found_or}
use Rattle.event_world.specs.CasesForms.{CasesParts, parts_bound, parts_claimed}
use Rattle.event_world.specs.CasesMeant.{QuotedCases, case_bound, claim_of}

both_or : {A B C : Type 0} → (c : EventFault) → (x : Option A) → (y : Option B) → (next : A → B → Outcome C) → found_or c x (λ a. found_or c y (λ b. next a b)) ≡ found_or {A = A × B} c (option_and_then (λ a. option_map (λ b. (a, b)) y) x) (λ p. next p.0 p.1)
both_or c (Some a) (Some b) next = refl
both_or c (Some a) None next = refl
both_or c None y next = refl

pub claimed_by_parts : (names : List (List ℕ)) (p : CasesParts) (q : QuotedCases) (h c t : Exp) → parts_claimed names p q h c t ≡ found_or code.BadBindings (parts_bound names p q) (λ bs. claim_of p.name h c t bs.0 bs.1)
claimed_by_parts names p q h c t = both_or code.BadBindings (bindings_meant names p.cover) (all_meant (case_bound names q.mark) q.cases) (claim_of p.name h c t)
