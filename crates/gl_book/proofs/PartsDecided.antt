-- What the verdicts on the parts of a theorem by cases say of the whole.
use Rattle.std.proofs.Common.{◌≡◌, ◌∙◌, sym, ap, refl, subst, ℕ, ◌+◌, ◌-◌, ◌^◌, ◌<◌, ◌≤◌, List, [], ◌∷◌, ◌++◌, length, take, map, Bool, true, false, cond, Option, Some, None, slice_get, arith}
use Rattle.std.specs.List.{position_from}
use Rattle.std.proofs.Math.ListN.{get_or-map}
use Rattle.std.proofs.lemmas.List.{length-map, take_all}
use Rattle.gl_logic.specs.WorldSeen.{WorldSeen}
use Rattle.shape_spec.specs.TheoremSeen.{TheoremSeen}
use Rattle.gl_cases.specs.Parts.{ParamSeen, IsByCases}
use Rattle.gl_cases.specs.Settles.{is_open, is_refuted, refuted_or, settled_by}
use Rattle.gl_cases.specs.ProperCases.{IsProperOutcome, AreProperOutcomes, IsProperCases, input_shown}
use Rattle.gl_cases.specs.declared.outcome.Outcome.{Outcome}
use Rattle.gl_cases.specs.declared.outcome.Outcome.TheVariants as outcome
use Rattle.gl_cases.specs.declared.settling.Settled.{Settled}
use Rattle.gl_cases.specs.declared.settling.Settled.TheVariants as settled
use Rattle.gl_cases.proofs.ProperParts.{settled_proper}
use Rattle.gl_decide.specs.Bounds.{Bounds}
use Rattle.gl_decide.specs.Verdicts.{IsProperVerdict}
use Rattle.gl_decide.specs.declared.verdict.Verdict.{Verdict}
use Rattle.gl_decide.specs.declared.verdict.Verdict.TheVariants as verdict
use Rattle.gl_book.specs.Cases.{outcome_of, outcomes_of, input_of, settled_of, verdict_from, input_told, AreProperVerdicts, IsDecidedByCases}
use Rattle.gl_book.specs.declared.cases.CasesVerdict.{CasesVerdict}
use Rattle.gl_book.specs.declared.cases.CasesVerdict.TheVariants as whole
use Rattle.gl_book.proofs.Phases.{take_next}

-- ---- numbers of cases
module _ (is : Outcome → Bool) where
  position_within : (first i : ℕ) (os : List Outcome) → position_from is first os ≡ Some i → (first ≤ i) × (i < first + length os)
  position_within first i [] e = absurd cc
  position_within first i (o ∷ os) e = elim (is o) as (λ b. cond b (Some first) (position_from is (first + 1) os) ≡ Some i → (first ≤ i) × (i < first + length (o ∷ os))) [
    | true ↦ λ h. let z : first ≡ i = cc in (omega (arith, z), omega (arith, z))
    | false ↦ λ h. let z = position_within (first + 1) i os h in (omega (arith, z.0), omega (arith, z.1))
  ] e

refuted_place : (r o : Option ℕ) (i : ℕ) → refuted_or r o ≡ settled.Refuted i → r ≡ Some i
refuted_place (Some k) o i e = let z : k ≡ i = cc in ap Some z
refuted_place None (Some k) i e = absurd cc
refuted_place None None i e = absurd cc

open_place : (r o : Option ℕ) (i : ℕ) → refuted_or r o ≡ settled.Case i → o ≡ Some i
open_place (Some k) o i e = absurd cc
open_place None (Some k) i e = let z : k ≡ i = cc in ap Some z
open_place None None i e = absurd cc

pub refuted_number : (o : Outcome) (vs : List Verdict) (i : ℕ) → settled_by o (outcomes_of vs) ≡ settled.Refuted i → (1 ≤ i) × (i ≤ length vs)
refuted_number outcome.Proved vs i e =
    let z = position_within is_refuted 1 i (outcomes_of vs) (refuted_place (position_from is_refuted 1 (outcomes_of vs)) (position_from is_open 1 (outcomes_of vs)) i e) in
    (z.0, omega (arith, z.1, length-map vs outcome_of))
refuted_number outcome.Vacuous vs i e = absurd cc
refuted_number outcome.Refuted vs i e = absurd cc
refuted_number outcome.Open vs i e = absurd cc

pub open_number : (o : Outcome) (vs : List Verdict) (i : ℕ) → settled_by o (outcomes_of vs) ≡ settled.Case i → (1 ≤ i) × (i ≤ length vs)
open_number outcome.Proved vs i e =
    let z = position_within is_open 1 i (outcomes_of vs) (open_place (position_from is_refuted 1 (outcomes_of vs)) (position_from is_open 1 (outcomes_of vs)) i e) in
    (z.0, omega (arith, z.1, length-map vs outcome_of))
open_number outcome.Vacuous vs i e = absurd cc
open_number outcome.Refuted vs i e = absurd cc
open_number outcome.Open vs i e = absurd cc

-- the same, as `settle` tells it
module _ (o : Outcome) (os : List Outcome) (vs : List Verdict) (are : os ≡ outcomes_of vs) (i : ℕ) where
  pub refuted_within : settled.Refuted i ≡ settled_by o os → (1 ≤ i) × (i ≤ length vs)
  refuted_within e = refuted_number o vs i (ap (settled_by o) (sym are) ∙ sym e)

  pub open_within : settled.Case i ≡ settled_by o os → (1 ≤ i) × (i ≤ length vs)
  open_within e = open_number o vs i (ap (settled_by o) (sym are) ∙ sym e)

-- ---- the whole
module _ (bounds : Bounds) (w : WorldSeen) where
  proper_outcome : (thm : TheoremSeen) (v : Verdict) → IsProperVerdict w bounds thm v → IsProperOutcome w.definitions thm (outcome_of v) (input_of v)
  proper_outcome thm verdict.Proved h = (h.1, (h.2.0, h.2.1.1))
  proper_outcome thm verdict.Vacuous h = h.1
  proper_outcome thm (verdict.Refuted env) h = (h.1.1, h.2)
  proper_outcome thm (verdict.Uncovered v) h = tt
  proper_outcome thm (verdict.Clock p env) h = tt
  proper_outcome thm (verdict.Width p env) h = tt
  proper_outcome thm (verdict.Steps p env) h = tt
  proper_outcome thm (verdict.Cells p env) h = tt
  proper_outcome thm (verdict.Nodes s) h = tt
  proper_outcome thm (verdict.Clauses s) h = tt
  proper_outcome thm verdict.Memory h = tt

  proper_outcomes : (thms : List TheoremSeen) (vs : List Verdict) → AreProperVerdicts bounds w thms vs → AreProperOutcomes w.definitions thms (outcomes_of vs) (map input_of vs)
  proper_outcomes [] [] h = tt
  proper_outcomes (thm ∷ thms) (v ∷ vs) h = (proper_outcome thm v h.0, proper_outcomes thms vs h.1)
  proper_outcomes [] (v ∷ vs) h = absurd h
  proper_outcomes (thm ∷ thms) [] h = absurd h

  -- the input that is told is that of the part
  told_input : (s : Settled) (cover : Verdict) (cases : List Verdict) → input_shown (input_of cover) (map input_of cases) s ≡ input_told (verdict_from s cover cases)
  told_input settled.Proved cover cases = refl
  told_input settled.Vacuous cover cases = refl
  told_input (settled.Refuted i) cover cases = get_or-map input_of cases (i - 1) verdict.Memory
  told_input settled.Uncased cover cases = refl
  told_input settled.Cover cover cases = refl
  told_input (settled.Case i) cover cases = refl

  pub parts_decide : (thm : ParamSeen) (cover : Verdict) (cases : List Verdict) → IsByCases thm → IsProperVerdict w bounds thm.cover cover → AreProperVerdicts bounds w thm.cases cases
      → IsDecidedByCases bounds w thm (verdict_from (settled_of cover cases) cover cases)
  parts_decide thm cover cases parts covered each =
      let s = settled_of cover cases in
      record {
        cover = cover;
        cases = cases;
        covered = covered;
        each = each;
        comes = refl;
        proper = subst (IsProperCases w.definitions thm s) (told_input s cover cases)
            (settled_proper (outcome_of cover) (outcomes_of cases) s refl w.definitions thm (input_of cover) (map input_of cases) parts (proper_outcome thm.cover cover covered) (proper_outcomes thm.cases cases each));
      }

  -- ---- parts of which nothing is claimed
  all_memory : (thms : List TheoremSeen) → AreProperVerdicts bounds w thms (map (λ thm. verdict.Memory) thms)
  all_memory [] = tt
  all_memory (thm ∷ thms) = (tt, all_memory thms)

  pub memory_decides : (thm : ParamSeen) → IsByCases thm → IsDecidedByCases bounds w thm (whole.Cover verdict.Memory)
  memory_decides thm parts = parts_decide thm verdict.Memory (map (λ c. verdict.Memory) thm.cases) parts tt (all_memory thm.cases)

  -- ---- one verdict more
  verdicts_push : (thms : List TheoremSeen) (vs : List Verdict) (thm : TheoremSeen) (v : Verdict) → AreProperVerdicts bounds w thms vs → IsProperVerdict w bounds thm v → AreProperVerdicts bounds w (thms ++ thm ∷ []) (vs ++ v ∷ [])
  verdicts_push [] [] thm v h k = (k, tt)
  verdicts_push (t ∷ thms) (u ∷ vs) thm v h k = (h.0, verdicts_push thms vs thm v h.1 k)
  verdicts_push [] (u ∷ vs) thm v h k = absurd h
  verdicts_push (t ∷ thms) [] thm v h k = absurd h

  pub verdicts_next : (thms : List TheoremSeen) (i : ℕ) (vs : List Verdict) (thm : TheoremSeen) (v : Verdict) → slice_get thms i ≡ Some thm → AreProperVerdicts bounds w (take i thms) vs → IsProperVerdict w bounds thm v
      → AreProperVerdicts bounds w (take (i + 1) thms) (vs ++ v ∷ [])
  verdicts_next thms i vs thm v at h k = subst (λ ts. AreProperVerdicts bounds w ts (vs ++ v ∷ [])) (sym (take_next thms i thm at)) (verdicts_push (take i thms) vs thm v h k)

  pub as_many_verdicts : (thms : List TheoremSeen) (vs : List Verdict) → AreProperVerdicts bounds w thms vs → length vs ≡ length thms
  as_many_verdicts [] [] h = refl
  as_many_verdicts (thm ∷ thms) (v ∷ vs) h = let z = as_many_verdicts thms vs h.1 in omega (arith, z)
  as_many_verdicts [] (v ∷ vs) h = absurd h
  as_many_verdicts (thm ∷ thms) [] h = absurd h

  pub few_verdicts : (thms : List TheoremSeen) (vs : List Verdict) → length thms ≤ 64 → AreProperVerdicts bounds w thms vs → length vs + 1 < 2 ^ 32
  few_verdicts thms vs few h = let n = as_many_verdicts thms vs h in omega (arith, n, few)

  -- the last one
  pub verdicts_all : (thms : List TheoremSeen) (i : ℕ) (vs : List Verdict) → length thms ≤ i → AreProperVerdicts bounds w (take i thms) vs → AreProperVerdicts bounds w thms vs
  verdicts_all thms i vs past each = subst (λ (ts : List TheoremSeen). AreProperVerdicts bounds w ts vs) (take_all i thms past) each

  pub all_decide : (thm : ParamSeen) (cover : Verdict) (cases : List Verdict) (v : CasesVerdict) → IsByCases thm → IsProperVerdict w bounds thm.cover cover → AreProperVerdicts bounds w thm.cases cases → v ≡ verdict_from (settled_of cover cases) cover cases
      → IsDecidedByCases bounds w thm v
  all_decide thm cover cases v parts covered each comes = subst (IsDecidedByCases bounds w thm) (sym comes) (parts_decide thm cover cases parts covered each)
