-- When the answer to a theorem by cases is proper.
use Rattle.std.specs.Prelude.{◌≡◌, ℕ, ◌-◌, List, [], ◌∷◌, map, get_or}
use Rattle.gl_logic.specs.Object.{Object}
use Rattle.gl_logic.specs.WorldSeen.{WorldSeen}
use Rattle.shape_spec.specs.TheoremSeen.{TheoremSeen}
use Rattle.gl_cases.specs.Parts.{ParamSeen}
use Rattle.gl_cases.specs.Settles.{settled_by}
use Rattle.gl_cases.specs.ProperCases.{IsProperCases}
use Rattle.gl_cases.specs.declared.outcome.Outcome.{Outcome}
use Rattle.gl_cases.specs.declared.outcome.Outcome.TheVariants as outcome
use Rattle.gl_cases.specs.declared.settling.Settled.{Settled}
use Rattle.gl_cases.specs.declared.settling.Settled.TheVariants as settled
use Rattle.gl_decide.specs.Bounds.{Bounds}
use Rattle.gl_decide.specs.Verdicts.{IsProperVerdict}
use Rattle.gl_decide.specs.declared.verdict.Verdict.{Verdict}
use Rattle.gl_decide.specs.declared.verdict.Verdict.TheVariants as verdict
use Rattle.gl_book.specs.declared.cases.CasesVerdict.{CasesVerdict}
use Rattle.gl_book.specs.declared.cases.CasesVerdict.TheVariants as whole

-- ---- parts
-- what a part's verdict comes to
abbrev pub outcome_of : Verdict → Outcome
outcome_of verdict.Proved = outcome.Proved
outcome_of verdict.Vacuous = outcome.Vacuous
outcome_of (verdict.Refuted env) = outcome.Refuted
outcome_of _ = outcome.Open

abbrev pub outcomes_of : List Verdict → List Outcome
outcomes_of cases = map outcome_of cases

-- the input of a verdict that refutes
abbrev pub input_of : Verdict → List (ℕ × Object)
input_of (verdict.Refuted env) = env
input_of _ = []

-- a verdict for each theorem, in order, each proper by the limits of the run
abbrev pub AreProperVerdicts : Bounds → WorldSeen → List TheoremSeen → List Verdict → Type 0
AreProperVerdicts bounds w [] [] = Unit {0}
AreProperVerdicts bounds w (thm ∷ thms) (v ∷ vs) = IsProperVerdict w bounds thm v × AreProperVerdicts bounds w thms vs
AreProperVerdicts bounds w _ _ = ⊥

-- ---- the whole
abbrev pub settled_of : Verdict → List Verdict → Settled
settled_of cover cases = settled_by (outcome_of cover) (outcomes_of cases)

-- the verdict of the case with this number, from 1
abbrev pub case_at : List Verdict → ℕ → Verdict
case_at cases i = get_or cases (i - 1) verdict.Memory

-- what is told of the parts: the input of the part that refutes, or the verdict of the part that is left undecided
abbrev pub verdict_from : Settled → Verdict → List Verdict → CasesVerdict
verdict_from settled.Proved cover cases = whole.Proved
verdict_from settled.Vacuous cover cases = whole.Vacuous
verdict_from (settled.Refuted i) cover cases = whole.Refuted (input_of (case_at cases i))
verdict_from settled.Uncased cover cases = whole.Uncased (input_of cover)
verdict_from settled.Cover cover cases = whole.Cover cover
verdict_from (settled.Case i) cover cases = whole.Case i (case_at cases i)

-- the input that is told
abbrev pub input_told : CasesVerdict → List (ℕ × Object)
input_told (whole.Refuted env) = env
input_told (whole.Uncased env) = env
input_told _ = []

-- each part has a proper verdict, and the answer is what they come to. So what it claims holds: it is proved where the conclusion
-- holds wherever the hypothesis does and something meets that, vacuous where nothing meets it, and so on
pub record IsDecidedByCases (bounds : Bounds) (w : WorldSeen) (thm : ParamSeen) (v : CasesVerdict) : Type 0 where
  pub cover : Verdict
  pub cases : List Verdict
  pub covered : IsProperVerdict w bounds thm.cover cover
  pub each : AreProperVerdicts bounds w thm.cases cases
  pub comes : v ≡ verdict_from (settled_of cover cases) cover cases
  pub proper : IsProperCases w.definitions thm (settled_of cover cases) (input_told v)
