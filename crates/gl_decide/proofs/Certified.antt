-- What a verdict says of an input that refutes.
use Rattle.std.proofs.Common.{ℕ, List}
use Rattle.gl_logic.specs.Object.{Object}
use Rattle.gl_logic.specs.WorldSeen.{WorldSeen}
use Rattle.gl_decide.specs.Bounds.{Bounds}
use Rattle.shape_spec.specs.TheoremSeen.{TheoremSeen}
use Rattle.gl_decide.specs.Verdicts.{IsProperVerdict, Refutes}
use Rattle.gl_decide.specs.declared.verdict.Verdict.TheVariants.{Proved, Vacuous}
use Rattle.gl_decide.proofs.Ranges.{met_passes}

pub proved_holds : (w : WorldSeen) (bounds : Bounds) (thm : TheoremSeen) → IsProperVerdict w bounds thm Proved → (env : List (ℕ × Object)) → Refutes w thm env → ⊥
proved_holds w bounds thm p env r = met_passes w thm env (p.1 env r.0) r

pub vacuous_holds : (w : WorldSeen) (bounds : Bounds) (thm : TheoremSeen) → IsProperVerdict w bounds thm Vacuous → (env : List (ℕ × Object)) → Refutes w thm env → ⊥
vacuous_holds w bounds thm p env r = p.1 env r.0
