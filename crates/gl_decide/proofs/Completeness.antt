-- A covered theorem whose inputs all stay within the limits is decided.
use Rattle.std.proofs.Common.{◌≡◌, ◌∙◌, sym, Some, None}
use Rattle.gl_logic.specs.WorldSeen.{WorldSeen}
use Rattle.gl_decide.specs.Bounds.{Bounds}
use Rattle.gl_decide.specs.Completeness.{StaysWithin, IsDecided}
use Rattle.shape_spec.specs.TheoremSeen.{TheoremSeen}
use Rattle.gl_decide.specs.Verdicts.{IsCovered, IsProperVerdict}
use Rattle.gl_decide.specs.declared.verdict.Verdict.{Verdict}
use Rattle.gl_decide.specs.declared.verdict.Verdict.TheVariants.{Proved, Vacuous, Refuted, Uncovered, Clock, Width, Steps, Cells, Nodes, Clauses, Memory}

pub decided : (w : WorldSeen) (bounds : Bounds) (thm : TheoremSeen) (v : Verdict) → IsCovered thm → StaysWithin w bounds thm → IsProperVerdict w bounds thm v → IsDecided bounds thm v
decided w bounds thm Proved c s p = tt
decided w bounds thm Vacuous c s p = tt
decided w bounds thm (Refuted env) c s p = tt
decided w bounds thm (Uncovered v) c s p = let e : None ≡ Some v.number = sym c ∙ p in absurd cc
decided w bounds thm (Clock part env) c s p = absurd (s.clock part env p.1 p.2)
decided w bounds thm (Width part env) c s p = absurd (s.width part env p.1 p.2)
decided w bounds thm (Steps part env) c s p = absurd (s.steps part env p.1 p.2)
decided w bounds thm (Cells part env) c s p = absurd (s.cells part env p.1 p.2)
decided w bounds thm (Nodes stall) c s p = p.1
decided w bounds thm (Clauses stall) c s p = p.2
decided w bounds thm Memory c s p = tt
