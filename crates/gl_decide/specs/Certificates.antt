-- Books that show a theorem.
use Rattle.std.specs.Prelude.{ℕ, List}
use Rattle.cnf_rup.specs.Books.{BookSeen}
use Rattle.cnf_rup.specs.Refutations.{IsRefutation}
use Rattle.gl_logic.specs.Object.{Object}
use Rattle.gl_logic.specs.WorldSeen.{WorldSeen}
use Rattle.gl_decide.specs.Bounds.{Bounds}
use Rattle.shape_spec.specs.TheoremSeen.{TheoremSeen}
use Rattle.gl_decide.specs.Verdicts.{IsCovered, Refutes}
use Rattle.gl_decide.specs.declared.verdict.Verdict.{Verdict}
use Rattle.gl_decide.specs.declared.verdict.Verdict.TheVariants.{Proved, Vacuous}

-- the bounds of a decision that tries no inputs
abbrev pub unscanned : Bounds → Bounds
unscanned bounds = record bounds { enum_bits = 0 }

-- the theorem is covered, the book refutes its first clauses, and nothing that meets the hypothesis makes the conclusion NIL
pub record IsCertificate (w : WorldSeen) (thm : TheoremSeen) (b : BookSeen) : Type 0 where
  pub covered : IsCovered thm
  pub refutation : IsRefutation b
  pub holds : (env : List (ℕ × Object)) → Refutes w thm env → ⊥

-- neither proved nor vacuous
abbrev pub IsOpen : Verdict → Type 0
IsOpen Proved = ⊥
IsOpen Vacuous = ⊥
IsOpen _ = Unit {0}
