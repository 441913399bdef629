-- When two verdicts on one theorem agree.
use Rattle.std.specs.Prelude.{◌≡◌}
use Rattle.gl_decide.specs.declared.verdict.Verdict.{Verdict}
use Rattle.gl_decide.specs.declared.verdict.Verdict.TheVariants.{Proved, Vacuous, Refuted, Uncovered}

-- where both are decided, or name an uncovered variable, they are of one kind, and name one variable; of the other verdicts nothing is said
abbrev pub Agree : Verdict → Verdict → Type 0
Agree Proved Vacuous = ⊥
Agree Proved (Refuted env) = ⊥
Agree Proved (Uncovered v) = ⊥
Agree Vacuous Proved = ⊥
Agree Vacuous (Refuted env) = ⊥
Agree Vacuous (Uncovered v) = ⊥
Agree (Refuted env) Proved = ⊥
Agree (Refuted env) Vacuous = ⊥
Agree (Refuted env) (Uncovered v) = ⊥
Agree (Uncovered v) Proved = ⊥
Agree (Uncovered v) Vacuous = ⊥
Agree (Uncovered v) (Refuted env) = ⊥
Agree (Uncovered v) (Uncovered w) = v.number ≡ w.number
Agree _ _ = Unit {0}
