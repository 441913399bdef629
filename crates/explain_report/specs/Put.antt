-- Why a write ended.
use Rattle.std.specs.Prelude.{◌≡◌, ◌≤◌, ℕ, Result, MatchResult}
use Rattle.gl_base.specs.Outside.{Rose}
use Rattle.explain_report.specs.declared.shown.PutEnd.{PutEnd}
use Rattle.explain_report.specs.declared.shown.PutEnd.TheVariants as end

-- a call of the sink failed, or memory was refused and none did
abbrev pub EndsPut : ℕ → ℕ → PutEnd → Type 0
EndsPut before now end.Failed = (before ≤ now) × Rose before now
EndsPut before now end.Memory = now ≡ before

-- the count of the calls that failed rose where one of them stopped the write, and nowhere else
abbrev pub IsPut : {T : Type 0} → ℕ → ℕ → Result T PutEnd → Type 0
IsPut before now result = MatchResult result (λ _. now ≡ before) (EndsPut before now)
