-- What a text's fault says.
use Rattle.std.specs.Prelude.{ℕ}
use Rattle.lrat_tool.specs.declared.bad_text.BadText.{BadText}
use Rattle.lrat_tool.specs.declared.bad_text.BadText.TheVariants.{At, Memory}

-- what is said of the line, where the fault is one of form
abbrev pub IfAt : (ℕ → Type 0) → BadText → Type 0
IfAt said (At n) = said n
IfAt said Memory = Unit {0}
