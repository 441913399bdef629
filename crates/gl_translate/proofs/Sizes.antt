-- The size of a step's own part.
use Rattle.std.proofs.Common.{ℕ, ◌+◌}
use Rattle.gl_logic.specs.Lists.{size_of}
use Rattle.gl_translate.specs.declared.form.Step.{Step}
use Rattle.gl_translate.specs.declared.form.Step.TheVariants as step

-- where a step is a form's own part, one more than its size
abbrev pub size_in : Step → ℕ
size_in (step.Same x) = size_of x.now + 1
size_in _ = 0
