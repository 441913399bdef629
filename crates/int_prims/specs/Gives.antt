-- An integer of the logic as an answer within 128 bits.
use Rattle.std.specs.Prelude.{◌≡◌, ℤ, Result, MatchResult}
use Rattle.gl_logic.specs.Width.{Fits}
use Rattle.int_prims.specs.declared.wide.Wide.{Wide}

-- the integer itself, or Wide exactly where it does not fit
abbrev pub Gives : ℤ → Result ℤ Wide → Type 0
Gives z answer = MatchResult answer (λ i. i ≡ z) (λ _. Fits z → ⊥)
