-- What is known of a text that is too long.
use Rattle.std.proofs.Common.{◌≡◌, ◌∙◌, ap, refl, ℕ, ◌<◌, List, length, take, arith, Option, Some, None}
use Rattle.std.specs.Prelude.{IfSome}
use Rattle.std.proofs.lemmas.List.{length-take}
use Rattle.gl_base.specs.Outside.{Takes}
use Rattle.lrat_tool.specs.Formulas.{last_line}
use Rattle.lrat_tool.proofs.Texts.{take_of_taken}

pub too_long : (limit line : ℕ) (told left : Option (List ℕ)) (bytes : List ℕ) → Takes told left bytes → limit < length bytes → line ≡ last_line (take limit bytes)
    → (text : List ℕ) × IfSome told (λ b. text ≡ b) × (limit < length text) × (line ≡ last_line (take limit text))
too_long limit line None left bytes t long is = (bytes, tt, long, is)
too_long limit line (Some b) left bytes t long is = (
  b,
  refl,
  omega (arith, long, ap (λ (l : List ℕ). length l) t.1, length-take (length bytes) b),
  is ∙ ap last_line (ap (take limit) t.1 ∙ take_of_taken limit (length bytes) b (omega (arith, long))),
)
