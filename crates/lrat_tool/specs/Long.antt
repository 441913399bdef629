-- What the refusal of a text that is too long says of its bytes.
use Rattle.std.specs.Prelude.{◌≡◌, ◌<◌, List, ℕ, length, take, Option, IfSome}
use Rattle.lrat_tool.specs.Formulas.{last_line}
use Rattle.lrat_tool.specs.declared.read.TextEnd.{TextEnd}
use Rattle.lrat_tool.specs.declared.read.TextEnd.TheVariants.{Failed, TooLong, Memory}

-- the text has more bytes than the limit, and the first of the others stands on this line; the text is the shelf's where that is
-- told
abbrev pub IsLongText : ℕ → Option (List ℕ) → TextEnd → Type 0
IsLongText limit told (TooLong line) =
    (text : List ℕ) × IfSome told (λ bytes. text ≡ bytes) × (limit < length text) × (line ≡ last_line (take limit text))
IsLongText limit told Failed = Unit {0}
IsLongText limit told Memory = Unit {0}
