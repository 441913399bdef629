-- What a hint says.
use Rattle.std.specs.Prelude.{ℕ, ℤ, pos, negsuc, min, nat_lt, Bool, true, false, if◌then◌else◌}
use Rattle.lrat_tool.specs.declared.number.Hint.{Hint}
use Rattle.lrat_tool.specs.declared.number.Hint.TheVariants.{Below, Number}

-- numbers that are greater than each id are not told apart
abbrev pub hint_of : ℤ → Hint
hint_of (pos n) = Number (min n 4294967296)
hint_of (negsuc n) = Below

abbrev pub is_below : Hint → Bool
is_below Below = true
is_below (Number n) = false

-- what is held of a hint: its number, or 0, which names no clause, where it is below 0 or greater than each id
abbrev pub held_hint : Hint → ℕ
held_hint (Number n) = if nat_lt n 4294967296 then n else 0
held_hint Below = 0

abbrev pub held_of : ℤ → ℕ
held_of z = held_hint (hint_of z)
