-- What measures count.
use Rattle.std.specs.Prelude.{ℕ, suc, ◌+◌, List, Option, Some, None, ◌-ℤ◌, unsigned_abs}
use Rattle.gl_logic.specs.Object.{Object, Int, Character, Symbol, Text, Cons}
use Rattle.gl_logic.specs.PrimValue.{integer_in, natural_in}
use Rattle.gl_logic.specs.Environment.{look}
use Rattle.gl_logic.specs.Definition.{MeasureParts, One, Two, measure_parts}
use Rattle.gl_logic.specs.declared.def.Natural.{Natural}
use Rattle.gl_logic.specs.declared.def.Natural.TheVariants as natural
use Rattle.gl_logic.specs.declared.def.Measure.{Measure}

-- `acl2-count`, where `text_length` says how long the text of a number is. It stands in measures alone
abbrev pub acl2_count : (ℕ → ℕ) → Object → ℕ
acl2_count text_length (Cons a d) = suc (acl2_count text_length a + acl2_count text_length d)
acl2_count text_length (Int i) = unsigned_abs i
acl2_count text_length (Text n) = text_length n
acl2_count text_length (Character n) = 0
acl2_count text_length (Symbol n) = 0

-- `len`
abbrev pub list_count : Object → ℕ
list_count (Cons a d) = suc (list_count d)
list_count _ = 0

abbrev pub natural_size : (ℕ → ℕ) → Natural → List (ℕ × Object) → ℕ
natural_size text_length (natural.Count v) env = acl2_count text_length (look env v.number)
natural_size text_length (natural.Len v) env = list_count (look env v.number)
natural_size text_length (natural.Nat v) env = natural_in (look env v.number)
natural_size text_length (natural.Gap a b) env = natural_in (Int (integer_in (look env b.number) -ℤ integer_in (look env a.number)))

-- as two natural numbers of which the first decides
abbrev pub parts_size : (ℕ → ℕ) → MeasureParts → List (ℕ × Object) → ℕ × ℕ
parts_size text_length (One m) env = (0, natural_size text_length m env)
parts_size text_length (Two m k) env = (natural_size text_length m env, natural_size text_length k env)

abbrev pub measure_size : (ℕ → ℕ) → Option Measure → List (ℕ × Object) → ℕ × ℕ
measure_size text_length None env = (0, 0)
measure_size text_length (Some m) env = parts_size text_length (measure_parts m) env
