-- What stands before the body of a definition.
use Rattle.std.specs.Prelude.{ℕ, Bool, true, false, ◌||◌, ◌++◌, List, [], ◌∷◌, codes, if◌then◌else◌, Option, Some, None}
use Rattle.std.specs.Option.{option_map, option_and_then}
use Rattle.gl_logic.specs.Object.{Object, Text, Cons}
use Rattle.gl_logic.specs.declared.def.Measure.{Measure}
use Rattle.gl_logic.specs.Wording.{spells, elements, both}
use Rattle.event_world.specs.Keywords.{pairs_of, value_of, are_options}
use Rattle.event_world.specs.KeywordTexts.{xargs_texts}
use Rattle.event_world.specs.MeasureMeant.{measure_meant}

abbrev pub is_text : Object → Bool
is_text (Text t) = true
is_text _ = false

-- (declare ..)
abbrev pub is_declare : List (List ℕ) → Object → Bool
is_declare names (Cons k rest) = spells names (codes "DECLARE") k
is_declare names _ = false

-- ---- the keywords of `xargs`, each with its value, all in their order; none where a `declare` is not one of these
abbrev pub is_ignored : List (List ℕ) → Object → Bool
is_ignored names k = spells names (codes "IGNORE") k || (spells names (codes "IGNORABLE") k || (spells names (codes "TYPE") k || spells names (codes "OPTIMIZE") k))

-- of one form in a `declare`, by its elements
abbrev pub declared_pairs : List (List ℕ) → Option (List Object) → Option (List (ℕ × Object))
declared_pairs names (Some (k ∷ rest)) =
    if is_ignored names k then Some []
    else if spells names (codes "XARGS") k then pairs_of names rest
    else None
declared_pairs names _ = None

abbrev pub all_pairs : (Object → Option (List (ℕ × Object))) → List Object → Option (List (ℕ × Object))
all_pairs f [] = Some []
all_pairs f (x ∷ xs) = both (λ ps qs. ps ++ qs) (f x) (all_pairs f xs)

-- of one form before the body: a string, or (declare ..)
abbrev pub pairs_before : List (List ℕ) → Object → Option (List (ℕ × Object))
pairs_before names (Cons k rest) = option_and_then (all_pairs (λ d. declared_pairs names (elements d))) (elements rest)
pairs_before names _ = Some []

abbrev pub xargs_of : List (List ℕ) → List Object → Option (List (ℕ × Object))
xargs_of names before = all_pairs (pairs_before names) before

-- ---- the measure that is stated, if one is; none where V11
abbrev pub stated_of : List (List ℕ) → List Object → Option Object → Option (Option Measure)
stated_of names formals None = Some None
stated_of names formals (Some x) = option_map Some (measure_meant names formals x)

abbrev pub stated_in : List (List ℕ) → List Object → List (ℕ × Object) → Option (Option Measure)
stated_in names formals pairs = if are_options names xargs_texts pairs then stated_of names formals (value_of names (codes ":MEASURE") pairs) else None

abbrev pub stated_measure : List (List ℕ) → List Object → List Object → Option (Option Measure)
stated_measure names formals before = option_and_then (stated_in names formals) (xargs_of names before)
