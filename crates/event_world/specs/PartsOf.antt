-- The elements of proper lists of so many.
use Rattle.std.specs.Prelude.{Bool, true, false, List, [], ◌∷◌, Option, Some, None}
use Rattle.std.specs.Option.{option_map, option_and_then}
use Rattle.gl_logic.specs.Object.{Object}
use Rattle.gl_logic.specs.Wording.{elements}

abbrev pub one_of : List Object → Option Object
one_of (a ∷ []) = Some a
one_of _ = None

abbrev pub two_of : List Object → Option (Object × Object)
two_of (a ∷ b ∷ []) = Some (a, b)
two_of _ = None

abbrev pub three_of : List Object → Option (Object × Object × Object)
three_of (a ∷ b ∷ c ∷ []) = Some (a, b, c)
three_of _ = None

abbrev pub four_of : List Object → Option (Object × Object × Object × Object)
four_of (a ∷ b ∷ c ∷ d ∷ []) = Some (a, b, c, d)
four_of _ = None

abbrev pub one_in : Object → Option Object
one_in x = option_and_then one_of (elements x)

abbrev pub two_in : Object → Option (Object × Object)
two_in x = option_and_then two_of (elements x)

abbrev pub three_in : Object → Option (Object × Object × Object)
three_in x = option_and_then three_of (elements x)

abbrev pub four_in : Object → Option (Object × Object × Object × Object)
four_in x = option_and_then four_of (elements x)

-- ---- of any count
abbrev pub is_empty : {A : Type 0} → List A → Bool
is_empty [] = true
is_empty (x ∷ xs) = false

-- the last, and what stands before it
abbrev pub split_last : List Object → Option (List Object × Object)
split_last [] = None
split_last (x ∷ []) = Some ([], x)
split_last (x ∷ y ∷ ys) = option_map (λ p. (x ∷ p.0, p.1)) (split_last (y ∷ ys))
