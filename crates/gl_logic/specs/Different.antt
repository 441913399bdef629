-- Each element of a list once.
use Rattle.std.specs.Prelude.{Bool, cond, List, [], ◌∷◌}
use Rattle.std.specs.List.{list_any}

-- an element before the others, unless it is among them
abbrev pub added : {A : Type 0} → (A → A → Bool) → A → List A → List A
added same x xs = cond (list_any (same x) xs) xs (x ∷ xs)

abbrev pub different : {A : Type 0} → (A → A → Bool) → List A → List A
different same [] = []
different same (x ∷ xs) = added same x (different same xs)
