-- Lists of bits with no sign twice.
use Rattle.std.specs.Prelude.{◌≢◌, if◌then◌else◌, eqb, List, [], ◌∷◌}
use Rattle.bfr_store.specs.declared.edge.Edge.{Edge}

-- the bit in front of the others, unless there is but one and the two are equal
abbrev pub put_bit : Edge → List Edge → List Edge
put_bit e (f ∷ []) = if eqb e.number f.number then f ∷ [] else (e ∷ f ∷ [])
put_bit e es = e ∷ es

-- the bits without those before the last that only repeat it
abbrev pub trimmed : List Edge → List Edge
trimmed [] = []
trimmed (e ∷ es) = put_bit e (trimmed es)

-- the last bit differs from the one before it
abbrev pub IsTrimmed : List Edge → Type 0
IsTrimmed [] = Unit {0}
IsTrimmed (e ∷ []) = Unit {0}
IsTrimmed (e ∷ f ∷ []) = e ≢ f
IsTrimmed (e ∷ f ∷ g ∷ es) = IsTrimmed (f ∷ g ∷ es)
