-- Edges in an array.
use Rattle.std.proofs.Common.{◌≡◌, ℕ, ◌+◌, ◌<◌, ◌≤◌, Bool, true, eqb, List, [], ◌∷◌, ◌++◌, length, take, set, get_or, refl, sym, ◌∙◌, ap, arith}
use Rattle.std.proofs.lemmas.List.{take_more_set, take-take, get_or-take, get_or_default}
use Rattle.bfr_store.specs.declared.edge.Edge.{Edge}

number_same : (m n : ℕ) → true ≡ eqb m n → m ≡ n
number_same m n h = grind (arith, h)

-- edges of one number
pub edge_same : (e f : Edge) → true ≡ eqb e.number f.number → e ≡ f
edge_same e f h = let n = number_same e.number f.number h in λ i. record { number = n i }

-- the first n elements, and one that was written behind them
pub written : (edges : List Edge) (n len : ℕ) (e : Edge) → n ≤ len → len < length edges → take (n + 1) (set edges n e) ≡ take n (take len edges) ++ e ∷ []
written edges n len e h l = take_more_set edges n e (omega (arith, h, l)) ∙ ap (λ es. es ++ e ∷ []) (sym (take-take n len edges h))

-- an element of the first ones
pub element_of : (edges : List Edge) (n len : ℕ) (d f : Edge) → n < len → len < length edges → get_or (take len edges) n d ≡ get_or edges n f
element_of edges n len d f h l = get_or-take len edges n d h ∙ get_or_default edges n d f (omega (arith, h, l))
