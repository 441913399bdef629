-- An object as its elements, from the last to the first, and its tail.
use Rattle.std.specs.Prelude.{ℕ, ◌+◌, ◌≤◌, List, [], ◌∷◌, ◌++◌}
use Rattle.std.proofs.Common.{arith}
use Rattle.gl_logic.specs.Object.{Object, Cons}
use denote.Param.Weighed.{most}

abbrev pub elements_of : Object → List Object
elements_of (Cons a d) = elements_of d ++ a ∷ []
elements_of _ = []

abbrev pub tail_of : Object → Object
tail_of (Cons a d) = tail_of d
tail_of x = x

-- the first of the list goes innermost
abbrev pub conses : List Object → Object → Object
conses [] t = t
conses (x ∷ xs) t = conses xs (Cons x t)

abbrev pub IsAtom : Object → Type 0
IsAtom (Cons a d) = ⊥
IsAtom _ = Unit {0}

-- one more than its parts
abbrev pub size_of : Object → ℕ
size_of (Cons a d) = size_of a + size_of d + 1
size_of _ = 0

pub size-conses : (xs : List Object) (t : Object) → (size_of t ≤ size_of (conses xs t)) × (most (λ x. size_of x + 1) xs ≤ size_of (conses xs t))
size-conses [] t = (omega arith, omega arith)
size-conses (x ∷ xs) t = let h = size-conses xs (Cons x t) in (omega (arith, h.0), omega (arith, h.0, h.1))
