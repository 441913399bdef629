-- The cells of an object are its parts that take a cell.
use Rattle.std.proofs.Common.{◌≡◌, zero, suc, arith, Bool, true, false, cond, List, [], ◌∷◌, ◌++◌, refl, sym, ◌∙◌, ap, inl, inr, ◌⊎◌}
use Rattle.std.proofs.lemmas.List.Elements.{Contains-append_left, Contains-append_right, Contains-append_cases}
use Rattle.std.specs.List.{Contains, filter}
use Rattle.gl_logic.specs.Object.{Object, Int, Character, Symbol, Text, Cons}
use Rattle.gl_logic.specs.Parts.{parts, is_cell, cells_in}

-- the parts of an object are itself and, for a cons, the parts of its two parts
abbrev pub IsPart : Object → Object → Type 0
IsPart y (Cons a d) = (y ≡ Cons a d) ⊎ (IsPart y a ⊎ IsPart y d)
IsPart y x = y ≡ x

-- ---- elements
contains_head : (x y : Object) (xs : List Object) → x ≡ y → Contains (x ∷ xs) y
contains_head x y xs e = (0, omega arith, e)

contains_tail : (x y : Object) (xs : List Object) → Contains xs y → Contains (x ∷ xs) y
contains_tail x y xs (k, h, e) = (suc k, omega (arith, h), e)

contains_cases : (x y : Object) (xs : List Object) → Contains (x ∷ xs) y → (x ≡ y) ⊎ Contains xs y
contains_cases x y xs (zero, h, e) = inl e
contains_cases x y xs (suc k, h, e) = inr (k, omega (arith, h), e)

head_kept : (b : Bool) (x y : Object) (xs : List Object) → b ≡ true → x ≡ y → Contains (cond b (x ∷ xs) xs) y
head_kept true x y xs t e = contains_head x y xs e
head_kept false x y xs t e = absurd cc

tail_kept : (b : Bool) (x y : Object) (xs : List Object) → Contains xs y → Contains (cond b (x ∷ xs) xs) y
tail_kept true x y xs h = contains_tail x y xs h
tail_kept false x y xs h = h

kept_cases : (b : Bool) (x y : Object) (xs : List Object) → Contains (cond b (x ∷ xs) xs) y → ((b ≡ true) × (x ≡ y)) ⊎ Contains xs y
kept_cases true x y xs h = elim (contains_cases x y xs h) [ inl e ↦ inl (refl, e) | inr k ↦ inr k ]
kept_cases false x y xs h = inr h

into_filter : (p : Object → Bool) (xs : List Object) (y : Object) → p y ≡ true → Contains xs y → Contains (filter p xs) y
into_filter p [] y t h = h
into_filter p (x ∷ xs) y t h = elim (contains_cases x y xs h) [
  | inl e ↦ head_kept (p x) x y (filter p xs) (ap p e ∙ t) e
  | inr k ↦ tail_kept (p x) x y (filter p xs) (into_filter p xs y t k)
]

from_filter : (p : Object → Bool) (xs : List Object) (y : Object) → Contains (filter p xs) y → (p y ≡ true) × Contains xs y
from_filter p [] y h = absurd (omega (arith, h.1))
from_filter p (x ∷ xs) y h = elim (kept_cases (p x) x y (filter p xs) h) [
  | inl k ↦ (sym (ap p k.1) ∙ k.0, contains_head x y xs k.1)
  | inr k ↦ let r = from_filter p xs y k in (r.0, contains_tail x y xs r.1)
]

-- ---- parts
into_parts : (x y : Object) → IsPart y x → Contains (parts x) y
into_parts (Int z) y h = contains_head (Int z) y [] (sym h)
into_parts (Character n) y h = contains_head (Character n) y [] (sym h)
into_parts (Symbol n) y h = contains_head (Symbol n) y [] (sym h)
into_parts (Text n) y h = contains_head (Text n) y [] (sym h)
into_parts (Cons a d) y (inl e) = contains_head (Cons a d) y (parts a ++ parts d) (sym e)
into_parts (Cons a d) y (inr (inl h)) = contains_tail (Cons a d) y (parts a ++ parts d) (Contains-append_left (parts a) (parts d) y (into_parts a y h))
into_parts (Cons a d) y (inr (inr h)) = contains_tail (Cons a d) y (parts a ++ parts d) (Contains-append_right (parts a) (parts d) y (into_parts d y h))

only : (x y : Object) → Contains (x ∷ []) y → y ≡ x
only x y h = elim (contains_cases x y [] h) [ inl e ↦ sym e | inr k ↦ absurd (omega (arith, k.1)) ]

from_parts : (x y : Object) → Contains (parts x) y → IsPart y x
from_parts (Int z) y h = only (Int z) y h
from_parts (Character n) y h = only (Character n) y h
from_parts (Symbol n) y h = only (Symbol n) y h
from_parts (Text n) y h = only (Text n) y h
from_parts (Cons a d) y h = elim (contains_cases (Cons a d) y (parts a ++ parts d) h) [
  | inl e ↦ inl (sym e)
  | inr k ↦ elim (Contains-append_cases (parts a) (parts d) y k) [ inl l ↦ inr (inl (from_parts a y l)) | inr l ↦ inr (inr (from_parts d y l)) ]
]

-- ---- cells
pub cell_of : (x y : Object) → is_cell y ≡ true → IsPart y x → Contains (cells_in x) y
cell_of x y t h = into_filter is_cell (parts x) y t (into_parts x y h)

pub of_cell : (x y : Object) → Contains (cells_in x) y → (is_cell y ≡ true) × IsPart y x
of_cell x y h = let r = from_filter is_cell (parts x) y h in (r.0, from_parts x y r.1)

pub cell_weaker : (x w y : Object) → (IsPart y x → IsPart y w) → Contains (cells_in x) y → Contains (cells_in w) y
cell_weaker x w y up h = let r = of_cell x y h in cell_of w y r.0 (up r.1)
