-- Symbols by their texts: a table of texts gives each one's by its number.
use Rattle.std.specs.Prelude.{ℕ, zero, Bool, false, not, ◌&&◌, ◌||◌, ◌==◌, ◌-◌, nat_lt, List, [], ◌∷◌, length, get_or, bytes_eq, Option, Some, None}
use Rattle.std.specs.Option.{option_map}
use Rattle.gl_logic.specs.Object.{Object, Symbol, Cons}

abbrev pub text_of : List (List ℕ) → ℕ → List ℕ
text_of names t = get_or names t []

-- the object is the symbol with this text
abbrev pub spells : List (List ℕ) → List ℕ → Object → Bool
spells names word (Symbol t) = bytes_eq (text_of names t) word
spells names word _ = false

abbrev pub first_byte : List ℕ → ℕ
first_byte bytes = get_or bytes 0 0

abbrev pub last_byte : List ℕ → ℕ
last_byte bytes = get_or bytes (length bytes - 1) 0

-- begins and ends with `*`
abbrev pub is_starred : List ℕ → Bool
is_starred bytes = (first_byte bytes == 42) && (last_byte bytes == 42)

-- a keyword begins with a colon
abbrev pub is_keyword : List (List ℕ) → ℕ → Bool
is_keyword names t = first_byte (text_of names t) == 58

-- not NIL, T or a mark, no keyword, and no name that both begins and ends with `*`
abbrev pub is_legal : List (List ℕ) → ℕ → Bool
is_legal names t = not (nat_lt t 4) && (not (is_keyword names t) && not (is_starred (text_of names t)))

-- the marks of backquote and of comma
abbrev pub is_mark : ℕ → Bool
is_mark t = (t == 2) || (t == 3)

-- a mark anywhere inside an object
abbrev pub has_mark : Object → Bool
has_mark (Symbol t) = is_mark t
has_mark (Cons a d) = has_mark a || has_mark d
has_mark _ = false

-- ---- lists
-- the elements of a proper list
abbrev pub elements : Object → Option (List Object)
elements (Symbol zero) = Some []
elements (Cons x y) = option_map (λ xs. x ∷ xs) (elements y)
elements _ = None

-- both, where both are there
abbrev pub both : {A B C : Type 0} → (A → B → C) → Option A → Option B → Option C
both f (Some a) (Some b) = Some (f a b)
both f _ _ = None

-- what each element means, where each means something
module _ {A B : Type 0} where
  abbrev pub all_meant : (A → Option B) → List A → Option (List B)
  all_meant f [] = Some []
  all_meant f (x ∷ xs) = both (λ y ys. y ∷ ys) (f x) (all_meant f xs)
