-- How the ground definitions are spelled.
use Rattle.std.specs.Prelude.{◌≡◌, ℕ, ◌-◌, Bool, ◌&&◌, ◌||◌, ◌==◌, leb, if◌then◌else◌, List, [], ◌∷◌, ◌++◌, codes, Option, Some, None, slice_get, reverse, pos}
use Rattle.gl_logic.specs.Object.{Object, Int, Symbol, Cons}

-- a form by its words, whatever their numbers in a table
pub data Source : Type 0 where
  Word : List ℕ → Source
  Number : ℕ → Source
  Pair : Source → Source → Source

-- the object is this form, in a table of texts
abbrev pub Spells : List (List ℕ) → Object → Source → Type 0
Spells names (Symbol t) (Word w) = slice_get names t ≡ Some w
Spells names (Int z) (Number n) = z ≡ pos n
Spells names (Cons a d) (Pair s r) = Spells names a s × Spells names d r
Spells names _ _ = ⊥

-- the names have these texts, one after the other
abbrev pub AreSpelled : List (List ℕ) → List ℕ → List (List ℕ) → Type 0
AreSpelled names [] [] = Unit {0}
AreSpelled names (t ∷ ts) (w ∷ ws) = (slice_get names t ≡ Some w) × AreSpelled names ts ws
AreSpelled names _ _ = ⊥

-- the lists around a place, the innermost last, are these, the innermost first
abbrev pub AllSpell : List (List ℕ) → List Object → List Source → Type 0
AllSpell names [] [] = Unit {0}
AllSpell names (x ∷ xs) (r ∷ rs) = Spells names x r × AllSpell names xs rs
AllSpell names _ _ = ⊥

abbrev pub AreAround : List (List ℕ) → List Object → List Source → Type 0
AreAround names around rs = AllSpell names (reverse around) rs

-- ---- reading, from the last byte to the first
abbrev pub no_more : Source
no_more = Word (codes "NIL")

abbrev pub is_digit : ℕ → Bool
is_digit b = leb 48 b && leb b 57

-- the number of one digit
abbrev pub digit_in : List ℕ → Option ℕ
digit_in (b ∷ []) = if is_digit b then Some (b - 48) else None
digit_in _ = None

abbrev pub leaf_by : List ℕ → Option ℕ → Source
leaf_by w (Some n) = Number n
leaf_by w None = Word w

abbrev pub leaf : List ℕ → Source
leaf w = leaf_by w (digit_in w)

-- a word in front of a list, where there is one
abbrev pub with_word : List ℕ → Source → Source
with_word [] here = here
with_word (b ∷ bs) here = Pair (leaf (b ∷ bs)) here

-- the bytes of a word, the list that it stands in, and the lists around that one from the innermost on
pub record Reading : Type 0 where
  pub word : List ℕ
  pub here : Source
  pub around : List Source

abbrev pub opened_into : Source → List Source → Reading
opened_into here [] = record { word = []; here = Pair here no_more; around = [] }
opened_into here (next ∷ around) = record { word = []; here = Pair here next; around = around }

abbrev pub is_between : ℕ → Bool
is_between b = (b == 32) || ((b == 40) || (b == 41))

abbrev pub before_break : ℕ → Source → List Source → Reading
before_break b here around = if b == 40 then opened_into here around else (if b == 41 then record { word = []; here = no_more; around = here ∷ around } else record { word = []; here = here; around = around })

abbrev pub before : ℕ → Reading → Reading
before b r = if is_between b then before_break b (with_word r.word r.here) r.around else record r { word = b ∷ r.word }

abbrev pub reading : List ℕ → Reading
reading [] = record { word = []; here = no_more; around = [] }
reading (b ∷ bs) = before b (reading bs)

-- the forms of a text, as a list
abbrev pub forms_in : List ℕ → Source
forms_in text = with_word (reading text).word (reading text).here

-- the words of a form in the order in which they are read. A list ends in the word NIL
abbrev pub words_read : Source → List (List ℕ)
words_read (Word w) = w ∷ []
words_read (Number n) = []
words_read (Pair first rest) = words_read rest ++ words_read first
