-- Named texts, one of them open.
use Rattle.std.specs.Prelude.{ℕ, zero, suc, List, [], ◌∷◌, map, Option, Some, None, String, Vec, string_bytes, bytes_eq, if◌then◌else◌}

-- the names and bytes of owned texts
module _ {Y Z : Type 0} where
  abbrev pub named : List (String Y × Vec ℕ Z) → List (List ℕ × List ℕ)
  named texts = map (λ t. (string_bytes t.0, t.1.items)) texts

-- the bytes under a name: of two texts with one name the first counts
abbrev pub text_named : List (List ℕ × List ℕ) → List ℕ → Option (List ℕ)
text_named [] name = None
text_named (t ∷ texts) name = if bytes_eq t.0 name then Some t.1 else text_named texts name

-- the texts, and what is not read yet of the one that is open
pub record Reading : Type 0 where
  pub texts : List (List ℕ × List ℕ)
  pub rest : Option (List ℕ)

-- no text is open
abbrev pub closed : List (List ℕ × List ℕ) → Reading
closed texts = record { texts = texts; rest = None }

-- the bytes of the text with this number, none past the last
abbrev pub text_at : List (List ℕ × List ℕ) → ℕ → List ℕ
text_at [] n = []
text_at (t ∷ texts) zero = t.1
text_at (t ∷ texts) (suc n) = text_at texts n
