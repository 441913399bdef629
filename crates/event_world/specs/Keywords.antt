-- Keywords, each with its value behind it.
use Rattle.std.specs.Prelude.{ℕ, Bool, ◌&&◌, List, [], ◌∷◌, map, bytes_eq, if◌then◌else◌, Option, Some, None}
use Rattle.std.specs.List.{find, list_any, list_all}
use Rattle.std.specs.Option.{option_map}
use Rattle.gl_logic.specs.Object.{Object, Symbol}
use Rattle.gl_logic.specs.Wording.{text_of, is_keyword, both}
use Rattle.gl_logic.specs.NameSets.{are_different}

abbrev pub keyword_of : List (List ℕ) → Object → Option ℕ
keyword_of names (Symbol k) = if is_keyword names k then Some k else None
keyword_of names _ = None

abbrev pub pairs_of : List (List ℕ) → List Object → Option (List (ℕ × Object))
pairs_of names [] = Some []
pairs_of names (k ∷ []) = None
pairs_of names (k ∷ v ∷ rest) = both (λ t ps. (t, v) ∷ ps) (keyword_of names k) (pairs_of names rest)

-- the value of the keyword with this text
abbrev pub value_of : List (List ℕ) → List ℕ → List (ℕ × Object) → Option Object
value_of names text pairs = option_map (λ p. p.1) (find (λ p. bytes_eq (text_of names p.0) text) pairs)

abbrev pub is_one_of : List (List ℕ) → List ℕ → Bool
is_one_of texts text = list_any (bytes_eq text) texts

-- each keyword has one of these texts, and none stands twice
abbrev pub are_options : List (List ℕ) → List (List ℕ) → List (ℕ × Object) → Bool
are_options names texts pairs = list_all (λ p. is_one_of texts (text_of names p.0)) pairs && are_different (map (λ p. p.0) pairs)
