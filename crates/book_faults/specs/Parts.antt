-- Parts of a text.
use Rattle.std.specs.Prelude.{ℕ, zero, suc, ◌-◌, ◌&&◌, ◌||◌, ◌==◌, nat_le, Bool, not, if◌then◌else◌, List, [], ◌∷◌, Option, Some, None, take, drop, length, codes}
use Rattle.std.specs.List.{list_any}
use Rattle.std.specs.Str.{str_eq_ignore_ascii_case}
use Rattle.sexp_reader.specs.Bytes.{front}
use Rattle.book_faults.specs.declared.span.Span.{Span}

-- the bytes from one offset up to another, and none where the text has no such part
abbrev pub part_of : List ℕ → ℕ → ℕ → List ℕ
part_of text start end = if nat_le start end && nat_le end (length text) then take (end - start) (drop start text) else []

-- a word without one of the packages that are dropped, whatever their case
abbrev pub without_package : List ℕ → List ℕ
without_package word = if str_eq_ignore_ascii_case (part_of word 0 6) (codes "acl2::") then part_of word 6 (length word)
    else if str_eq_ignore_ascii_case (part_of word 0 4) (codes "gl::") then part_of word 4 (length word)
    else word

-- a byte in front of which a token ends: a blank, or one of ( ) " ' ` , ;
abbrev pub ends_token : ℕ → Bool
ends_token byte = nat_le byte 32 || list_any (λ other. byte == other) (40 ∷ 41 ∷ 34 ∷ 39 ∷ 96 ∷ 44 ∷ 59 ∷ [])

abbrev pub goes_on : ℕ → Bool
goes_on byte = not (ends_token byte)

-- the token with which a part of a text begins
abbrev pub token_of : List ℕ → Span → List ℕ
token_of text part = front goes_on (part_of text part.start part.end)

-- the word with which a list of these elements begins, without a package
abbrev pub head_word : List ℕ → List Span → List ℕ
head_word text [] = []
head_word text (part ∷ parts) = without_package (token_of text part)

-- the byte in front of an offset, by its number
abbrev pub before_offset : ℕ → Option ℕ
before_offset zero = None
before_offset (suc n) = Some n
