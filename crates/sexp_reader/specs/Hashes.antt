-- What begins with a number sign: block comments, characters, and integers in other bases.
use Rattle.std.specs.Prelude.{ℕ, ◌+◌, ◌==◌, if◌then◌else◌, List, [], ◌∷◌, map, length, slice_index, bytes_eq, codes, Option, Some, None}
use Rattle.sexp_reader.specs.declared.ends.ReadCode.TheVariants.{EndInside, BadHash}
use Rattle.sexp_reader.specs.declared.lexeme.Piece.{Piece}
use Rattle.sexp_reader.specs.declared.lexeme.Piece.TheVariants.{Torn, Part, Faulty}
use Rattle.sexp_reader.specs.declared.lexeme.Lexeme.TheVariants as lexeme
use Rattle.sexp_reader.specs.declared.lexeme.Atom.TheVariants as atoms
use Rattle.sexp_reader.specs.Bytes.{is_constituent, is_printable, upper, front}
use Rattle.sexp_reader.specs.Numbers.{is_integer, integer_of}
use Rattle.sexp_reader.specs.Tokens.{integer_piece}
use Rattle.sexp_reader.specs.Comments.{comment_rest, comment_piece}

-- ---- characters
abbrev pub character_code : List ℕ → Option ℕ
character_code name =
    if bytes_eq name (codes "SPACE") then Some 32 else (if bytes_eq name (codes "TAB") then Some 9 else (if bytes_eq name (codes "NEWLINE") then Some 10 else (if bytes_eq name (codes "PAGE") then Some 12 else (if bytes_eq name (codes "RETURN") then Some 13 else (if bytes_eq name (codes "RUBOUT") then Some 127 else None)))))

abbrev pub coded_piece : ℕ → Option ℕ → Piece
coded_piece count (Some code) = Part count (lexeme.Atom (atoms.Character code))
coded_piece count None = Faulty 0 BadHash

-- one byte, or a name
abbrev pub spelled_piece : List ℕ → Piece
spelled_piece name = if length name == 1 then Part 3 (lexeme.Atom (atoms.Character (slice_index name 0))) else coded_piece (2 + length name) (character_code (map upper name))

-- behind the backslash
abbrev pub character_piece : List ℕ → Piece
character_piece [] = Faulty 2 EndInside
character_piece (byte ∷ bytes) =
    if is_constituent byte then spelled_piece (front is_constituent (byte ∷ bytes)) else (if is_printable byte then Part 3 (lexeme.Atom (atoms.Character byte)) else Faulty 0 BadHash)

-- ---- integers in other bases
abbrev pub base_of : ℕ → Option ℕ
base_of letter = if upper letter == 66 then Some 2 else (if upper letter == 79 then Some 8 else (if upper letter == 88 then Some 16 else None))

abbrev pub based_piece : Option ℕ → List ℕ → Piece
based_piece None token = Faulty 0 BadHash
based_piece (Some base) token = if is_integer base token then integer_piece (2 + length token) (integer_of base token) else Faulty 0 BadHash

-- ---- all of them, from behind the number sign (35)
abbrev pub sharp_piece : List ℕ → Piece
sharp_piece [] = Torn
sharp_piece (byte ∷ bytes) =
    if byte == 124 then comment_piece (comment_rest bytes 1) else (if byte == 92 then character_piece bytes else based_piece (base_of byte) (front is_constituent bytes))
