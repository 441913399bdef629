-- What a text begins with.
use Rattle.std.specs.Prelude.{ℕ, ◌==◌, ◌<◌, ◌≤◌, if◌then◌else◌, List, [], ◌∷◌, Option, Some, None}
use Rattle.sexp_reader.specs.declared.ends.ReadCode.TheVariants.{BadByte}
use Rattle.sexp_reader.specs.declared.lexeme.Piece.{Piece}
use Rattle.sexp_reader.specs.declared.lexeme.Piece.TheVariants.{Ended, Gap, Part, Faulty}
use Rattle.sexp_reader.specs.declared.lexeme.Mark.TheVariants.{Quote, Backquote, Comma}
use Rattle.sexp_reader.specs.declared.lexeme.Lexeme.TheVariants as lexeme
use Rattle.sexp_reader.specs.Bytes.{is_white, is_constituent, front}
use Rattle.sexp_reader.specs.Tokens.{token_piece}
use Rattle.sexp_reader.specs.Comments.{line_piece}
use Rattle.sexp_reader.specs.Strings.{string_piece}
use Rattle.sexp_reader.specs.Hashes.{sharp_piece}

-- behind a comma: no `@` (64) may follow right after it
abbrev pub comma_piece : List ℕ → Piece
comma_piece [] = Part 1 (lexeme.Prefix Comma)
comma_piece (byte ∷ bytes) = if byte == 64 then Part 1 lexeme.Splice else Part 1 (lexeme.Prefix Comma)

-- a gap begins with white space or `;`; then ( ) ' ` , " and # begin what they stand for; the longest run of constituents
-- is a token; any other byte is a fault
abbrev pub first_piece : List ℕ → Piece
first_piece [] = Ended
first_piece (byte ∷ bytes) =
    if is_white byte then Gap 1 else (if byte == 59 then line_piece bytes else (if byte == 40 then Part 1 lexeme.Open else (if byte == 41 then Part 1 lexeme.Close else (if byte == 39 then Part 1 (lexeme.Prefix Quote) else (if byte == 96 then Part 1 (lexeme.Prefix Backquote) else (if byte == 44 then comma_piece bytes else (if byte == 34 then string_piece bytes else (if byte == 35 then sharp_piece bytes else (if is_constituent byte then token_piece (front is_constituent (byte ∷ bytes)) else Faulty 0 BadByte)))))))))

-- a gap and a lexeme have one byte at least, and no piece has more than a text of so many bytes
abbrev pub Spans : ℕ → Piece → Type 0
Spans most (Gap count) = (0 < count) × (count ≤ most)
Spans most (Part count what) = (0 < count) × (count ≤ most)
Spans most (Faulty count code) = count ≤ most
Spans most other = Unit {0}

-- how far a gap and a lexeme go
abbrev pub count_of : Piece → Option ℕ
count_of (Gap count) = Some count
count_of (Part count what) = Some count
count_of piece = None
