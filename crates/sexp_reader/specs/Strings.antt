-- Strings.
use Rattle.std.specs.Prelude.{ℕ, ◌+◌, ◌==◌, ◌&&◌, not, Bool, true, false, if◌then◌else◌, List, [], ◌∷◌, ◌++◌}
use Rattle.sexp_reader.specs.declared.ends.ReadCode.TheVariants.{EndInside, BadByte}
use Rattle.sexp_reader.specs.declared.lexeme.Piece.{Piece}
use Rattle.sexp_reader.specs.declared.lexeme.Piece.TheVariants.{Part, Faulty}
use Rattle.sexp_reader.specs.declared.lexeme.Lexeme.TheVariants as lexeme
use Rattle.sexp_reader.specs.declared.lexeme.Atom.TheVariants as atoms
use Rattle.sexp_reader.specs.Bytes.{is_string_byte}

-- the string's rest, behind so many bytes more, which spell this text
abbrev pub behind_text : ℕ → List ℕ → Piece → Piece
behind_text more text (Part count (lexeme.Atom (atoms.String rest))) = Part (more + count) (lexeme.Atom (atoms.String (text ++ rest)))
behind_text more text (Faulty count code) = Faulty (more + count) code
behind_text more text piece = piece

-- the rest of a string up to its closing quote (34). A backslash (92) takes the next byte as it is
abbrev pub string_rest : Bool → List ℕ → Piece
string_rest taken [] = Faulty 0 EndInside
string_rest taken (byte ∷ bytes) =
    if not taken && (byte == 34) then Part 1 (lexeme.Atom (atoms.String [])) else (if not taken && (byte == 92) then behind_text 1 [] (string_rest true bytes) else (if is_string_byte byte then behind_text 1 (byte ∷ []) (string_rest false bytes) else Faulty 0 BadByte))

-- a string, from behind its opening quote
abbrev pub string_piece : List ℕ → Piece
string_piece bytes = behind_text 1 [] (string_rest false bytes)
