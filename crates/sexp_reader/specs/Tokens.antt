-- What a token is.
use Rattle.std.specs.Prelude.{ℕ, ◌==◌, if◌then◌else◌, List, length, Option, Some, None, ℤ}
use Rattle.std.specs.List.{list_all}
use Rattle.sexp_reader.specs.declared.ends.ReadCode.TheVariants.{BadDot, WideNumber, NumberForm}
use Rattle.sexp_reader.specs.declared.lexeme.Piece.{Piece}
use Rattle.sexp_reader.specs.declared.lexeme.Piece.TheVariants.{Part, Faulty}
use Rattle.sexp_reader.specs.declared.lexeme.Lexeme.TheVariants as lexeme
use Rattle.sexp_reader.specs.declared.lexeme.Atom.TheVariants as atoms
use Rattle.sexp_reader.specs.Numbers.{is_integer, integer_of, is_number_form}
use Rattle.sexp_reader.specs.Symbols.{symbol_piece}

-- an integer of so many bytes, where 128 bits hold it
abbrev pub integer_piece : ℕ → Option ℤ → Piece
integer_piece count (Some z) = Part count (lexeme.Atom (atoms.Integer z))
integer_piece count None = Faulty 0 WideNumber

abbrev pub dots_piece : List ℕ → Piece
dots_piece token = if length token == 1 then Part 1 lexeme.Dot else Faulty 0 BadDot

-- an integer; a number of another form; dots (46) alone; else a symbol
abbrev pub token_piece : List ℕ → Piece
token_piece token =
    if is_integer 10 token then integer_piece (length token) (integer_of 10 token) else (if is_number_form token then Faulty 0 NumberForm else (if list_all (λ byte. byte == 46) token then dots_piece token else symbol_piece token))
