-- Tokens that spell symbols and keywords.
use Rattle.std.specs.Prelude.{ℕ, ◌+◌, ◌==◌, nat_lt, ◌&&◌, not, Bool, true, false, if◌then◌else◌, List, [], ◌∷◌, map, drop, length, codes}
use Rattle.sexp_reader.specs.declared.ends.ReadCode.TheVariants.{BadByte, LongName}
use Rattle.sexp_reader.specs.declared.lexeme.Piece.{Piece}
use Rattle.sexp_reader.specs.declared.lexeme.Piece.TheVariants.{Part, Faulty}
use Rattle.sexp_reader.specs.declared.lexeme.Lexeme.TheVariants as lexeme
use Rattle.sexp_reader.specs.declared.lexeme.Atom.TheVariants as atoms
use Rattle.sexp_reader.specs.Bytes.{upper, run}

-- a token of so many bytes, whose name is this
abbrev pub named : ℕ → List ℕ → Piece
named count name = if nat_lt 255 (length name) then Faulty 0 LongName else Part count (lexeme.Atom (atoms.Symbol (map upper name)))

-- where the first colon (58) stands; the length where there is none
abbrev pub colon_at : List ℕ → ℕ
colon_at bytes = run (λ byte. not (byte == 58)) bytes

-- so many bytes were dropped from the front: what follows is a name, with no colon
abbrev pub plain_piece : ℕ → List ℕ → Piece
plain_piece dropped name =
    if nat_lt (colon_at name) (length name) then Faulty (dropped + colon_at name) BadByte else named (dropped + length name) name

-- a token that is a colon and a name with no colon
abbrev pub keyword_piece : List ℕ → List ℕ → Piece
keyword_piece token [] = Faulty 0 BadByte
keyword_piece token (byte ∷ bytes) = if nat_lt (colon_at (byte ∷ bytes)) (length (byte ∷ bytes)) then Faulty 0 BadByte else named (length token) token

-- a prefix that is dropped, whose last colon stands so far behind its first byte: a name must follow
abbrev pub dropped_piece : ℕ → List ℕ → Piece
dropped_piece colon [] = Faulty colon BadByte
dropped_piece colon (byte ∷ bytes) = plain_piece (1 + colon) (byte ∷ bytes)

-- whether a token begins with these capital letters and signs, in either case
abbrev pub begins_as : List ℕ → List ℕ → Bool
begins_as [] token = true
begins_as (letter ∷ text) [] = false
begins_as (letter ∷ text) (byte ∷ token) = (upper byte == letter) && begins_as text token

abbrev pub own_piece : List ℕ → Piece
own_piece [] = plain_piece 0 []
own_piece (byte ∷ name) = if byte == 58 then keyword_piece (byte ∷ name) name else plain_piece 0 (byte ∷ name)

-- `acl2::` and `gl::`, in either case, are dropped
abbrev pub symbol_piece : List ℕ → Piece
symbol_piece token =
    if begins_as (codes "ACL2::") token then dropped_piece 5 (drop 6 token) else (if begins_as (codes "GL::") token then dropped_piece 3 (drop 4 token) else own_piece token)
