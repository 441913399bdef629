-- Comments.
use Rattle.std.specs.Prelude.{ℕ, zero, suc, ◌+◌, ◌==◌, ◌&&◌, not, if◌then◌else◌, List, [], ◌∷◌, Option, Some, None, option_map}
use Rattle.sexp_reader.specs.declared.lexeme.Piece.{Piece}
use Rattle.sexp_reader.specs.declared.lexeme.Piece.TheVariants.{Torn, Gap}
use Rattle.sexp_reader.specs.Bytes.{run}

-- from behind `;`, to the end of the line (10)
abbrev pub line_piece : List ℕ → Piece
line_piece bytes = Gap (1 + run (λ byte. not (byte == 10)) bytes)

-- inside so many block comments: how many bytes it takes to close them all. `|#` (124 35) closes one, `#|` opens one more
abbrev pub comment_rest : List ℕ → ℕ → Option ℕ
comment_rest bytes zero = Some 0
comment_rest [] (suc n) = None
comment_rest (b ∷ []) (suc n) = None
comment_rest (b ∷ c ∷ bytes) (suc n) =
    if (b == 124) && (c == 35) then option_map (λ k. 2 + k) (comment_rest bytes n) else (if (b == 35) && (c == 124) then option_map (λ k. 2 + k) (comment_rest bytes (suc (suc n))) else option_map (λ k. 1 + k) (comment_rest (c ∷ bytes) (suc n)))

abbrev pub comment_piece : Option ℕ → Piece
comment_piece (Some count) = Gap (2 + count)
comment_piece None = Torn
