-- Tokens that begin as a prefix does.
use Rattle.std.proofs.Common.{◌≡◌, refl, ℕ, ◌<◌, arith, false, List, [], ◌∷◌, length}
use Rattle.std.specs.Prelude.{◌==◌}
use Rattle.std.proofs.lemmas.Bool.{and_right}
use Rattle.sexp_reader.specs.Bytes.{upper}
use Rattle.sexp_reader.specs.Symbols.{begins_as}

-- too few bytes
pub begins_short : (text token : List ℕ) → length token < length text → begins_as text token ≡ false
begins_short [] token h = absurd (omega arith)
begins_short (t ∷ text) [] h = refl
begins_short (t ∷ text) (b ∷ token) h = and_right (upper b == t) (begins_as text token) (begins_short text token (omega arith))
