-- Runs of consecutive jobs.
use Rattle.std.specs.Prelude.{◌≡◌, ℕ, ◌+◌, ◌*◌, ◌/◌, ◌-◌, List, [], ◌∷◌, length, take, drop, Some, slice_get}
use Rattle.gl_book.specs.declared.piece.Piece.{Piece}

-- run k of so many has the jobs from k n / q on up to but not including (k + 1) n / q
pub record IsShare (count parts k : ℕ) (p : Piece) : Type 0 where
  pub first : p.first ≡ k * count / parts
  pub end : p.end ≡ (k + 1) * count / parts

-- so many runs, each with its share
pub record AreDealt (count parts : ℕ) (pieces : List Piece) : Type 0 where
  pub many : length pieces ≡ parts
  pub each : (k : ℕ) (p : Piece) → slice_get pieces k ≡ Some p → IsShare count parts k p

-- each begins where the one before it ended: no job is left out, and none is in two of them
abbrev pub Follow : ℕ → List Piece → ℕ → Type 0
Follow first [] end = first ≡ end
Follow first (p ∷ ps) end = (p.first ≡ first) × Follow p.end ps end

-- the elements of a run
abbrev pub run_of : {A : Type 0} → List A → Piece → List A
run_of xs p = take (p.end - p.first) (drop p.first xs)
