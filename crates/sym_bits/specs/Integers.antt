-- Lists of edges as integers in two's complement, the lowest bit first and the sign last.
use Rattle.std.specs.Prelude.{ℕ, Bool, List, map, ℤ}
use Rattle.std.specs.List.{All}
use Rattle.gl_logic.specs.TwosComplement.{integer_of}
use Rattle.bfr_store.specs.declared.edge.Edge.{Edge}
use Rattle.bfr_store.specs.declared.meaning.Meaning.{Ghosts}

-- each edge is live
abbrev pub AllLive : {B : Type 0} → Ghosts B → B → List Edge → Type 0
AllLive g s es = All (g.live s) es

-- the truths of the edges under an assignment
abbrev pub bits_under : {B : Type 0} → Ghosts B → B → List Edge → (ℕ → Bool) → List Bool
bits_under g s es a = map (λ e. g.truth_of s e a) es

-- the integer that the edges stand for under an assignment
abbrev pub integer_under : {B : Type 0} → Ghosts B → B → List Edge → (ℕ → Bool) → ℤ
integer_under g s es a = integer_of (bits_under g s es a)
