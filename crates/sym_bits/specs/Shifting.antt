-- What a shift does to the store, and what it answers.
use Rattle.std.specs.Prelude.{ℕ, Bool, false, not, ◌≡◌, ◌≤◌, List, length, ℤ, pos, Result, IfOk, OnErr}
use Rattle.bfr_store.specs.declared.edge.Edge.{Edge}
use Rattle.bfr_store.specs.declared.edge.Full.{Full}
use Rattle.bfr_store.specs.declared.meaning.Meaning.{Ghosts}
use Rattle.bfr_store.specs.Keeps.{Keeps}
use Rattle.gl_logic.specs.Bytes.{is_signed_byte}
use Rattle.sym_bits.specs.Integers.{AllLive, integer_under}
use Rattle.sym_bits.specs.declared.shifted.Shifted.{Shifted}

-- the answer's edges are live, `over` is true exactly where the integer leaves 128 bits, and elsewhere the bits stand
-- for it; `Full` comes only where the count has reached the limit
pub record MakesShifted {B : Type 0} (g : Ghosts B) (old new : B) (result : Result Shifted Full) (integer : (ℕ → Bool) → ℤ) : Type 0 where
  pub keeps : Keeps g old new
  pub bits : IfOk result (λ r. AllLive g new r.bits)
  pub over : IfOk result (λ r. g.live new r.over)
  pub leaves : IfOk result (λ r. (a : ℕ → Bool) → g.truth_of new r.over a ≡ not (is_signed_byte (pos 128) (integer a)))
  pub value : IfOk result (λ r. (a : ℕ → Bool) → g.truth_of new r.over a ≡ false → integer_under g new r.bits a ≡ integer a)
  pub full : OnErr result (g.count_of new ≡ g.limit_of new)
