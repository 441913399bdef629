-- Quotients and what they leave.
use Rattle.std.specs.Prelude.{ℕ, Bool, true, cond, ◌≡◌, List, ℤ, pos, ◌+ℤ◌, ◌*ℤ◌, ◌<ℤ◌, ◌≤ℤ◌, Result, IfOk, OnErr}
use Rattle.bfr_store.specs.declared.edge.Edge.{Edge}
use Rattle.bfr_store.specs.declared.edge.Full.{Full}
use Rattle.bfr_store.specs.declared.meaning.Meaning.{Ghosts}
use Rattle.bfr_store.specs.Keeps.{Keeps}
use Rattle.sym_bits.specs.Integers.{AllLive, integer_under}

-- q and r put n together again by d, and r is a rest of d
pub record Divides (n d q r : ℤ) : Type 0 where
  pub whole : n ≡ (q *ℤ d) +ℤ r
  pub least : pos 0 ≤ℤ r
  pub most : r <ℤ d

-- a call that makes two integers: the answers are lists of live edges that stand for them under every assignment, and
-- `Full` comes only where the count has reached the limit
pub record MakesTwoIntegers {B : Type 0} (g : Ghosts B) (old new : B) (result : Result (List Edge × List Edge) Full) (first_integer second_integer : (ℕ → Bool) → ℤ) : Type 0 where
  pub keeps : Keeps g old new
  pub live : IfOk result (λ r. AllLive g new r.0 × AllLive g new r.1)
  pub first : IfOk result (λ r. (a : ℕ → Bool) → integer_under g new r.0 a ≡ first_integer a)
  pub second : IfOk result (λ r. (a : ℕ → Bool) → integer_under g new r.1 a ≡ second_integer a)
  pub full : OnErr result (g.count_of new ≡ g.limit_of new)
