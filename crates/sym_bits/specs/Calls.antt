-- What the calls on lists of bits do to the store, and what they answer.
use Rattle.std.specs.Prelude.{ℕ, Bool, ◌≡◌, List, ℤ, ◌+ℤ◌, Result, IfOk, OnErr}
use Rattle.bfr_store.specs.declared.edge.Edge.{Edge}
use Rattle.bfr_store.specs.declared.edge.Full.{Full}
use Rattle.bfr_store.specs.declared.meaning.Meaning.{Ghosts}
use Rattle.bfr_store.specs.Keeps.{Keeps}
use Rattle.gl_logic.specs.TwosComplement.{digit}
use Rattle.sym_bits.specs.Columns.{onto, shifted}
use Rattle.sym_bits.specs.Integers.{AllLive, bits_under, integer_under}

-- a call that makes an integer: the answer is a list of live edges that stands for it under every assignment, and
-- `Full` comes only where the count has reached the limit
pub record MakesInteger {B : Type 0} (g : Ghosts B) (old new : B) (result : Result (List Edge) Full) (integer : (ℕ → Bool) → ℤ) : Type 0 where
  pub keeps : Keeps g old new
  pub live : IfOk result (λ r. AllLive g new r)
  pub value : IfOk result (λ r. (a : ℕ → Bool) → integer_under g new r a ≡ integer a)
  pub full : OnErr result (g.count_of new ≡ g.limit_of new)

-- a result on its way: live edges for its lowest bits are there, and with these bits below `rest` it is `whole`
pub record Stands {B : Type 0} (g : Ghosts B) (old new : B) (digits : List Edge) (rest whole : (ℕ → Bool) → ℤ) : Type 0 where
  pub keeps : Keeps g old new
  pub live : AllLive g new digits
  pub value : (a : ℕ → Bool) → onto (bits_under g new digits a) (rest a) ≡ whole a

-- what two integers without their k lowest bits and a carry come to under an assignment
abbrev pub sum_from : {B : Type 0} → Ghosts B → B → List Edge → List Edge → ℕ → Bool → (ℕ → Bool) → ℤ
sum_from g s xs ys k carry a = (shifted (bits_under g s xs a) k +ℤ shifted (bits_under g s ys a) k) +ℤ digit carry
