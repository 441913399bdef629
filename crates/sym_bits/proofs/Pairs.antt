-- Calls that make two integers, one after another.
use Rattle.std.proofs.Common.{◌≡◌, ℕ, Bool, List, Ok, Err, Result, ℤ, ◌∙◌}
use Rattle.bfr_store.specs.declared.edge.Edge.{Edge}
use Rattle.bfr_store.specs.declared.edge.Full.{Full}
use Rattle.bfr_store.specs.declared.meaning.Meaning.{Ghosts}
use Rattle.bfr_store.specs.Keeps.{Keeps}
use Rattle.bfr_store.proofs.Keeping.{keeps_then}
use Rattle.sym_bits.specs.Dividing.{MakesTwoIntegers}

pub two_then : {B : Type 0} (g : Ghosts B) (start old new : B) (r : Result (List Edge × List Edge) Full) (f h k l : (ℕ → Bool) → ℤ) → Keeps g start old → MakesTwoIntegers g old new r f h
    → ((a : ℕ → Bool) → f a ≡ k a) → ((a : ℕ → Bool) → h a ≡ l a) → MakesTwoIntegers g start new r k l
two_then g start old new (Ok e) f h k l s m p q = record { keeps = keeps_then g start old new s m.keeps; live = m.live; first = λ a. m.first a ∙ p a; second = λ a. m.second a ∙ q a; full = tt }
two_then g start old new (Err e) f h k l s m p q = record { keeps = keeps_then g start old new s m.keeps; live = tt; first = tt; second = tt; full = m.full }
