-- What the calls on symbolic objects leave, and what they answer under a path.
use Rattle.std.specs.Prelude.{ℕ, Bool, true, false, not, ◌≡◌, ◌≤◌, ℤ, pos, List, length, Option, Result, Ok, None, IfOk, IfErr, IfSome, OnErr, IsTrue}
use Rattle.bfr_store.specs.declared.edge.Edge.{Edge}
use Rattle.bfr_store.specs.declared.edge.Full.{Full}
use Rattle.bfr_store.specs.declared.meaning.Meaning.{Ghosts}
use Rattle.gl_logic.specs.Assignments.{value_at}
use Rattle.gl_logic.specs.Object.{Object}
use Rattle.int_prims.specs.Integers.{IsTooWide}
use Rattle.sym_objects.specs.declared.sob.Sob.{Sob}
use Rattle.sym_objects.specs.Seen.{SobsSeen, IsLive, IsFull, stands_for}
use Rattle.sym_objects.specs.Keeps.{Grows, Keeps}
use Rattle.sym_bits.specs.Integers.{AllLive, integer_under}
use Rattle.sym_bits.specs.declared.shifted.Shifted.{Shifted}
use Rattle.gl_logic.specs.Bytes.{is_signed_byte}
use Rattle.sym_prims.specs.declared.fault.SymFault.{SymFault}
use Rattle.sym_prims.specs.declared.fault.SymFault.TheVariants as fault

-- what every call leaves: the table is whole; each live node and edge stays and keeps its meaning, no count falls, both
-- limits stay, and so does the number of variables
pub record Leaves {B : Type 0} (g : Ghosts B) (old new : SobsSeen B) : Type 0 where
  pub grows : Grows g old new
  pub width : g.width_of new.store ≡ g.width_of old.store

-- the cause of a fault is there: a count stands at its limit; the last decision was given up; the assignment has a bit for
-- each variable, makes the path true and is `wide`; want of memory has none
abbrev pub HasCause : {B : Type 0} → Ghosts B → SobsSeen B → Edge → ((ℕ → Bool) → Type 0) → SymFault → Type 0
HasCause g s path wide fault.Full = IsFull g s
HasCause g s path wide fault.Spent = IsTrue (g.spent s.store)
HasCause g s path wide (fault.Wide a) = (length a ≡ g.width_of s.store) × (g.truth_of s.store path (value_at a) ≡ true) × wide (value_at a)
HasCause g s path wide fault.Memory = Unit {0}

-- a call that makes a symbolic object under a path: the answer stands, under each assignment that makes the path true, for
-- the object; a fault has its cause, and is `Wide` only where the object is an integer that leaves 128 bits
pub record Applies {B : Type 0} (g : Ghosts B) (old new : SobsSeen B) (result : Result Sob SymFault) (path : Edge) (object : (ℕ → Bool) → Object) : Type 0 where
  pub leaves : Leaves g old new
  pub live : IfOk result (λ r. IsLive new r)
  pub value : IfOk result (λ r. (a : ℕ → Bool) → g.truth_of old.store path a ≡ true → stands_for g new r a ≡ object a)
  pub cause : IfErr result (λ f. HasCause g new path (λ a. IsTooWide (object a)) f)

-- a call that makes a function of what is there: the answer is a live edge that stands for it, and a refusal comes only where
-- a count stands at its limit
pub record Tells {B : Type 0} (g : Ghosts B) (old new : SobsSeen B) (result : Result Edge Full) (function : (ℕ → Bool) → Bool) : Type 0 where
  pub keeps : Keeps g old new
  pub live : IfOk result (λ e. g.live new.store e)
  pub truth : IfOk result (λ e. (a : ℕ → Bool) → g.truth_of new.store e a ≡ function a)
  pub full : OnErr result (IsFull g new)

-- a call that makes a symbolic object of what is there: the answer stands for the object under every assignment; a fault has
-- its cause, and is never `Wide`
pub record Gives {B : Type 0} (g : Ghosts B) (old new : SobsSeen B) (result : Result Sob SymFault) (object : (ℕ → Bool) → Object) : Type 0 where
  pub leaves : Leaves g old new
  pub live : IfOk result (λ r. IsLive new r)
  pub means : IfOk result (λ r. (a : ℕ → Bool) → stands_for g new r a ≡ object a)
  pub cause : IfErr result (λ f. (e : Edge) → HasCause g new e (λ a. ⊥) f)

-- an operation on integers of what is there: its live bits stand for the integer wherever it does not leave 128 bits, which
-- the other edge tells
pub record Operates {B : Type 0} (g : Ghosts B) (old new : SobsSeen B) (result : Result Shifted Full) (integer : (ℕ → Bool) → ℤ) : Type 0 where
  pub keeps : Keeps g old new
  pub bits : IfOk result (λ r. AllLive g new.store r.bits)
  pub over : IfOk result (λ r. g.live new.store r.over)
  pub exceeds : IfOk result (λ r. (a : ℕ → Bool) → g.truth_of new.store r.over a ≡ not (is_signed_byte (pos 128) (integer a)))
  pub value : IfOk result (λ r. (a : ℕ → Bool) → g.truth_of new.store r.over a ≡ false → integer_under g new.store r.bits a ≡ integer a)
  pub width : IfOk result (λ r. length r.bits ≤ 128)
  pub full : OnErr result (IsFull g new)
