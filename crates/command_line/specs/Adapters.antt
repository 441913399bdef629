-- What contracts see of the adapters.
use Rattle.std.specs.Prelude.{ℕ, List, Option, Some, None}

-- the file that is open, and how many calls have failed
pub record FilesSeen (F : Type 0) : Type 0 where
  pub file : Option F
  pub faults : ℕ

-- the writer, and how many calls have failed
pub record WriterSeen (W : Type 0) : Type 0 where
  pub writer : W
  pub faults : ℕ

-- the bytes that a file has left, where a file is open and tells them
abbrev pub left : {F : Type 0} → (F → Option (List ℕ)) → Option F → Option (List ℕ)
left remaining None = None
left remaining (Some file) = remaining file
