-- The bits of a node that is an integer.
use Rattle.std.specs.Prelude.{ℕ, Bool, ◌≡◌, ◌≤◌, List, [], length, map, Option, Some, None}
use Rattle.std.specs.List.{All, list_all}
use Rattle.bfr_store.specs.declared.edge.Edge.{Edge}
use Rattle.bfr_store.specs.declared.meaning.Meaning.{Ghosts}
use Rattle.gl_logic.specs.Object.{Int}
use Rattle.gl_logic.specs.TwosComplement.{integer_of}
use Rattle.sym_objects.specs.declared.sob.Sob.{Sob}
use Rattle.sym_objects.specs.Bits.{IsTrimmed}
use Rattle.sym_objects.specs.Seen.{SobsSeen, is_constant, is_constant_edge, stands_for}

-- the node stands for the integer of these bits under every assignment: there are 1 to 128 of them, all live, the sign is
-- not there twice, and the node is constant exactly where all of them are
pub record AreBitsOf {B : Type 0} (g : Ghosts B) (s : SobsSeen B) (x : Sob) (bits : List Edge) : Type 0 where
  pub some : 1 ≤ length bits
  pub most : length bits ≤ 128
  pub edges : All (g.live s.store) bits
  pub value : (a : ℕ → Bool) → stands_for g s x a ≡ Int (integer_of (map (λ e. g.truth_of s.store e a) bits))
  pub trimmed : IsTrimmed bits
  pub constant : is_constant g s x ≡ list_all (is_constant_edge g) bits

-- the bits behind a first one, none where there is no node of them
abbrev pub bits_behind : (Sob → List Edge) → Option Sob → List Edge
bits_behind of None = []
bits_behind of (Some x) = of x
