-- Gates of single bits, and what they are on integers bit by bit.
use Rattle.std.specs.Prelude.{Bool, ◌&&◌, ◌||◌, cond, ℤ}
use Rattle.bfr_store.specs.declared.edge.Edge.{Edge}
use Rattle.bfr_store.specs.Edges.{xor}
use Rattle.gl_logic.specs.Bitwise.{and_ℤ, or_ℤ, xor_ℤ}
use Rattle.sym_bits.specs.declared.gate.Gate.{Gate}
use Rattle.sym_bits.specs.declared.gate.Gate.TheVariants as gate

abbrev pub gate_bit : (Edge → Bool) → Gate → Bool → Bool → Bool
gate_bit truth gate.And b c = b && c
gate_bit truth gate.Or b c = b || c
gate_bit truth gate.Xor b c = xor b c
gate_bit truth (gate.Choose t) b c = cond (truth t) b c

abbrev pub gate_integer : (Edge → Bool) → Gate → ℤ → ℤ → ℤ
gate_integer truth gate.And i j = and_ℤ i j
gate_integer truth gate.Or i j = or_ℤ i j
gate_integer truth gate.Xor i j = xor_ℤ i j
gate_integer truth (gate.Choose t) i j = cond (truth t) i j

-- the edge that it chooses by is live
abbrev pub GateLive : (Edge → Type 0) → Gate → Type 0
GateLive live (gate.Choose t) = live t
GateLive live _ = Unit {0}
