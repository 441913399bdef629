use Rattle.std.proofs.Common.{◌≡◌, ℕ, take, eqb}
use Rattle.std.specs.List.{list_any}
use Rattle.shape_spec.specs.Indices.{variables_of}
use Rattle.event_world.proofs.bound.note_variables.Given as goal

abbrev pub invariant-loop-i : goal.invariant-loop-i
invariant-loop-i l = (v : ℕ) → list_any (eqb v) l.names ≡ list_any (eqb v) (take l.i (variables_of l.bindings))
