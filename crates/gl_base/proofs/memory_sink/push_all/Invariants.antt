use Rattle.std.proofs.Common.{◌≡◌, ◌≤◌, ◌+◌, ◌++◌, take, vec_len, vec_capacity}
use Rattle.gl_base.proofs.memory_sink.push_all.Given as goal

abbrev pub invariant-loop-byte : goal.invariant-loop-byte
invariant-loop-byte l =
    (l.taken.items ≡ l.fn.taken.items ++ take l.byte-index l.piece) × (vec_len l.taken ≡ vec_len l.fn.taken + l.byte-index) × (vec_capacity l.fn.taken ≤ vec_capacity l.taken)
