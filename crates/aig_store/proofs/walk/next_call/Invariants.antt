use Rattle.std.proofs.Common.{◌≡◌, ◌≤◌, ◌<◌, ℕ, length, vec_capacity}
use Rattle.aig_store.specs.Inside.{call_at}
use Rattle.aig_store.proofs.walk.next_call.Given as goal

abbrev pub invariant-loop-place : goal.invariant-loop-place
invariant-loop-place l = record {
  len : length l.marks.items ≡ length l.fn.marks.items;
  cleared : (i : ℕ) → i < l.place → call_at l.marks.items i ≡ 0;
  room : vec_capacity l.fn.marks ≤ vec_capacity l.marks;
}
