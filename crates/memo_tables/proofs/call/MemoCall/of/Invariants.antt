use Rattle.std.proofs.Common.{◌≡◌, ◌≤◌, length, take}
use Rattle.memo_tables.proofs.call.MemoCall.of.Given as goal

abbrev pub invariant-loop-id : goal.invariant-loop-id
invariant-loop-id l = (l.arguments.items ≡ take l.id-index l.fn.args) × (length l.arguments.items ≡ l.id-index) × (l.id-index-end ≤ l.arguments.capacity)
