use Rattle.std.proofs.Common.{◌≡◌, ℕ, ◌<◌, get_or, true}
use Rattle.book_faults.specs.Parts.{goes_on}
use Rattle.book_faults.proofs.span.token_len.Given as goal

-- each byte so far goes on
abbrev pub invariant-loop-i : goal.invariant-loop-i
invariant-loop-i l = (k : ℕ) → k < l.i → goes_on (get_or l.text k 0) ≡ true
