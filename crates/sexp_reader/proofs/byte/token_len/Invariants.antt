use Rattle.std.proofs.Common.{◌≡◌, ℕ, ◌<◌, get_or, true}
use Rattle.sexp_reader.specs.Bytes.{is_constituent}
use Rattle.sexp_reader.proofs.byte.token_len.Given as goal

-- each byte so far passes
abbrev pub invariant-loop-i : goal.invariant-loop-i
invariant-loop-i l = (k : ℕ) → k < l.i → is_constituent (get_or l.bytes k 0) ≡ true
