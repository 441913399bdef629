use Rattle.std.proofs.Common.{◌≡◌, ◌+◌, ◌≤◌, length, drop}
use Rattle.std.specs.Prelude.{◌-◌}
use Rattle.sexp_reader.specs.Comments.{comment_rest}
use Rattle.sexp_reader.proofs.Comments.{further}
use Rattle.sexp_reader.proofs.comment.comment_rest.Given as goal

-- the rest takes what the whole takes, less what is read
abbrev pub invariant-loop-nested : goal.invariant-loop-nested
invariant-loop-nested l = record {
  whole : further l.read (comment_rest (drop l.read l.bytes) l.nested) ≡ comment_rest l.bytes 1;
  few : l.nested ≤ 1 + l.read;
  within : l.read ≤ length l.bytes;
}

abbrev pub decreases-loop-nested : goal.decreases-loop-nested
decreases-loop-nested l = length l.bytes - l.read
