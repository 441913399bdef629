use Rattle.std.proofs.Common.{◌≡◌, ◌+◌, ◌-◌, ◌++◌, take}
use Rattle.cnf_rup.specs.Books.{log_of}
use Rattle.lrat_tool.specs.Written.{entries_words, text_of}
use Rattle.lrat_tool.proofs.written.append_entries.Given as goal

abbrev pub invariant-loop-place : goal.invariant-loop-place
invariant-loop-place l = l.out.items ≡ l.fn.out.items ++ text_of (entries_words (l.book.first + 1) (take (l.place - l.book.first) (log_of l.book)))
