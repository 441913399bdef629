use Rattle.std.proofs.Common.{◌≡◌, ◌++◌, take}
use Rattle.explain_report.specs.Shown.{shown}
use Rattle.explain_report.proofs.shown.append_shown.Given as goal

abbrev pub invariant-loop-byte : goal.invariant-loop-byte
invariant-loop-byte l = l.out.items ≡ l.fn.out.items ++ shown l.fn.style (take l.byte-index l.text)
