use Rattle.std.proofs.Common.{◌≡◌, ◌+◌, drop}
use Rattle.sexp_reader.specs.Strings.{behind_text, string_rest, string_piece}
use Rattle.sexp_reader.proofs.string.string_piece.Given as goal

-- the string is what is left of it, behind the text so far
abbrev pub invariant-loop-i : goal.invariant-loop-i
invariant-loop-i l = behind_text (l.i + 1) l.text.items (string_rest l.taken (drop l.i l.bytes)) ≡ string_piece l.bytes
