use Rattle.std.proofs.Common.{◌≡◌, drop}
use Rattle.sexp_reader.specs.Symbols.{begins_as}
use Rattle.sexp_reader.proofs.symbol.begins_as.Given as goal

-- what is left of both decides
abbrev pub invariant-loop-i : goal.invariant-loop-i
invariant-loop-i l = begins_as (drop l.i l.text) (drop l.i l.token) ≡ begins_as l.text l.token
