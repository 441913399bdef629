use Rattle.std.proofs.Common.{◌≡◌, drop}
use Rattle.sexp_reader.specs.Numbers.{value}
use Rattle.sexp_reader.proofs.number.magnitude.Given as goal

-- the digits that are left spell the whole behind the number so far
abbrev pub invariant-loop-digit : goal.invariant-loop-digit
invariant-loop-digit l = value l.base l.number (drop l.digit-index l.digits) ≡ value l.base 0 l.digits
