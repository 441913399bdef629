use Rattle.std.proofs.Common.{◌+◌}
use Rattle.explain_report.proofs.bases.+put_digits.Given as goal

abbrev pub decreases-put_digits : goal.decreases-put_digits
decreases-put_digits l = l.number + l.least
