use Rattle.std.proofs.Common.{rules}
use Rattle.std.specs.Prelude.{unsigned_abs}
use Rattle.explain_report.specs.Bases.{PutsNumber, minus}
use Rattle.explain_report.specs.Said.{Adds, Says}
use Rattle.explain_report.proofs.Numbers.{in_bases}
use Rattle.explain_report.proofs.bases.put_in_both.Goals as goal

pub returns : goal.returns
returns c =
    let z = c.args.integer in
    let below : Adds (minus z) c.text-2.new.self c.put_minus.new.report = search rules in
    let hexadecimal : Says (PutsNumber 16 (unsigned_abs z)) c.put_minus.new.report c.put_digits.new.report = search rules in
    let below-2 : Adds (minus z) c.text-3.new.self c.put_minus-2.new.report = search rules in
    let binary : Says (PutsNumber 2 (unsigned_abs z)) c.put_minus-2.new.report c.put_digits-2.new.report = search rules in
    in_bases z c.args.first.now c.args.front.now c.args.between.now c.args.report.now c.text.new.self c.text-2.new.self c.put_minus.new.report c.put_digits.new.report c.text-3.new.self c.put_minus-2.new.report
    c.put_digits-2.new.report c.text.ensures c.text-2.ensures below hexadecimal c.text-3.ensures below-2 binary
