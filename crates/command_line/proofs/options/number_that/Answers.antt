use Rattle.std.proofs.Common.{◌≡◌, ◌∙◌, ap, rules, arith, true, false, Bool, length, ◌<◌, ◌≤◌, ◌&&◌, nat_le, nat_lt}
use Rattle.std.specs.List.{list_all}
use Rattle.std.specs.Result.{result_ok}
use Rattle.std.specs.Str.Parse.{digits_value}
use Rattle.std.proofs.lemmas.Str.Parse.{IsNumeralModel, numerals_by_value, parse_gives, digits_value_short}
use Rattle.std.proofs.lemmas.Bool.Decides.{nat_tests}
use Rattle.command_line.proofs.options.number_that.Goals as goal

both : (b d : Bool) → (b && d) ≡ true → (b ≡ true) × (d ≡ true)
both true true e = (e, e)
both true false e = absurd cc
both false d e = absurd cc

own : IsNumeralModel (λ ds. list_all (λ b. nat_le 48 b && nat_le b 57) ds ≡ true) (digits_value 10)
own = numerals_by_value _ (search rules)

pub returns : goal.returns
returns c =
    let text = c.args.text.now in
    let p = both (nat_lt 0 (length text)) _ c.requires in
    let q = both (nat_le (length text) 8) _ p.1 in
    let some : 0 < length text = grind (arith, nat_tests) in
    let few : length text ≤ 8 = grind (arith, nat_tests) in
    c.ok.ensures.value ∙ ap result_ok (parse_gives own 32 text c.parse.result c.parse.ensures.value.0 q.1 some (omega (arith, digits_value_short own text 8 q.1 few)))
