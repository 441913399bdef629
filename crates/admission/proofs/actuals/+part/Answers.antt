use Rattle.std.proofs.Common.{◌≡◌, ◌∙◌, rules, length}
use Rattle.admission.proofs.ActualTerms.{one_part, no_part}
use Rattle.admission.proofs.actuals.+part.Goals as goal

pub is_part_alone-returns-then-terms-ne1 : goal.is_part_alone-returns-then-terms-ne1
is_part_alone-returns-then-terms-ne1 t c = no_part c.args.cars c.args.v.number c.args.terms.now c.if-terms-ne1.true

pub is_part_alone-returns : goal.is_part_alone-returns
is_part_alone-returns t c =
    let one : length c.args.terms.now ≡ 1 = search rules in
    c.is_part.ensures ∙ one_part c.args.cars c.args.v.number c.args.terms.now c.index-terms-0.result one c.index-terms-0.is
