use Rattle.std.proofs.Common.{◌≡◌, ◌∙◌, ap, sym, subst, arith, length, None}
use Rattle.lrat_tool.specs.Ends.{to_empty}
use Rattle.lrat_tool.specs.Judgements.{by_wrong}
use Rattle.lrat_tool.specs.Pieces.{IsFoundAmong, log_seen}
use Rattle.lrat_tool.proofs.Held.{many_hints, many_ids, many_rats}
use Rattle.lrat_tool.proofs.Judging.{none_found, one_found, same_fault}
use Rattle.lrat_tool.proofs.checking.judge_entries.Goals as goal

pub first_wrong-requires-clause-hints : goal.first_wrong-requires-clause-hints
first_wrong-requires-clause-hints g c κs within = many_hints (length c.args.formula.now.lists) c.requires.held.0 c.args.log.now c.requires.held.1

pub first_wrong-requires-clause-rats : goal.first_wrong-requires-clause-rats
first_wrong-requires-clause-rats g c κs within = many_rats (length c.args.formula.now.lists) c.requires.held.0 c.args.log.now c.requires.held.1

pub first_wrong-requires-clause-numbered : goal.first_wrong-requires-clause-numbered
first_wrong-requires-clause-numbered g c κs within = (many_ids (length c.args.formula.now.lists) c.requires.held.0 c.args.log.now c.requires.held.1, c.requires.held.1.rises, c.requires.few)

pub returns-in-At : goal.returns-in-At
returns-in-At g c =
    let formula = c.args.formula.now in
    let log = c.args.log.now in
    let count = c.in-Ok.count in
    let is : count ≡ to_empty log.clauses.lists = omega (arith, c.in-Ok.ensures, c.end_of-end.ensures.value) in
    λ es h. c.wrong_with.ensures ∙ same_fault log c.first_wrong.new.log c.in-At.k c.first_wrong.ensures.rats c.first_wrong.ensures.lines
    ∙ sym (one_found formula es log h c.requires.few count is c.in-At.k (subst (IsFoundAmong (log_seen formula log) 0 count) c.in-At.is c.first_wrong.ensures.found))

pub returns-then-refuted : goal.returns-then-refuted
returns-then-refuted g c =
    let formula = c.args.formula.now in
    let log = c.args.log.now in
    let count = c.in-Ok.count in
    let is : count ≡ to_empty log.clauses.lists = omega (arith, c.in-Ok.ensures, c.end_of-end.ensures.value) in
    λ es h. sym (none_found formula es log h c.requires.few count is (subst (IsFoundAmong (log_seen formula log) 0 count) c.in-None.is c.first_wrong.ensures.found)
    ∙ ap (by_wrong None) (sym c.is_refuted-refuted.ensures ∙ c.if-refuted.true))

pub returns-else-refuted : goal.returns-else-refuted
returns-else-refuted g c =
    let formula = c.args.formula.now in
    let log = c.args.log.now in
    let count = c.in-Ok.count in
    let is : count ≡ to_empty log.clauses.lists = omega (arith, c.in-Ok.ensures, c.end_of-end.ensures.value) in
    λ es h. sym (none_found formula es log h c.requires.few count is (subst (IsFoundAmong (log_seen formula log) 0 count) c.in-None.is c.first_wrong.ensures.found)
    ∙ ap (by_wrong None) (sym c.is_refuted-refuted.ensures ∙ c.if-refuted.false))
