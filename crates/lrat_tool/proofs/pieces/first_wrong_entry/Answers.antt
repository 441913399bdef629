use Rattle.std.proofs.Common.{◌≡◌, ◌∙◌, ap, sym, subst, rules, length}
use Rattle.lrat_tool.specs.Pieces.{IsFoundAmong, joined_of, log_seen}
use Rattle.lrat_tool.proofs.Ranges.{all_found, joined_found, none_yet}
use Rattle.lrat_tool.proofs.pieces.first_wrong_entry.Goals as goal

pub returns-in-Ok : goal.returns-in-Ok
returns-in-Ok g c =
    let s = log_seen c.args.formula.now c.args.log.now in
    let ps = c.args.pieces.items in
    let fs = c.in-Ok.answers.items in
    let many : length fs ≡ length ps = search (rules, c.in-Ok.ensures.count) in
    let each = all_found s ps fs many c.in-Ok.ensures.each in
    let whole = joined_found s 0 c.args.end ps fs c.requires.pieces each (none_yet s) in
    let is : c.joined.result ≡ joined_of fs = c.joined.ensures ∙ ap joined_of c.as_slice.ensures.value in
    subst (IsFoundAmong s 0 c.args.end) (sym is) whole
