use Rattle.std.proofs.Common.{◌≡◌, sym, subst, ◌-◌, List, take, drop, Ok, Err, IfOk, IfErr}
use Rattle.lrat_tool.specs.Bad.{IfAt}
use Rattle.lrat_tool.specs.Formulas.{Token, last_line}
use Rattle.lrat_tool.specs.Reading.{formula_by, tokens_left}
use Rattle.lrat_tool.proofs.Tokens.{first_tokens}
use Rattle.lrat_tool.proofs.formula.read_formula.Goals as goal

pub returns-in-Ok-clause-ok : goal.returns-in-Ok-clause-ok
returns-in-Ok-clause-ok c =
    let text = c.args.text.now in
    let at = c.line_at-at.result in
    let first = first_tokens text at (take (at.end - 0) (drop 0 text)) c.line_at-at.ensures.lines c.line_at-at.ensures.words c.line_at-at.ensures.number in
    subst (λ (ts : List Token). IfOk c.read_clauses.result (λ f. formula_by (last_line text) ts ≡ Ok f.lists)) (sym first) (c.read_clauses.ensures.ok (tokens_left text at) c.in-Ok.ensures.ok)

pub returns-in-Ok-clause-bad : goal.returns-in-Ok-clause-bad
returns-in-Ok-clause-bad c =
    let text = c.args.text.now in
    let at = c.line_at-at.result in
    let first = first_tokens text at (take (at.end - 0) (drop 0 text)) c.line_at-at.ensures.lines c.line_at-at.ensures.words c.line_at-at.ensures.number in
    subst (λ (ts : List Token). IfErr c.read_clauses.result (IfAt (λ n. formula_by (last_line text) ts ≡ Err n))) (sym first) (c.read_clauses.ensures.bad (tokens_left text at) c.in-Ok.ensures.ok)

pub returns-in-Err-clause-bad : goal.returns-in-Err-clause-bad
returns-in-Err-clause-bad c =
    let text = c.args.text.now in
    let at = c.line_at-at.result in
    let first = first_tokens text at (take (at.end - 0) (drop 0 text)) c.line_at-at.ensures.lines c.line_at-at.ensures.words c.line_at-at.ensures.number in
    subst (λ (ts : List Token). formula_by (last_line text) ts ≡ Err c.in-Err.line) (sym first) c.in-Err.ensures.bad
