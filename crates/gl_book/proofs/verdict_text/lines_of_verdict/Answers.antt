use Rattle.std.proofs.Common.{◌∙◌, ◌<◌, ◌++◌, ap, sym, subst, ℕ, List, length}
use Rattle.gl_book.specs.Lines.{verdict_lines}
use Rattle.gl_book.proofs.SomeLines.{some_of_verdict}
use Rattle.gl_book.proofs.verdict_text.lines_of_verdict.Goals as goal

pub returns-clause-some : goal.returns-clause-some
returns-clause-some c =
    let t = c.args.thm.now.name.number in
    let lines = verdict_lines c.args.texts.now t c.args.verdict.now in
    subst (λ (ls : List (List ℕ)). 0 < length ls) (sym (c.in_ok-add_verdict.ensures ∙ ap (λ ls. ls ++ lines) c.new-lines.ensures)) (some_of_verdict c.args.texts.now t c.args.verdict.now)
