use Rattle.std.proofs.Common.{◌≡◌, ◌∙◌, ap, sym, subst, [], ◌∷◌, ◌++◌, append_assoc}
use Rattle.std.specs.Prelude.{codes, OnOk}
use Rattle.std.proofs.lemmas.Result.{on_ok_weaker}
use Rattle.gl_book.specs.Lines.{named_line, cases_lines, input_lines}
use Rattle.gl_book.specs.declared.cases.CasesVerdict.{CasesVerdict}
use Rattle.gl_book.proofs.lines.add_cases.Goals as goal

pub returns-in_ok-add_named-in-Uncased : goal.returns-in_ok-add_named-in-Uncased
returns-in_ok-add_named-in-Uncased c =
    let texts = c.args.texts.now in
    let old = c.args.lines.now in
    let line = named_line texts (codes "UNDECIDED ") c.args.name.number (codes " uncased") in
    let inputs = input_lines texts c.in-Uncased.input in
    subst (λ (v : CasesVerdict). OnOk c.add_input.result (c.add_input.new.lines ≡ old ++ cases_lines texts c.args.name.number v)) (sym c.in-Uncased.is)
    (on_ok_weaker c.add_input.result (λ e. e ∙ (ap (λ ls. ls ++ inputs) c.in_ok-add_named-in-Uncased.ensures ∙ append_assoc old (line ∷ []) inputs)) c.add_input.ensures)
