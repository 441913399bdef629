use Rattle.std.proofs.Common.{◌≡◌, ◌∙◌, ap, [], ◌∷◌, ◌++◌, append_assoc}
use Rattle.std.specs.Prelude.{codes}
use Rattle.std.proofs.lemmas.Result.{on_ok_weaker}
use Rattle.gl_book.specs.Lines.{named_line, open_words, open_input, input_lines}
use Rattle.gl_book.proofs.lines.add_open.Goals as goal

pub returns : goal.returns
returns c =
    let texts = c.args.texts.now in
    let old = c.args.lines.now in
    let cause = open_words texts c.args.verdict.now in
    let line = named_line texts (codes "UNDECIDED ") c.args.name.number (c.args.part.now ++ cause) in
    let inputs = input_lines texts (open_input c.args.verdict.now) in
    let words : c.deref.result.now ≡ c.args.part.now ++ cause = c.deref.ensures.value ∙ (c.in_ok-add_cause.ensures ∙ ap (λ ws. ws ++ cause) (c.in_ok-add_word.ensures ∙ ap (λ ws. ws ++ c.args.part.now) c.new-words.ensures.items)) in
    let first : c.add_named.new.lines ≡ old ++ line ∷ [] = c.in_ok-add_named.ensures ∙ ap (λ ws. old ++ named_line texts (codes "UNDECIDED ") c.args.name.number ws ∷ []) words in
    on_ok_weaker c.add_cause_input.result (λ e. e ∙ (ap (λ ls. ls ++ inputs) first ∙ append_assoc old (line ∷ []) inputs)) c.add_cause_input.ensures
