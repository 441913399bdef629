use Rattle.std.proofs.Common.{◌∙◌, ap, sym, arith, ◌∷◌}
use Rattle.std.proofs.lemmas.List.{length-take}
use Rattle.lrat_tool.specs.Words.{words_left}
use Rattle.lrat_tool.proofs.Texts.{word_of_taken}
use Rattle.lrat_tool.proofs.lines.next_word.Goals as goal

pub returns-clause-some : goal.returns-clause-some
returns-clause-some c =
    let text = c.args.text.now in
    let begin = c.word_begin-begin.result in
    let end = c.word_end-end.result in
    let most = c.args.line.now.end in
    sym c.word_begin-begin.ensures.words ∙ c.word_end-end.ensures.words
    ∙ ap (λ w. w ∷ words_left text end most) (word_of_taken text begin end most (omega arith) (omega (arith, length-take most text)))
