use Rattle.std.proofs.Common.{◌≡◌, ◌<◌, ◌∙◌, ap, sym, arith, ◌-◌, take, drop, ◌+◌, [], length}
use Rattle.lrat_tool.specs.Words.{words_left}
use Rattle.lrat_tool.specs.Reading.{tokens_left}
use Rattle.lrat_tool.specs.declared.lines.Line.{Line}
use Rattle.lrat_tool.proofs.Tokens.{line_next, token_next}
use Rattle.lrat_tool.specs.Places.{word_of}
use Rattle.lrat_tool.proofs.formula.next_token.Goals as goal

pub returns-in-Some-clause-some : goal.returns-in-Some-clause-some
returns-in-Some-clause-some c =
    sym c.loop-word.invariant.tokens
    ∙ token_next c.args.text.now c.loop-word.at c.next_word.new.line (word_of c.args.text.now c.in-Some.word) c.in-Some.ensures.some c.in-Some.ensures.end c.in-Some.ensures.number

pub loop-word-preserved : goal.loop-word-preserved
loop-word-preserved c =
    let text = c.args.text.now in
    let old = c.next_word.new.line in
    let new = c.line_at.result in
    let stayed = c.in_default.ensures.stayed in
    let none : words_left text old.begin old.end ≡ [] = ap (λ (l : Line). words_left text l.begin l.end) stayed ∙ c.in_default.ensures.none in
    let more : old.end < length text = omega arith in
    record {
      within = c.line_at.ensures.within;
      tokens = sym (line_next text old new (take (new.end - (old.end + 1)) (drop (old.end + 1) text)) none more c.line_at.ensures.lines c.line_at.ensures.words c.line_at.ensures.number) ∙ ap (tokens_left text) stayed ∙ c.loop-word.invariant.tokens;
      later = omega arith;
    }
