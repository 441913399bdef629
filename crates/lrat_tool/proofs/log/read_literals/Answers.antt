use Rattle.std.proofs.Common.{◌≡◌, ◌∙◌, ap, sym, ℕ, List, [], ◌∷◌, ◌++◌, rules, FitsSigned, w32, to_z-of_z, Some, false}
use Rattle.lrat_tool.specs.Held.{said_to_zero}
use Rattle.lrat_tool.specs.Logs.{is_zero_word, most_literal}
use Rattle.lrat_tool.specs.Numbers.{integer_within}
use Rattle.lrat_tool.specs.Places.{word_of}
use Rattle.lrat_tool.specs.Words.{words_left}
use Rattle.lrat_tool.proofs.Entries.{onto, onto_onto, said_more}
use Rattle.lrat_tool.proofs.Held.{rest_more}
use Rattle.lrat_tool.proofs.log.read_literals.Goals as goal

pub loop-span-preserved : goal.loop-span-preserved
loop-span-preserved c =
    let text = c.args.text.now in
    let word : List ℕ = word_of text c.in-Some.span in
    let z = c.in-Some-integer.literal in
    let new = c.next_word.new.line in
    let other : is_zero_word word ≡ false = ap is_zero_word (sym c.word-word.ensures) ∙ sym c.is_zero.ensures ∙ c.if-is_zero.false in
    let said : integer_within most_literal word ≡ Some z = ap (integer_within most_literal) (sym c.word-word.ensures) ∙ sym c.integer.ensures ∙ c.in-Some-integer.is in
    let fits : FitsSigned w32 z = search rules in
    let pushed : c.push.new.self ≡ record { lists = c.loop-span.clauses.lists; rest = c.loop-span.clauses.rest ++ z ∷ [] } = simp to_z-of_z at c.in_ok-push.ensures.ok in
    let was = c.loop-span.invariant.read in
    record {
      within = c.next_word.ensures.within;
      number = c.next_word.ensures.number ∙ c.loop-span.invariant.number;
      read = (
        was.0 ++ z ∷ [],
        was.1 ∙ ap (λ ws. onto was.0 (said_to_zero (integer_within most_literal) ws)) c.in-Some.ensures.some
            ∙ ap (onto was.0) (said_more (integer_within most_literal) word (words_left text new.begin new.end) z other said)
            ∙ onto_onto was.0 (z ∷ []) (said_to_zero (integer_within most_literal) (words_left text new.begin new.end)),
        rest_more c.args.clauses.now.lists c.args.clauses.now.rest was.0 z c.loop-span.clauses c.push.new.self was.2 pushed,
      );
    }
