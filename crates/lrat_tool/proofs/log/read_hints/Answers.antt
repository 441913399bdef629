use Rattle.std.proofs.Common.{◌≡◌, ◌∙◌, ap, sym, ℕ, List, [], ◌∷◌, ◌++◌, Some, false}
use Rattle.std.specs.Prelude.{option_map}
use Rattle.lrat_tool.specs.Held.{said_to_zero}
use Rattle.lrat_tool.specs.HintWords.{held_hint, held_of, hint_of}
use Rattle.lrat_tool.specs.Logs.{is_zero_word}
use Rattle.lrat_tool.specs.Numbers.{integer_said}
use Rattle.lrat_tool.specs.Places.{word_of}
use Rattle.lrat_tool.specs.Words.{words_left}
use Rattle.lrat_tool.proofs.Entries.{onto, onto_onto, said_more}
use Rattle.lrat_tool.proofs.Held.{below_more, hint_said, hints_more}
use Rattle.lrat_tool.proofs.log.read_hints.Goals as goal

pub loop-span-preserved : goal.loop-span-preserved
loop-span-preserved c =
    let text = c.args.text.now in
    let word : List ℕ = word_of text c.in-Some.span in
    let h = c.in-Some-read_hint.hint in
    let new = c.next_word.new.line in
    let other : is_zero_word word ≡ false = ap is_zero_word (sym c.word-word.ensures) ∙ sym c.is_zero.ensures ∙ c.if-is_zero.false in
    let read : option_map hint_of (integer_said word) ≡ Some h = ap (λ (w : List ℕ). option_map hint_of (integer_said w)) (sym c.word-word.ensures) ∙ sym c.read_hint.ensures ∙ c.in-Some-read_hint.is in
    let said = hint_said (integer_said word) h read in
    let z = said.0 in
    let pushed : c.push.new.self ≡ record { lists = c.loop-span.hints.lists; rest = c.loop-span.hints.rest ++ held_of z ∷ [] } =
    c.in_ok-push.ensures.ok ∙ ap (λ (n : ℕ). record { lists = c.loop-span.hints.lists; rest = c.loop-span.hints.rest ++ n ∷ [] }) (c.held.ensures ∙ ap held_hint (sym said.2)) in
    let was = c.loop-span.invariant.read in
    record {
      within = c.next_word.ensures.within;
      number = c.next_word.ensures.number ∙ c.loop-span.invariant.number;
      read = (
        was.0 ++ z ∷ [],
        was.1 ∙ ap (λ ws. onto was.0 (said_to_zero integer_said ws)) c.in-Some.ensures.some
            ∙ ap (onto was.0) (said_more integer_said word (words_left text new.begin new.end) z other said.1)
            ∙ onto_onto was.0 (z ∷ []) (said_to_zero integer_said (words_left text new.begin new.end)),
        hints_more c.args.hints.now.lists c.args.hints.now.rest was.0 z c.loop-span.hints c.push.new.self was.2 pushed,
        below_more was.0 z h c.loop-span.below c.or_below-below.result said.2 was.3 c.or_below-below.ensures,
      );
    }
