use Rattle.std.proofs.Common.{◌≡◌, ◌∙◌, subst, refl, ℕ}
use Rattle.lrat_tool.specs.Held.{HasEntry, HintsRead, LiteralsRead}
use Rattle.lrat_tool.specs.Logs.{LogEntry}
use Rattle.lrat_tool.specs.Places.{word_of}
use Rattle.lrat_tool.specs.Words.{words_left}
use Rattle.lrat_tool.specs.declared.log.Log.{Log}
use Rattle.lrat_tool.proofs.Entries.{no_hints, no_literals, one_entry, word_behind}
use Rattle.lrat_tool.proofs.Held.{bad_line, entry_line, held_more}
use Rattle.lrat_tool.proofs.log.read_entry.Goals as goal

pub returns-then-not-branch : goal.returns-then-not-branch
returns-then-not-branch c =
    let words = words_left c.args.text.now c.args.line.begin c.args.line.end in
    let left = words_left c.args.text.now c.read_literals.new.line.begin c.read_literals.new.line.end in
    let literals = subst (LiteralsRead c.args.log.now.clauses c.read_literals.new.clauses words left) c.if-not-branch.true c.in_ok-read_literals.ensures.read in
    λ es h. bad_line c.args.first es _ _ (no_literals c.args.line.number c.args.id words literals)

pub returns-in_default : goal.returns-in_default
returns-in_default c =
    let words = words_left c.args.text.now c.args.line.begin c.args.line.end in
    let left = words_left c.args.text.now c.read_literals.new.line.begin c.read_literals.new.line.end in
    let rest = words_left c.args.text.now c.read_hints.new.line.begin c.read_hints.new.line.end in
    let literals = subst (LiteralsRead c.args.log.now.clauses c.read_literals.new.clauses words left) c.if-not-branch.false c.in_ok-read_literals.ensures.read in
    let hints = subst (HintsRead c.args.log.now.hints c.read_hints.new.hints left rest) c.in_default.is c.in_ok-below.ensures.read in
    λ es h. bad_line c.args.first es _ _ (no_hints c.args.line.number c.args.id words literals.0 left literals.1 hints)

pub returns-in-Some-next_word : goal.returns-in-Some-next_word
returns-in-Some-next_word c =
    let text = c.args.text.now in
    let words = words_left text c.args.line.begin c.args.line.end in
    let left = words_left text c.read_literals.new.line.begin c.read_literals.new.line.end in
    let rest = words_left text c.read_hints.new.line.begin c.read_hints.new.line.end in
    let more = words_left text c.next_word.new.line.begin c.next_word.new.line.end in
    let literals = subst (LiteralsRead c.args.log.now.clauses c.read_literals.new.clauses words left) c.if-not-branch.false c.in_ok-read_literals.ensures.read in
    let hints = subst (HintsRead c.args.log.now.hints c.read_hints.new.hints left rest) c.in-Some.is c.in_ok-below.ensures.read in
    λ es h. bad_line c.args.first es _ _ (word_behind c.args.line.number c.args.id words literals.0 left literals.1 hints.0 rest (word_of text c.in-Some-next_word.field-0) more hints.1 c.in-Some-next_word.ensures.some)

pub returns : goal.returns
returns c =
    let text = c.args.text.now in
    let first = c.args.first in
    let log = c.args.log.now in
    let words = words_left text c.args.line.begin c.args.line.end in
    let left = words_left text c.read_literals.new.line.begin c.read_literals.new.line.end in
    let rest = words_left text c.read_hints.new.line.begin c.read_hints.new.line.end in
    let literals = subst (LiteralsRead log.clauses c.read_literals.new.clauses words left) c.if-not-branch.false c.in_ok-read_literals.ensures.read in
    let hints = subst (HintsRead log.hints c.read_hints.new.hints left rest) c.in-Some.is c.in_ok-below.ensures.read in
    let mid : Log = record { clauses = c.read_literals.new.clauses; hints = c.read_hints.new.hints; ids = log.ids; lines = log.lines; rats = log.rats } in
    let e : LogEntry = record { line = c.args.line.number; id = c.args.id; clause = literals.0; hints = hints.0 } in
    let number : c.next_word.new.line.number ≡ c.args.line.number = c.next_word.ensures.number ∙ c.read_hints.ensures.number ∙ c.read_literals.ensures.number in
    let ended = subst (λ (n : ℕ). HasEntry mid c.args.id n c.in-Some.below c.end_entry.new.log) number c.in_ok-end_entry.ensures in
    λ es h. entry_line first es c.end_entry.new.log _ e (one_entry c.args.line.number c.args.id words literals.0 left literals.1 hints.0 rest hints.1 c.in_default-next_word.ensures.none)
    (held_more first es log mid c.end_entry.new.log e c.in-Some.below h c.requires.later c.ranges.id.fits literals.2 hints.2 refl refl refl hints.3 ended)
