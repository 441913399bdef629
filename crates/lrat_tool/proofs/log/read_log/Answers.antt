use Rattle.std.proofs.Common.{◌∙◌, ap, sym, subst, ℕ, List, [], ◌+◌, ◌-◌, take, drop, Err, arith}
use Rattle.lrat_tool.specs.Held.{LineRead, last_id}
use Rattle.lrat_tool.specs.Logs.{entries_from}
use Rattle.lrat_tool.specs.Words.{lines_behind}
use Rattle.lrat_tool.proofs.LogLines.{behind, behind_is, behind_nil, first_lines, line_bad, line_done, line_reached, lines_from, meant_here}
use Rattle.lrat_tool.proofs.log.read_log.Goals as goal

pub loop-at-init : goal.loop-at-init
loop-at-init c =
    let text = c.args.text.now in
    let first = c.args.first in
    let held = c.in-Ok.ensures first in
    record {
      at = omega arith;
      number = omega arith;
      read = ([], held, (λ i. entries_from 1 (sym (first_lines text) i) (sym (ap (last_id first) held.ids) i)) ∙ sym (behind_nil (entries_from 1 (lines_from text 0) (last_id first c.in-Ok.log.ids.items))));
    }

pub returns-then-not-fine-clause-bad : goal.returns-then-not-fine-clause-bad
returns-then-not-fine-clause-bad c =
    let text = c.args.text.now in
    let first = c.args.first in
    let at = c.loop-at.at in
    let number = c.loop-at.number in
    let last = last_id first c.loop-at.log.ids.items in
    let line = c.line_at-line.result in
    let was = c.loop-at.invariant.read in
    let l = take (line.end - at) (drop at text) in
    let reached = line_reached text number last at was.0 line l c.loop-at-test.true c.line_at-line.ensures.lines c.line_at-line.ensures.words c.line_at-line.ensures.number in
    let meant = meant_here text number last at was.0 line l c.loop-at-test.true c.line_at-line.ensures.lines c.line_at-line.ensures.words c.line_at-line.ensures.number in
    let read = subst (LineRead first was.0 c.read_line.new.log meant) c.if-not-fine.true (c.in-Ok-read_line.ensures was.0 was.1) in
    was.2 ∙ reached ∙ line_bad first number last was.0 c.read_line.new.log (lines_behind text line.end) meant read ∙ ap (λ (n : ℕ). Err n) (sym c.line_at-line.ensures.number)

pub loop-at-preserved : goal.loop-at-preserved
loop-at-preserved c =
    let text = c.args.text.now in
    let first = c.args.first in
    let at = c.loop-at.at in
    let number = c.loop-at.number in
    let last = last_id first c.loop-at.log.ids.items in
    let line = c.line_at-line.result in
    let new = c.read_line.new.log in
    let was = c.loop-at.invariant.read in
    let l = take (line.end - at) (drop at text) in
    let reached = line_reached text number last at was.0 line l c.loop-at-test.true c.line_at-line.ensures.lines c.line_at-line.ensures.words c.line_at-line.ensures.number in
    let meant = meant_here text number last at was.0 line l c.loop-at-test.true c.line_at-line.ensures.lines c.line_at-line.ensures.words c.line_at-line.ensures.number in
    let read = subst (LineRead first was.0 new meant) c.if-not-fine.false (c.in-Ok-read_line.ensures was.0 was.1) in
    let done = line_done first number last was.0 new (lines_behind text line.end) meant (ap (last_id first) was.1.ids) read in
    record {
      at = omega (arith, c.line_at-line.ensures.within.1);
      number = omega (arith, c.loop-at.invariant.number, c.line_at-line.ensures.after, c.line_at-line.ensures.within.0);
      read = (done.0, done.1, was.2 ∙ reached ∙ done.2 ∙ ap (λ (ls : List (List ℕ)). behind done.0 (entries_from (number + 1) ls (last_id first new.ids.items))) (behind_is text line.end));
    }
