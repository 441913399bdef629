use Rattle.std.proofs.Common.{◌≡◌, length, map}
use Rattle.std.specs.Vec.Iter.{into_iter_items, into_iter_len}
use Rattle.gl_logic.specs.Wording.{all_meant}
use Rattle.event_world.specs.FormsSeen.{case_form_seen}
use Rattle.event_world.specs.CasesMeant.{case_bound}
use Rattle.event_world.proofs.Cursors.{behind}
use Rattle.event_world.proofs.cases.all_bound.Given as goal

abbrev pub invariant-loop-case : goal.invariant-loop-case
invariant-loop-case l = record {
  counted : into_iter_len l.case-iterator ≡ length (into_iter_items l.case-iterator);
  left : behind l.all (all_meant (case_bound l.texts l.mark) (map case_form_seen (into_iter_items l.case-iterator))) ≡ all_meant (case_bound l.texts l.mark) (map case_form_seen l.fn.cases.items);
}
