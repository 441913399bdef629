use Rattle.std.proofs.Common.{◌≡◌, ◌∙◌, ◌-◌, ◌&&◌, ap, map, drop, length, arith}
use Rattle.std.specs.List.{list_any}
use Rattle.coverage.specs.Subjects.{behind}
use Rattle.coverage.specs.Rows.{is_consp}
use Rattle.coverage.specs.Dealt.{terms_in}
use Rattle.coverage.proofs.Dealing.{car_dealt, element_dealt, the_same_parts}
use Rattle.gl_logic.specs.TermOf.{term_of}
use Rattle.shape_spec.specs.ShapeOf.{shape_of}
use Rattle.coverage.specs.Covered.{are_covered}
use Rattle.coverage.specs.Heads.{subject_of}
use Rattle.coverage.specs.Spines.{chain, end_of, elements_of}
use Rattle.coverage.proofs.Spined.{some_size, end_size, element_smaller, ok_mapped, by_parts_true, by_parts_false, element_missed, element_met, list_unended, list_unstated, list_met, one_behind_less, choice_by_cases}
use Rattle.coverage.proofs.shapes.+covered.Goals as goal
use Rattle.coverage.proofs.shapes.+covered.Goals.{is_list_covered-then-not-ends_a_list-via-then-not-ends_a_list, is_list_covered-then-not-ends_a_list-via-else-not-ends_a_list+then-not-has_length}

pub is_cons_covered-is_covered_by_parts-requires :
    goal.is_cons_covered-is_covered_by_parts-requires
is_cons_covered-is_covered_by_parts-requires t c =
    let s = element_smaller c.args.spine.now.elements.items c.args.spine.now.«end» c.args.place c.index.result.now c.requires.place c.index.ensures in
    (omega (arith, s, c.decreases), tt)

pub is_cons_covered-returns-then-branch : goal.is_cons_covered-returns-then-branch
is_cons_covered-returns-then-branch t c =
    let S = behind c.args.place (subject_of c.args.subject.now) in
    by_parts_true (terms_in c.args.said.now) S c.args.spine.now.elements.items c.args.spine.now.«end» c.args.place c.index.result.now c.requires.place c.index.ensures
    c.args.rest_covered c.in_ok-is_covered_by_parts.field-0 c.requires.rest
    (c.in_ok-is_covered_by_parts.ensures
    ∙ ap (λ b. list_any (is_consp S) (terms_in c.args.said.now) && (b && c.args.rest_covered))
    (car_dealt c.args.subject.now (length c.args.spine.now.elements.items) (terms_in c.args.said.now) c.args.parts.now c.requires.parts c.args.place c.requires.place c.index-parts-place.result c.as_slice.result.now c.index-parts-place.is c.as_slice.ensures.value (shape_of c.index.result.now.now)))
    c.if-branch.true

pub is_cons_covered-returns : goal.is_cons_covered-returns
is_cons_covered-returns t c =
    let S = behind c.args.place (subject_of c.args.subject.now) in
    ok_mapped c.is_list_covered.result (λ q l.
    by_parts_false (terms_in c.args.said.now) S c.args.spine.now.elements.items c.args.spine.now.«end» c.args.place c.index.result.now c.requires.place c.index.ensures
    c.args.rest_covered c.in_ok-is_covered_by_parts.field-0 q c.requires.rest
    (c.in_ok-is_covered_by_parts.ensures
    ∙ ap (λ b. list_any (is_consp S) (terms_in c.args.said.now) && (b && c.args.rest_covered))
    (car_dealt c.args.subject.now (length c.args.spine.now.elements.items) (terms_in c.args.said.now) c.args.parts.now c.requires.parts c.args.place c.requires.place c.index-parts-place.result c.as_slice.result.now c.index-parts-place.is c.as_slice.ensures.value (shape_of c.index.result.now.now)))
    c.if-branch.false l) c.is_list_covered.ensures

pub is_either_covered-is_covered-requires : goal.is_either_covered-is_covered-requires
is_either_covered-is_covered-requires t c =
    let s = some_size (shape_of c.args.second.now) in
    (omega (arith, s, c.decreases), tt)

pub is_end_covered-returns-else-branch : goal.is_end_covered-returns-else-branch
is_end_covered-returns-else-branch t c =
    ok_mapped c.is_covered_by_cases.result (λ q l.
    choice_by_cases (map (λ t. term_of t.now) c.args.said.now) (subject_of c.args.subject.now) c.args.«end».now c.in-Choice.field-0 c.in-Choice.first c.in-Choice.second c.in_ok-is_either_covered-in-Choice.field-0 q
    c.in-Choice.is c.in_ok-is_either_covered-in-Choice.ensures c.if-branch.false l) c.is_covered_by_cases.ensures

pub is_list_covered-returns-then-not-ends_a_list :
    goal.is_list_covered-returns-then-not-ends_a_list
is_list_covered-returns-then-not-ends_a_list t c = elim c.then-not-ends_a_list.branch [
  | is_list_covered-then-not-ends_a_list-via-then-not-ends_a_list w ↦
      list_unended (terms_in c.args.said.now) (behind c.args.place (subject_of c.args.subject.now)) c.args.spine.now.elements.items c.args.spine.now.«end» c.args.place _ w.if-not-ends_a_list.ensures
  | is_list_covered-then-not-ends_a_list-via-else-not-ends_a_list+then-not-has_length w ↦
      list_unstated (terms_in c.args.said.now) (behind c.args.place (subject_of c.args.subject.now)) c.args.spine.now.elements.items c.args.spine.now.«end» c.args.place w.len.result w.has_length.result (omega (arith, w.len.ensures)) w.if-not-has_length.ensures
]

pub is_list_covered-loop-i-init : goal.is_list_covered-loop-i-init
is_list_covered-loop-i-init t c =
    let z : c.args.place - c.args.place ≡ 0 = omega arith in
    ap (λ j. are_covered (terms_in c.args.said.now) (behind c.args.place (subject_of c.args.subject.now)) j (chain (drop c.args.place (elements_of c.args.spine.now)) (end_of c.args.spine.now.«end»))) z

pub is_list_covered-is_covered-requires : goal.is_list_covered-is_covered-requires
is_list_covered-is_covered-requires t c =
    let h = c.loop-i-test.true in
    let s = element_smaller c.args.spine.now.elements.items c.args.spine.now.«end» c.loop-i.i c.index.result.now (omega (arith, h, c.len-i-end.ensures)) c.index.ensures in
    (omega (arith, s, c.decreases), tt)

pub is_list_covered-returns-then-not-branch : goal.is_list_covered-returns-then-not-branch
is_list_covered-returns-then-not-branch t c =
    element_missed (terms_in c.args.said.now) (behind c.args.place (subject_of c.args.subject.now)) c.args.spine.now.elements.items c.args.spine.now.«end» c.loop-i.i c.index.result.now (omega (arith, c.loop-i-test.true, c.len-i-end.ensures)) c.index.ensures
    c.args.place (omega arith) _ c.in_ok-is_covered.field-0 _ c.loop-i.invariant (c.in_ok-is_covered.ensures ∙ element_dealt c.args.subject.now (length c.args.spine.now.elements.items) (terms_in c.args.said.now) c.args.parts.now c.requires.parts c.loop-i.i (omega (arith, c.loop-i-test.true, c.len-i-end.ensures)) c.index-parts-i.result c.as_slice.result.now c.index-parts-i.is c.as_slice.ensures.value c.args.place (c.loop-i.i - c.args.place) (shape_of c.index.result.now.now) (omega arith)) c.if-not-branch.true

pub is_list_covered-loop-i-preserved : goal.is_list_covered-loop-i-preserved
is_list_covered-loop-i-preserved t c =
    element_met (terms_in c.args.said.now) (behind c.args.place (subject_of c.args.subject.now)) c.args.spine.now.elements.items c.args.spine.now.«end» c.loop-i.i c.index.result.now (omega (arith, c.loop-i-test.true, c.len-i-end.ensures)) c.index.ensures
    c.args.place (omega arith) _ c.in_ok-is_covered.field-0 c.loop-i.invariant (c.in_ok-is_covered.ensures ∙ element_dealt c.args.subject.now (length c.args.spine.now.elements.items) (terms_in c.args.said.now) c.args.parts.now c.requires.parts c.loop-i.i (omega (arith, c.loop-i-test.true, c.len-i-end.ensures)) c.index-parts-i.result c.as_slice.result.now c.index-parts-i.is c.as_slice.ensures.value c.args.place (c.loop-i.i - c.args.place) (shape_of c.index.result.now.now) (omega arith)) c.if-not-branch.false

pub is_list_covered-returns : goal.is_list_covered-returns
is_list_covered-returns t c =
    list_met (terms_in c.args.said.now) (behind c.args.place (subject_of c.args.subject.now)) c.args.spine.now.elements.items c.args.spine.now.«end» c.args.place c.len.result c.loop-i.i (omega (arith, c.len.ensures)) (omega (arith, c.loop-i-test.false, c.len-i-end.ensures))
    c.if-not-ends_a_list.ensures c.if-not-has_length.ensures c.loop-i.invariant

pub is_spine_covered-is_end_covered-requires : goal.is_spine_covered-is_end_covered-requires
is_spine_covered-is_end_covered-requires t c =
    let s = end_size (elements_of c.args.spine.now) (end_of c.args.spine.now.«end») in
    (omega (arith, s, c.decreases), tt)

pub is_spine_covered-is_cons_covered-requires : goal.is_spine_covered-is_cons_covered-requires
is_spine_covered-is_cons_covered-requires t c = (
  omega (arith, c.decreases),
  (
    omega arith,
    (
      one_behind_less (terms_in c.args.said.now) (subject_of c.args.subject.now) (elements_of c.args.spine.now) (end_of c.args.spine.now.«end») c.loop-left.left c.loop-left.covered c.loop-left-test.true c.loop-left.invariant.rest,
      the_same_parts c.len-left.result (length c.args.spine.now.elements.items) (subject_of c.args.subject.now) (terms_in c.args.said.now) c.as_slice.result.now c.in_ok-parts.parts.items (omega (arith, c.len-left.ensures)) c.as_slice.ensures.value c.in_ok-parts.ensures,
    ),
  ),
)
