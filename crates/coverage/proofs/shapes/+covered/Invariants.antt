use Rattle.std.proofs.Common.{◌≡◌, ◌≤◌, ◌+◌, ◌-◌, ◌*◌, drop, map, length}
use Rattle.std.specs.List.{list_any}
use Rattle.gl_logic.specs.TermOf.{term_of}
use Rattle.shape_spec.specs.ShapeOf.{shape_of}
use Rattle.coverage.specs.Subjects.{behind}
use Rattle.coverage.specs.Covered.{is_covered, are_covered, by_cases, is_either_with}
use Rattle.coverage.specs.Heads.{subject_of}
use Rattle.coverage.specs.Spines.{chain, end_of, elements_of, spine_of, size_in}
use Rattle.coverage.proofs.shapes.+covered.Given as goal

abbrev pub decreases-is_covered : goal.decreases-is_covered
decreases-is_covered l = 8 * size_in (shape_of l.shape.now) + 7

abbrev pub decreases-is_spine_covered : goal.decreases-is_spine_covered
decreases-is_spine_covered l = 8 * size_in (spine_of l.spine.now) + 5

abbrev pub decreases-is_cons_covered : goal.decreases-is_cons_covered
decreases-is_cons_covered l = 8 * size_in (spine_of l.spine.now) + 4

abbrev pub decreases-is_list_covered : goal.decreases-is_list_covered
decreases-is_list_covered l = 8 * size_in (spine_of l.spine.now) + 3

abbrev pub decreases-is_covered_by_parts : goal.decreases-is_covered_by_parts
decreases-is_covered_by_parts l = 8 * size_in (shape_of l.first.now) + 8

abbrev pub decreases-is_end_covered : goal.decreases-is_end_covered
decreases-is_end_covered l = 8 * size_in (end_of l.«end».now) + 4

abbrev pub decreases-is_either_covered : goal.decreases-is_either_covered
decreases-is_either_covered l = 8 * (size_in (shape_of l.first.now) + size_in (shape_of l.second.now))

abbrev pub decreases-is_covered_with : goal.decreases-is_covered_with
decreases-is_covered_with l = 8 * (size_in (shape_of l.first.now) + size_in (shape_of l.second.now)) + 1

abbrev pub decreases-is_case_covered : goal.decreases-is_case_covered
decreases-is_case_covered l = 8 * (size_in (shape_of l.first.now) + size_in (shape_of l.second.now)) + 2

abbrev pub decreases-is_covered_by_cases : goal.decreases-is_covered_by_cases
decreases-is_covered_by_cases l = 8 * (size_in (shape_of l.first.now) + size_in (shape_of l.second.now)) + 3

abbrev pub invariant-is_spine_covered-loop-left : goal.invariant-is_spine_covered-loop-left
invariant-is_spine_covered-loop-left l = record {
  within : l.left ≤ length l.spine.elements.items;
  rest : l.covered ≡ is_covered (map (λ t. term_of t.now) l.said) (behind l.left (subject_of l.subject)) (chain (drop l.left (elements_of l.spine)) (end_of l.spine.«end»));
}

abbrev pub decreases-is_spine_covered-loop-left : goal.decreases-is_spine_covered-loop-left
decreases-is_spine_covered-loop-left l = l.left

abbrev pub invariant-is_list_covered-loop-i : goal.invariant-is_list_covered-loop-i
invariant-is_list_covered-loop-i l =
    are_covered (map (λ t. term_of t.now) l.said) (behind l.place (subject_of l.subject)) (l.i - l.place) (chain (drop l.i (elements_of l.spine)) (end_of l.spine.«end»))
    ≡ are_covered (map (λ t. term_of t.now) l.said) (behind l.place (subject_of l.subject)) 0 (chain (drop l.place (elements_of l.spine)) (end_of l.spine.«end»))

abbrev pub invariant-is_covered_by_cases-loop-term : goal.invariant-is_covered_by_cases-loop-term
invariant-is_covered_by_cases-loop-term l =
    list_any (by_cases (is_either_with (map (λ t. term_of t.now) l.said) (subject_of l.subject) (shape_of l.first) (shape_of l.second))) (map (λ t. term_of t.now) (drop l.term-index l.said))
    ≡ list_any (by_cases (is_either_with (map (λ t. term_of t.now) l.said) (subject_of l.subject) (shape_of l.first) (shape_of l.second))) (map (λ t. term_of t.now) l.said)
