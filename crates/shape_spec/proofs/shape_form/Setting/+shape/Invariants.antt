use Rattle.std.proofs.Common.{◌≡◌, ◌*◌, ◌+◌, drop, map, length}
use Rattle.gl_logic.specs.Lists.{size_of, conses}
use denote.Param.Weighed.{most}
use Rattle.shape_spec.specs.ShapeOf.{shape_of, pairs}
use Rattle.shape_spec.specs.Indices.{indices_in}
use Rattle.shape_spec.specs.Gives.{taken, before_meant}
use Rattle.shape_spec.proofs.Fits.{IsFit}
use Rattle.shape_spec.proofs.shape_form.Setting.+shape.Given as goal

abbrev pub decreases-shape : goal.decreases-shape
decreases-shape l = 4 * size_of l.form.now + 3

abbrev pub decreases-listed : goal.decreases-listed
decreases-listed l = 4 * size_of (conses l.elements.now l.tail.now) + 2

abbrev pub decreases-base : goal.decreases-base
decreases-base l = 4 * size_of (conses l.elements.now l.tail.now) + 1

abbrev pub decreases-choice : goal.decreases-choice
decreases-choice l = 4 * size_of (conses l.rest.now l.tail.now)

abbrev pub decreases-before : goal.decreases-before
decreases-before l = 4 * most (λ y. size_of y + 1) l.elements.now

abbrev pub invariant-before-loop-element : goal.invariant-before-loop-element
invariant-before-loop-element l =
    let whole = l.fn.left + length (indices_in (shape_of l.fn.base.value)) in
    let so_far = pairs (map shape_of l.shapes.items) (shape_of l.fn.base.value) in
    record {
      same : taken whole (before_meant l.self.texts.now l.self.quasi (drop l.element-index l.elements) so_far) ≡ taken whole (before_meant l.self.texts.now l.self.quasi l.elements (shape_of l.fn.base.value));
      fit : IsFit whole so_far;
      kept : shape_of l.base.value ≡ shape_of l.fn.base.value;
      behind : l.left + length (indices_in so_far) ≡ whole;
    }
