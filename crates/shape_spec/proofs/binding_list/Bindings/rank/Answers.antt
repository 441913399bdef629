use Rattle.std.proofs.Common.{◌∙◌, ap, arith, subst, List, ℕ, length, ◌≤◌}
use Rattle.shape_spec.specs.ShapeSeen.{ShapeSeen}
use Rattle.shape_spec.specs.Indices.{indices_of, rank_in}
use Rattle.shape_spec.proofs.Bound.{ranks_sorted, width_sorted}
use Rattle.shape_spec.proofs.binding_list.Bindings.rank.Goals as goal

pub overflow_cast-result : goal.overflow_cast-result
overflow_cast-result c =
    let within : c.rank.result ≤ length c.self.inside.sorted.items = subst (λ (xs : List ℕ). c.rank.result ≤ length xs) c.as_slice.ensures.value c.rank.ensures.within in
    let width = width_sorted c.self.inside.items.items c.self.inside.sorted.items c.self.invariant in
    omega (arith, within, width, c.self.invariant.proper.few)

pub returns : goal.returns
returns c =
    c.rank.ensures.rank ∙ (ap (λ (xs : List ℕ). rank_in xs c.args.index) c.as_slice.ensures.value
    ∙ (ranks_sorted c.self.inside.items.items c.self.inside.sorted.items c.self.invariant c.args.index ∙ ap (λ (b : List (ℕ × ShapeSeen)). rank_in (indices_of b) c.args.index) c.self.view_is))
