use Rattle.std.proofs.Common.{◌≡◌, ◌∙◌, ap, arith, length}
use Rattle.std.specs.Prelude.{vec_len}
use Rattle.shape_spec.specs.Indices.{width_of}
use Rattle.shape_spec.proofs.Bound.{width_sorted}
use Rattle.shape_spec.proofs.binding_list.bit_count.Goals as goal

pub overflow_cast-result : goal.overflow_cast-result
overflow_cast-result c =
    let width = width_sorted c.b.inside.items.items c.b.inside.sorted.items c.b.invariant in
    let long : vec_len c.b.inside.sorted ≡ length c.b.inside.sorted.items = c.b.inside.sorted.ok.0 in
    omega (arith, c.len.ensures, long, width, c.b.invariant.proper.few)

pub returns-clause-count : goal.returns-clause-count
returns-clause-count c =
    let long : vec_len c.b.inside.sorted ≡ length c.b.inside.sorted.items = c.b.inside.sorted.ok.0 in
    c.len.ensures ∙ (long ∙ (width_sorted c.b.inside.items.items c.b.inside.sorted.items c.b.invariant ∙ ap width_of c.b.view_is))
