use Rattle.std.proofs.Common.{◌≡◌, ◌∙◌, ap, map, sym}
use Rattle.shape_spec.specs.ShapeOf.{shape_of, pairs}
use Rattle.shape_spec.proofs.Pairs.{list_shape}
use Rattle.coverage.proofs.Spined.{spine_more}
use Rattle.coverage.proofs.spine.spine_of.Goals as goal

pub loop-rest-preserved : goal.loop-rest-preserved
loop-rest-preserved c =
    let is : shape_of c.loop-rest.rest.now ≡ pairs (map shape_of c.as_slice.result.now) (shape_of c.deref-rest.result.now) =
    ap shape_of c.in-List.is ∙ (list_shape c.in-List.firsts c.in-List.tail ∙ (λ i. pairs (map shape_of (sym c.as_slice.ensures.value i)) (shape_of (sym c.deref-rest.ensures i)))) in
    spine_more (map (λ s. shape_of s.now) c.loop-rest.elements.items) (map (λ s. shape_of s.now) c.add_in_turn.new.all.items) (map shape_of c.as_slice.result.now) (shape_of c.deref-rest.result.now) (shape_of c.loop-rest.rest.now) (shape_of c.args.shape.now)
    c.in_ok-add_in_turn-in-List.ensures is c.loop-rest.invariant
