use Rattle.std.proofs.Common.{◌≡◌, ◌∙◌, ap, sym, ◌++◌, append_assoc, arith, ℕ, drop}
use Rattle.shape_spec.specs.ShapeOf.{shape_of}
use Rattle.shape_spec.specs.Indices.{indices_in}
use Rattle.shape_spec.specs.declared.shape.Shape.{Shape}
use Rattle.shape_spec.proofs.Pairs.{list_shape}
use Rattle.shape_spec.proofs.Conses.{front_indices, front_pairs}
use Rattle.std.proofs.lemmas.Grind.{common_steps}
use Rattle.shape_spec.proofs.shape.Shape.+add_indices.Goals as goal

pub returns-in_ok-add_indices-in-List-2 : goal.returns-in_ok-add_indices-in-List-2
returns-in_ok-add_indices-in-List-2 t c =
    let old = c.args.all.now.items in
    let front = front_indices c.in-List.elements.items in
    let zero : c.loop-left.left ≡ 0 = omega (arith, c.loop-left-test.false) in
    let so_far : c.loop-left.all.items ≡ old ++ front = c.loop-left.invariant.so_far ∙ ap (λ (k : ℕ). old ++ front_indices (drop k c.in-List.elements.items)) zero in
    let tail = ap (λ (s : Shape). indices_in (shape_of s)) c.deref-in-List.ensures in
    c.in_ok-add_indices-in-List-2.ensures
    ∙ ((λ k. so_far k ++ tail k)
    ∙ (append_assoc old front (indices_in (shape_of c.in-List.tail.value))
    ∙ ap (λ is. old ++ is) (sym (ap (λ (s : Shape). indices_in (shape_of s)) c.in-List.is ∙ (ap indices_in (list_shape c.in-List.elements c.in-List.tail) ∙ front_pairs c.in-List.elements.items (shape_of c.in-List.tail.value))))))

pub loop-left-preserved : goal.loop-left-preserved
loop-left-preserved t c = grind (arith, common_steps)
