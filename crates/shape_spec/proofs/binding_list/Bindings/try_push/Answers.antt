use Rattle.std.proofs.Common.{subst, List, ℕ, ◌++◌, [], true}
use Rattle.shape_spec.specs.ShapeOf.{shape_of}
use Rattle.shape_spec.specs.Indices.{indices_in, AreApart}
use Rattle.shape_spec.specs.Order.{Joins}
use Rattle.shape_spec.proofs.Bound.{in_order_push, joins_never}
use Rattle.shape_spec.proofs.binding_list.Bindings.try_push.Goals as goal

pub returns-in-Ok-None-clause-ok : goal.returns-in-Ok-None-clause-ok
returns-in-Ok-None-clause-ok c =
    let is = indices_in (shape_of c.args.shape) in
    let never = rw c.in-Ok-None.field-0-is at c.in-Ok-None.ensures in
    let apart = subst (λ (xs : List ℕ). AreApart (xs ++ is) → ⊥) c.as_slice.ensures.value never in
    joins_never c.self.inside.items.items c.self.inside.sorted.items c.self.invariant is [] (shape_of c.args.shape) c.args.self.now c.self.view_is (λ i. is) apart

pub invariant_of-self-2 : goal.invariant_of-self-2
invariant_of-self-2 c =
    let is = indices_in (shape_of c.args.shape) in
    let all = rw c.in-Ok-Some.field-0-is at c.in-Ok-Some.ensures in
    let joined = subst (λ (xs : List ℕ). Joins true xs is c.in-Ok-Some.sorted.items) c.as_slice.ensures.value all in
    in_order_push c.self.inside.items.items c.self.inside.sorted.items c.self.invariant c.push.new.self.items (record { variable = c.args.variable; shape = c.args.shape }) c.args.self.now
    is c.in-Ok-Some.sorted.items c.self.view_is c.in_ok-push.ensures.items (λ i. is) joined c.requires.variable c.requires.shape c.requires.below c.requires.few
