use Rattle.std.proofs.Common.{ap, ◌<◌, length, ℕ, Option, rules}
use Rattle.std.specs.Option.{option_map}
use Rattle.shape_spec.specs.ShapeSeen.{Boolean}
use Rattle.shape_spec.specs.Gives.{taken}
use Rattle.shape_spec.proofs.ShapeSteps.{index_cons}
use Rattle.shape_spec.proofs.shape_form.Setting.boolean_form.Goals as goal

pub returns-then-not-is_empty : goal.returns-then-not-is_empty
returns-then-not-is_empty c =
    let some : 0 < length c.args.rest.now = search rules in
    ap (λ (o : Option ℕ). taken c.args.left (option_map Boolean o)) (index_cons c.args.rest.now c.args.tail.now some)
