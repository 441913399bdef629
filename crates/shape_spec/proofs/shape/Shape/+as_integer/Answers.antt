use Rattle.std.proofs.Common.{◌<◌, length, rules}
use Rattle.shape_spec.proofs.Pairs.{list_is_none}
use Rattle.shape_spec.proofs.shape.Shape.+as_integer.Goals as goal

pub returns-else-is_empty : goal.returns-else-is_empty
returns-else-is_empty t c =
    let some : 0 < length c.in-List.elements.items = search rules in
    list_is_none c.args.self.now c.in-List.elements c.in-List.tail c.in-List.is some
