-- The shape that a value of the program stands for.
use Rattle.std.specs.Prelude.{List, [], ◌∷◌}
use Rattle.shape_spec.specs.ShapeSeen.{ShapeSeen, Pair}
use Rattle.shape_spec.specs.ShapeSeen as seen
use Rattle.shape_spec.specs.declared.shape.Shape.{Shape}
use Rattle.shape_spec.specs.declared.shape.Shape.TheOpen.{Shape-F}
use Rattle.shape_spec.specs.declared.shape.Shape.TheOpen as open_shape
use Rattle.shape_spec.specs.declared.shape.Shape.TheFolds.{fold-Shape}

-- the first of the list goes innermost
abbrev pub pairs : List ShapeSeen → ShapeSeen → ShapeSeen
pairs [] t = t
pairs (s ∷ ss) t = pairs ss (Pair s t)

-- from what the parts stand for
abbrev pub step : Shape-F ShapeSeen → ShapeSeen
step (open_shape.Boolean i) = seen.Boolean i
step (open_shape.Integer is) = seen.Integer is.items
step (open_shape.Choice i x y) = seen.Choice i x.value y.value
step (open_shape.Constant x) = seen.Constant x
step (open_shape.List ss t) = pairs ss.items t.value

abbrev pub shape_of : Shape → ShapeSeen
shape_of = fold-Shape ShapeSeen step
