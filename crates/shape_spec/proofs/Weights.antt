-- How large a shape is, so that each of its parts is smaller.
use Rattle.std.proofs.Common.{◌≡◌, ◌∙◌, ap, sym, ℕ, zero, suc, ◌+◌, ◌<◌, ◌≤◌, List, [], ◌∷◌, map, length, get_or, Vec, Box, Global, arith}
use Rattle.shape_spec.specs.declared.shape.Shape.{Shape}
use Rattle.shape_spec.specs.declared.shape.Shape.TheVariants.{rolls-List, rolls-Choice}
use Rattle.shape_spec.specs.declared.shape.Shape.TheViews as views
use Rattle.shape_spec.specs.declared.shape.Shape.TheOpen.{Shape-F}
use Rattle.shape_spec.specs.declared.shape.Shape.TheOpen as open_shape
use Rattle.shape_spec.specs.declared.shape.Shape.TheFolds.{fold-Shape, fold-roll-Shape}
use Rattle.shape_spec.specs.ShapeSeen.{ShapeSeen, Choice}
use Rattle.shape_spec.specs.ShapeOf.{shape_of, step}

abbrev total : List ℕ → ℕ
total [] = 0
total (n ∷ ns) = n + total ns

abbrev weigh : Shape-F ℕ → ℕ
weigh (open_shape.Boolean i) = 0
weigh (open_shape.Integer is) = 0
weigh (open_shape.Choice i x y) = x.value + y.value + 1
weigh (open_shape.Constant x) = 0
weigh (open_shape.List ss t) = total ss.items + t.value + 1

abbrev pub weight : Shape → ℕ
weight = fold-Shape ℕ weigh

choice_weight : (i : ℕ) (x y : Box Shape Global) → weight (views.Choice i x y) ≡ weight x.value + weight y.value + 1
choice_weight i x y = ap weight (sym (rolls-Choice i x y)) ∙ fold-roll-Shape ℕ weigh (open_shape.Choice i x y)

list_weight : (ss : Vec Shape Global) (t : Box Shape Global) → weight (views.List ss t) ≡ total (map weight ss.items) + weight t.value + 1
list_weight ss t = ap weight (sym (rolls-List ss t)) ∙ fold-roll-Shape ℕ weigh (open_shape.List ss t)

pub first_lighter : (s : Shape) (i : ℕ) (x y : Box Shape Global) → s ≡ views.Choice i x y → weight x.value < weight s
first_lighter s i x y e = omega (arith, ap weight e, choice_weight i x y)

pub second_lighter : (s : Shape) (i : ℕ) (x y : Box Shape Global) → s ≡ views.Choice i x y → weight y.value < weight s
second_lighter s i x y e = omega (arith, ap weight e, choice_weight i x y)

pub tail_lighter : (s : Shape) (ss : Vec Shape Global) (t : Box Shape Global) → s ≡ views.List ss t → weight t.value < weight s
tail_lighter s ss t e = omega (arith, ap weight e, list_weight ss t)

element_light : (ss : List Shape) (k : ℕ) (u : Shape) → k < length ss → u ≡ get_or ss k u → weight u ≤ total (map weight ss)
element_light [] k u h at = absurd (omega (arith, h))
element_light (s ∷ ss) zero u h at = omega (arith, ap weight at)
element_light (s ∷ ss) (suc k) u h at = omega (arith, element_light ss k u (omega (arith, h)) at)

pub element_lighter : (s : Shape) (ss : Vec Shape Global) (t : Box Shape Global) (k : ℕ) (u : Shape) → s ≡ views.List ss t → k < length ss.items → u ≡ get_or ss.items k u → weight u < weight s
element_lighter s ss t k u e h at = omega (arith, ap weight e, list_weight ss t, element_light ss.items k u h at)

pub choice_shape : (i : ℕ) (x y : Box Shape Global) → shape_of (views.Choice i x y) ≡ Choice i (shape_of x.value) (shape_of y.value)
choice_shape i x y = ap shape_of (sym (rolls-Choice i x y)) ∙ fold-roll-Shape ShapeSeen step (open_shape.Choice i x y)
