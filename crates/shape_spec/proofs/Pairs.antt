-- A list of at least one shape is no integer.
use Rattle.std.proofs.Common.{◌≡◌, ◌∙◌, ap, sym, refl, ◌<◌, map, length, List, [], ◌∷◌, Vec, Box, Global, None, arith}
use Rattle.std.proofs.lemmas.List.{length-map}
use Rattle.shape_spec.specs.ShapeSeen.{ShapeSeen, Pair}
use Rattle.shape_spec.specs.ShapeOf.{shape_of, step, pairs}
use Rattle.shape_spec.specs.Indices.{integer_in}
use Rattle.shape_spec.specs.declared.shape.Shape.{Shape}
use Rattle.shape_spec.specs.declared.shape.Shape.TheVariants.{rolls-List}
use Rattle.shape_spec.specs.declared.shape.Shape.TheViews as views
use Rattle.shape_spec.specs.declared.shape.Shape.TheOpen as open_shape
use Rattle.shape_spec.specs.declared.shape.Shape.TheFolds.{fold-roll-Shape}

pair_is_none : (ss : List ShapeSeen) (s t : ShapeSeen) → integer_in (pairs ss (Pair s t)) ≡ None
pair_is_none [] s t = refl
pair_is_none (u ∷ ss) s t = pair_is_none ss u (Pair s t)

pairs_are_none : (ss : List ShapeSeen) (t : ShapeSeen) → 0 < length ss → integer_in (pairs ss t) ≡ None
pairs_are_none [] t h = absurd (omega (arith, h))
pairs_are_none (s ∷ ss) t h = pair_is_none ss s t

pub list_shape : (ss : Vec Shape Global) (t : Box Shape Global) → shape_of (views.List ss t) ≡ pairs (map shape_of ss.items) (shape_of t.value)
list_shape ss t = ap shape_of (sym (rolls-List ss t)) ∙ fold-roll-Shape ShapeSeen step (open_shape.List ss t)

pub list_is_none : (s : Shape) (ss : Vec Shape Global) (t : Box Shape Global) → s ≡ views.List ss t → 0 < length ss.items → None ≡ integer_in (shape_of s)
list_is_none s ss t e h =
    sym (ap (λ u. integer_in (shape_of u)) e ∙ (ap integer_in (list_shape ss t) ∙ pairs_are_none (map shape_of ss.items) (shape_of t.value) (omega (arith, h, length-map ss.items shape_of))))
