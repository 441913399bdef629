-- A shape as its spine: the first parts of its conses from the first to the last, and the shape that ends them.
use Rattle.std.specs.Prelude.{ℕ, ◌+◌, Bool, false, List, [], ◌∷◌, map}
use Rattle.gl_logic.specs.ObjectEq.{is_nil}
use Rattle.shape_spec.specs.ShapeSeen.{ShapeSeen, Boolean, Integer, Choice, Constant, Pair}
use Rattle.shape_spec.specs.ShapeOf.{shape_of}
use Rattle.coverage.specs.declared.spine.End.{End}
use Rattle.coverage.specs.declared.spine.End.TheVariants as ended
use Rattle.coverage.specs.declared.spine.Spine.{Spine}

abbrev pub chain : List ShapeSeen → ShapeSeen → ShapeSeen
chain [] t = t
chain (s ∷ ss) t = Pair s (chain ss t)

abbrev pub end_of : End → ShapeSeen
end_of (ended.Boolean i) = Boolean i
end_of (ended.Integer is) = Integer is.now
end_of (ended.Constant x) = Constant x.now
end_of (ended.Choice i a b) = Choice i (shape_of a.now) (shape_of b.now)

abbrev pub elements_of : Spine → List ShapeSeen
elements_of s = map (λ e. shape_of e.now) s.elements.items

abbrev pub spine_of : Spine → ShapeSeen
spine_of s = chain (elements_of s) (end_of s.«end»)

abbrev pub is_nil_shape : ShapeSeen → Bool
is_nil_shape (Constant x) = is_nil x
is_nil_shape s = false

-- how many shapes stand in a shape, itself among them
abbrev pub size_in : ShapeSeen → ℕ
size_in (Choice i a b) = size_in a + size_in b + 1
size_in (Pair a d) = size_in a + size_in d + 1
size_in s = 1
