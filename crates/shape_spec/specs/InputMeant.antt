-- The input that an assignment gives to bindings, and the numbers of assignments.
-- An assignment gives a truth value to each number below the bindings' width: number k goes to the k-th smallest index.
use Rattle.std.specs.Prelude.{ℕ, zero, suc, ◌+◌, ◌/◌, ◌%◌, ◌^◌, Bool, cond, eqb, List, map}
use Rattle.gl_logic.specs.Object.{Object, Int, Cons, boolean_object}
use Rattle.gl_logic.specs.TwosComplement.{integer_of}
use Rattle.shape_spec.specs.ShapeSeen.{ShapeSeen, Boolean, Integer, Choice, Constant, Pair}
use Rattle.shape_spec.specs.Indices.{indices_of, rank_in}

-- a shape's object, where this says which indices are true
abbrev pub object_meant : (ℕ → Bool) → ShapeSeen → Object
object_meant holds (Boolean i) = boolean_object (holds i)
object_meant holds (Integer is) = Int (integer_of (map holds is))
object_meant holds (Choice i x y) = cond (holds i) (object_meant holds x) (object_meant holds y)
object_meant holds (Constant x) = x
object_meant holds (Pair x y) = Cons (object_meant holds x) (object_meant holds y)

-- which indices an assignment makes true: by an index's place among all of them in order
abbrev pub truth_in : List ℕ → (ℕ → Bool) → ℕ → Bool
truth_in all a i = a (rank_in all i)

abbrev pub truth_of : List (ℕ × ShapeSeen) → (ℕ → Bool) → ℕ → Bool
truth_of b a = truth_in (indices_of b) a

-- each variable with its object, in the order of the bindings
abbrev pub input_meant : List (ℕ × ShapeSeen) → (ℕ → Bool) → List (ℕ × Object)
input_meant b a = map (λ p. (p.0, object_meant (truth_of b a) p.1)) b

-- the number of an assignment of so many variables: 2 ^ k for each k that is true
abbrev pub number_of : ℕ → (ℕ → Bool) → ℕ
number_of zero a = 0
number_of (suc k) a = number_of k a + cond (a k) (2 ^ k) 0

-- the assignment of a number
abbrev pub assignment_numbered : ℕ → ℕ → Bool
assignment_numbered n k = eqb (n / 2 ^ k % 2) 1
