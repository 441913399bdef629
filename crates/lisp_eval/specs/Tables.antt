-- The functions that tables of lists answer.
use Rattle.std.specs.Prelude.{ℕ, List, [], ◌∷◌, length, cond, eqb, ◌||◌, ltb}
use Rattle.gl_logic.specs.Definition.{Definition}
use Rattle.gl_logic.specs.Object.{Object}
use Rattle.fast_alists.specs.Alists.{first_pair, forked, with_key}
use Rattle.fast_alists.specs.Values.{pair_or_nil}
use Rattle.hons_arena.specs.declared.id.Id.{Id}
use Rattle.hons_arena.specs.Ids.{object_at}
use Rattle.lisp_eval.specs.Bindings.{id_or_nil}

-- hons-acons, make-fast-alist, fast-alist-free, hons-assoc-equal, hons-get and fast-alist-fork, by their numbers
abbrev pub table_functions : List ℕ
table_functions = 37 ∷ 38 ∷ 39 ∷ 40 ∷ 41 ∷ 42 ∷ []

-- in definitions that have all of the ground ones
abbrev pub answered_in : List Definition → List ℕ
answered_in definitions = cond (ltb 42 (length definitions)) table_functions []

-- the value of one of these on the first arguments
abbrev pub table_value : ℕ → Object → Object → Object → Object
table_value f x y z = cond (eqb f 37) (with_key x y z) (cond (eqb f 42) (forked x y) (cond (eqb f 40 || eqb f 41) (pair_or_nil (first_pair x y)) x))

abbrev pub answer_object : List Object → ℕ → List Id → Object
answer_object objects f args = table_value f (object_at objects (id_or_nil args 0)) (object_at objects (id_or_nil args 1)) (object_at objects (id_or_nil args 2))
