-- What carrying finished calls along changes of an evaluation: not its value, and its count only to the better.
use Rattle.std.specs.Prelude.{◌≡◌, ◌≤◌, ℕ, List, Some}
use Rattle.gl_logic.specs.Object.{Object}
use Rattle.gl_logic.specs.Definition.{Definition}
use Rattle.gl_logic.specs.Exp.{Exp}
use Rattle.gl_logic.specs.Walk.{CallMade}
use Rattle.gl_logic.specs.Evaluate.{evaluate}
use Rattle.gl_logic.specs.Counts.{memoized_cost}
use Rattle.lisp_eval.specs.Threads.{threaded_cost, threaded_value}

-- wherever a term has a value, it has that value, from whatever calls are kept
abbrev pub HasPlainValues : List Definition → List ℕ → List ℕ → Type 0
HasPlainValues definitions answered functions =
    (n : ℕ) (env : List (ℕ × Object)) (t : Exp) (kept : List CallMade) (x : Object) → evaluate definitions n env t ≡ Some x
    → threaded_value definitions answered functions n env t kept ≡ Some x

-- and the count of its visits is at most the cost in which each different call of the memoized functions is opened once
abbrev pub CostsAtMostMemoized : List Definition → List ℕ → List ℕ → Type 0
CostsAtMostMemoized definitions answered functions =
    (n : ℕ) (env : List (ℕ × Object)) (t : Exp) (kept : List CallMade) (x : Object) → evaluate definitions n env t ≡ Some x
    → threaded_cost definitions answered functions n env t kept ≤ memoized_cost definitions functions n env t
