-- The value of a call.
use Rattle.std.specs.Prelude.{◌≡◌, ℕ, List, Some}
use Rattle.gl_logic.specs.Object.{Object}
use Rattle.gl_logic.specs.Definition.{Definition}
use Rattle.gl_logic.specs.Walk.{Walk}
use Rattle.lisp_eval.specs.Threads.{plain_call}

-- with some depth
pub record IsCallValue (definitions : List Definition) (f : ℕ) (xs : List Object) (x : Object) : Type 0 where
  pub depth : ℕ
  pub run : Walk
  pub runs : plain_call definitions depth f xs ≡ Some run
  pub value : run.value ≡ x
