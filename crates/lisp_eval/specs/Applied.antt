-- What work that is done leads to.
use Rattle.std.specs.Prelude.{◌≡◌, ℕ, true, false, cond, List, [], ◌∷◌, Some, slice_get}
use Rattle.std.proofs.Common.{◌⊎◌}
use Rattle.gl_logic.specs.Object.{Object}
use Rattle.gl_logic.specs.Environment.{extended}
use Rattle.gl_logic.specs.Definition.{Definition}
use Rattle.gl_logic.specs.PrimValue.{prim_value}
use Rattle.gl_logic.specs.Walk.{CallMade}
use Rattle.gl_logic.specs.Counts.{is_among}
use Rattle.lisp_eval.specs.Threads.{stays_shut}
use Rattle.lisp_eval.specs.CallValue.{IsCallValue}
use Rattle.lisp_eval.specs.Frames.{Work, ToPrim, ToCall, ToLet, Keep, Visit, Give}
use Rattle.lisp_eval.specs.Moves.{Next, on}

-- a call that is kept, or that tables answer, gives its value
pub record IsAnswered (definitions : List Definition) (answered functions : List ℕ) (f : ℕ) (xs : List Object) (kept : List CallMade) (next : Next) : Type 0 where
  pub value : Object
  pub shut : stays_shut answered functions f xs kept ≡ true
  pub right : IsCallValue definitions f xs value
  pub is : next ≡ on (Give value)

-- another one opens its body, and a memoized one waits to be kept
pub record IsOpened (definitions : List Definition) (answered functions : List ℕ) (f : ℕ) (xs : List Object) (kept : List CallMade) (next : Next) : Type 0 where
  pub definition : Definition
  pub shut : stays_shut answered functions f xs kept ≡ false
  pub there : slice_get definitions f ≡ Some definition
  pub is : next ≡ record { focus = Visit definition.body (extended definition.formals xs []); pushed = cond (is_among functions f) (Keep f xs ∷ []) [] }

abbrev pub IsApplied : List Definition → List ℕ → List ℕ → Work → List Object → List CallMade → Next → Type 0
IsApplied definitions answered functions (ToPrim p) xs kept next = next ≡ on (Give (prim_value p xs))
IsApplied definitions answered functions (ToCall f) xs kept next = IsAnswered definitions answered functions f xs kept next ⊎ IsOpened definitions answered functions f xs kept next
IsApplied definitions answered functions (ToLet vs b env) xs kept next = next ≡ on (Visit b (extended vs xs env))
