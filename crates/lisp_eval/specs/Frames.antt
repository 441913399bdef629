-- What a stack of frames makes of a value: the rest of an evaluation.
use Rattle.std.specs.Prelude.{ℕ, ◌+◌, Bool, true, false, List, [], ◌∷◌, ◌++◌, length, Option, Some, None}
use Rattle.gl_logic.specs.Object.{Object}
use Rattle.gl_logic.specs.ObjectEq.{object_eq, is_nil}
use Rattle.gl_logic.specs.PrimValue.{prim_value}
use Rattle.gl_logic.specs.Environment.{extended}
use Rattle.gl_logic.specs.Definition.{Definition}
use Rattle.gl_logic.specs.Exp.{Exp, Exps}
use Rattle.gl_logic.specs.declared.prim.Primitive as primitive
use Rattle.gl_logic.specs.Walk.{CallMade, Walk, then}
use Rattle.lisp_eval.specs.Threads.{Thread, plain_call, threaded, thread, threads}

-- what is done with the values of some terms
pub data Work : Type 0 where
  ToPrim : primitive.Primitive → Work
  ToCall : ℕ → Work
  -- the names, the body and its environment
  ToLet : List ℕ → Exp → List (ℕ × Object) → Work

pub data Frame : Type 0 where
  -- the parts of an `if` whose test is being run
  Branch : Exp → Exp → List (ℕ × Object) → Frame
  -- the values so far, and the terms to come
  Arguments : Work → List Object → Exps → List (ℕ × Object) → Frame
  -- a memoized call whose body is being run
  Keep : ℕ → List Object → Frame

pub data Focus : Type 0 where
  Visit : Exp → List (ℕ × Object) → Focus
  Apply : Work → List Object → Focus
  Give : Object → Focus

-- the value at the end, the visits to come, the values seen on the way, and the calls that are kept at the end
pub record Rest : Type 0 where
  pub value : Object
  pub count : ℕ
  pub seen : List Object
  pub kept : List CallMade

abbrev pub before : Rest → Rest → Option Rest
before r s = Some (record { value = s.value; count = r.count + s.count; seen = r.seen ++ s.seen; kept = s.kept })

abbrev pub followed : Option Rest → (Object → List CallMade → Option Rest) → Option Rest
followed o g = then o (λ r. then (g r.value r.kept) (before r))

abbrev pub given : Object → List CallMade → Option Rest
given v kept = Some (record { value = v; count = 0; seen = []; kept = kept })

abbrev pub all_of : Thread → Option Rest
all_of h = Some (record { value = h.value; count = length h.seen; seen = h.seen; kept = h.kept })

-- a call was counted when it was visited, and its value is still to be seen
abbrev pub call_of : Thread → Option Rest
call_of h = Some (record { value = h.value; count = length h.seen; seen = h.value ∷ h.seen; kept = h.kept })

abbrev pub is_value : Option Walk → Object → Bool
is_value None v = false
is_value (Some r) v = object_eq r.value v

-- behind visits that saw these values
abbrev pub behind : List Object → Option Rest → Option Rest
behind seen o = then o (λ s. Some (record { value = s.value; count = length seen + s.count; seen = seen ++ s.seen; kept = s.kept }))

module _ (definitions : List Definition) (answered functions : List ℕ) (depth : ℕ) where
  abbrev pub worked : Work → List Object → List CallMade → Option Rest
  worked (ToPrim p) xs kept = Some (record { value = prim_value p xs; count = 0; seen = prim_value p xs ∷ []; kept = kept })
  worked (ToCall f) xs kept = then (threaded definitions answered functions depth f xs kept) call_of
  worked (ToLet vs b env) xs kept = then (thread definitions answered functions depth (extended vs xs env) b kept) all_of

  -- what one frame makes of a value. The frame of a memoized call takes no other value than that of the call
  abbrev pub resumed : Frame → Object → List CallMade → Option Rest
  resumed (Branch a b env) v kept = elim (is_nil v) [
    | true ↦ then (thread definitions answered functions depth env b kept) all_of
    | false ↦ then (thread definitions answered functions depth env a kept) all_of
  ]
  resumed (Arguments w done ts env) v kept = then (threads definitions answered functions depth env ts kept) (λ rs. behind rs.seen (worked w (done ++ v ∷ rs.values) rs.kept))
  resumed (Keep f xs) v kept = elim (is_value (plain_call definitions depth f xs) v) [
    | true ↦ given v ((f, xs) ∷ kept)
    | false ↦ None
  ]

  -- what a stack makes of one: the last frame goes first
  abbrev pub resume : List Frame → Object → List CallMade → Option Rest
  resume [] v kept = given v kept
  resume (f ∷ fs) v kept = followed (resume fs v kept) (resumed f)

  abbrev pub focused : Focus → List CallMade → Option Rest
  focused (Visit t env) kept = then (thread definitions answered functions depth env t kept) all_of
  focused (Apply w xs) kept = worked w xs kept
  focused (Give v) kept = given v kept

  -- what is left of an evaluation
  abbrev pub rest_of : Focus → List Frame → List CallMade → Option Rest
  rest_of focus frames kept = followed (focused focus kept) (resume frames)
