-- One step of an evaluation on a stack of frames: the next focus, and the frame that is put on the stack.
use Rattle.std.specs.Prelude.{ℕ, cond, List, [], ◌∷◌, ◌++◌}
use Rattle.gl_logic.specs.Object.{Object}
use Rattle.gl_logic.specs.ObjectEq.{is_nil}
use Rattle.gl_logic.specs.Environment.{look}
use Rattle.gl_logic.specs.Exp.{Exp, Exps, Var, Const, If, Prim, Call, Let, Last, More}
use Rattle.gl_logic.specs.Walk.{CallMade}
use Rattle.lisp_eval.specs.Frames.{Work, ToPrim, ToCall, ToLet, Frame, Branch, Arguments, Keep, Focus, Visit, Apply, Give}

pub record Next : Type 0 where
  pub focus : Focus
  pub pushed : List Frame

abbrev pub on : Focus → Next
on focus = record { focus = focus; pushed = [] }

-- the values so far, and the terms to come
abbrev pub begun : Work → List Object → Exps → List (ℕ × Object) → Next
begun w done Last env = on (Apply w done)
begun w done (More t ts) env = record { focus = Visit t env; pushed = Arguments w done ts env ∷ [] }

-- into a term
abbrev pub entered : Exp → List (ℕ × Object) → Next
entered (Var v) env = on (Give (look env v))
entered (Const x) env = on (Give x)
entered (If t a b) env = record { focus = Visit t env; pushed = Branch a b env ∷ [] }
entered (Prim p ts) env = begun (ToPrim p) [] ts env
entered (Call f ts) env = begun (ToCall f) [] ts env
entered (Let vs ts b) env = begun (ToLet vs b env) [] ts env

abbrev pub entered_met : Exp → List (ℕ × Object) → List Object
entered_met (Var v) env = look env v ∷ []
entered_met (Const x) env = x ∷ []
entered_met _ env = []

-- a value for the last frame
abbrev pub handed : Frame → Object → Next
handed (Branch a b env) v = on (Visit (cond (is_nil v) b a) env)
handed (Arguments w done ts env) v = begun w (done ++ v ∷ []) ts env
handed (Keep f xs) v = on (Give v)

abbrev pub handed_kept : Frame → List CallMade → List CallMade
handed_kept (Branch a b env) kept = kept
handed_kept (Arguments w done ts env) kept = kept
handed_kept (Keep f xs) kept = (f, xs) ∷ kept
