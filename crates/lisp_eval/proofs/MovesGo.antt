-- The steps of the machine are steps of the evaluation.
use Rattle.std.proofs.Common.{◌≡◌, ap, sym, refl, ℕ, List, [], ◌∷◌, ◌++◌, cond, Option, subst}
use Rattle.gl_logic.specs.Object.{Object}
use Rattle.gl_logic.specs.ObjectEq.{is_nil}
use Rattle.gl_logic.specs.Environment.{look}
use Rattle.gl_logic.specs.Definition.{Definition}
use Rattle.gl_logic.specs.Exp.{Exp, Exps, Var, Const, If, Prim, Call, Let, Last, More}
use Rattle.gl_logic.specs.Walk.{CallMade}
use Rattle.lisp_eval.specs.Frames.{Work, ToPrim, ToCall, ToLet, Frame, Branch, Arguments, Keep, Focus, Visit, Apply, Give, Rest, focused, resumed, rest_of}
use Rattle.lisp_eval.specs.Moves.{begun, entered, entered_met, handed, handed_kept}
use Rattle.lisp_eval.proofs.Goes.{Goes, together, goes_on, goes_into, goes_back, goes_round, goes_apply, goes_argument, arguments_goes, prim_together, call_together, let_together, into_var, into_const, into_if, to_branch, to_keep}

append_none : {A : Type 0} (xs : List A) → xs ++ [] ≡ xs
append_none [] = refl
append_none (x ∷ xs) = ap (λ ys. x ∷ ys) (append_none xs)

module _ (P Fine : Object → Type 0) (ds : List Definition) (answered functions : List ℕ) (depth : ℕ) where
  abbrev RestOf : Focus → List Frame → List CallMade → Option Rest
  RestOf = rest_of ds answered functions depth

  unpushed : (spent : ℕ) (met : List Object) (o : Option Rest) (focus : Focus) (fs : List Frame) (k : List CallMade) → Goes P Fine spent met o (RestOf focus fs k) → Goes P Fine spent met o (RestOf focus (fs ++ []) k)
  unpushed spent met o focus fs k h = subst (λ (gs : List Frame). Goes P Fine spent met o (RestOf focus gs k)) (sym (append_none fs)) h

  begun_goes : (w : Work) (ts : Exps) (env : List (ℕ × Object)) (old : Focus) (fs : List Frame) (k : List CallMade) → Goes P Fine 1 [] (focused ds answered functions depth old k) (together P Fine ds answered functions depth w [] ts env k)
      → Goes P Fine 1 [] (RestOf old fs k) (RestOf (begun w [] ts env).focus (fs ++ (begun w [] ts env).pushed) k)
  begun_goes w Last env old fs k h = unpushed 1 [] (RestOf old fs k) (Apply w []) fs k (goes_on P Fine ds answered functions depth 1 [] old (Apply w []) fs k (goes_apply P Fine ds answered functions depth 1 (focused ds answered functions depth old k) w [] env k h))
  begun_goes w (More t ts) env old fs k h = goes_into P Fine ds answered functions depth 1 [] old (Visit t env) fs (Arguments w [] ts env) k (goes_argument P Fine ds answered functions depth 1 (focused ds answered functions depth old k) w [] t ts env k h)

  pub entered_goes : (t : Exp) (env : List (ℕ × Object)) (fs : List Frame) (k : List CallMade) → Goes P Fine 1 (entered_met t env) (RestOf (Visit t env) fs k) (RestOf (entered t env).focus (fs ++ (entered t env).pushed) k)
  entered_goes (Var v) env fs k = unpushed 1 (look env v ∷ []) (RestOf (Visit (Var v) env) fs k) (Give (look env v)) fs k (into_var P Fine ds answered functions depth v env fs k)
  entered_goes (Const x) env fs k = unpushed 1 (x ∷ []) (RestOf (Visit (Const x) env) fs k) (Give x) fs k (into_const P Fine ds answered functions depth x env fs k)
  entered_goes (If t a b) env fs k = into_if P Fine ds answered functions depth t a b env fs k
  entered_goes (Prim p ts) env fs k = begun_goes (ToPrim p) ts env (Visit (Prim p ts) env) fs k (prim_together P Fine ds answered functions depth p ts env k)
  entered_goes (Call f ts) env fs k = begun_goes (ToCall f) ts env (Visit (Call f ts) env) fs k (call_together P Fine ds answered functions depth f ts env k)
  entered_goes (Let vs ts b) env fs k = begun_goes (ToLet vs b env) ts env (Visit (Let vs ts b) env) fs k (let_together P Fine ds answered functions depth vs ts b env k)

  argument_goes : (w : Work) (done : List Object) (ts : Exps) (env : List (ℕ × Object)) (v : Object) (fs : List Frame) (k : List CallMade)
      → Goes P Fine 0 [] (RestOf (Give v) (fs ++ Arguments w done ts env ∷ []) k) (RestOf (begun w (done ++ v ∷ []) ts env).focus (fs ++ (begun w (done ++ v ∷ []) ts env).pushed) k)
  argument_goes w done Last env v fs k = unpushed 0 [] (RestOf (Give v) (fs ++ Arguments w done Last env ∷ []) k) (Apply w (done ++ v ∷ [])) fs k
      (goes_back P Fine ds answered functions depth 0 [] v (Apply w (done ++ v ∷ [])) fs (Arguments w done Last env) k k (goes_apply P Fine ds answered functions depth 0 (resumed ds answered functions depth (Arguments w done Last env) v k) w (done ++ v ∷ []) env k (arguments_goes P Fine ds answered functions depth w done Last env v k)))
  argument_goes w done (More t ts) env v fs k = goes_round P Fine ds answered functions depth 0 [] v (Visit t env) fs (Arguments w done (More t ts) env) (Arguments w (done ++ v ∷ []) ts env) k
      (goes_argument P Fine ds answered functions depth 0 (resumed ds answered functions depth (Arguments w done (More t ts) env) v k) w (done ++ v ∷ []) t ts env k (arguments_goes P Fine ds answered functions depth w done (More t ts) env v k))

  pub handed_goes : (f : Frame) (v : Object) (fs : List Frame) (k : List CallMade) → Goes P Fine 0 [] (RestOf (Give v) (fs ++ f ∷ []) k) (RestOf (handed f v).focus (fs ++ (handed f v).pushed) (handed_kept f k))
  handed_goes (Branch a b env) v fs k = unpushed 0 [] (RestOf (Give v) (fs ++ Branch a b env ∷ []) k) (Visit (cond (is_nil v) b a) env) fs k (to_branch P Fine ds answered functions depth v a b env fs k)
  handed_goes (Arguments w done ts env) v fs k = argument_goes w done ts env v fs k
  handed_goes (Keep f xs) v fs k = unpushed 0 [] (RestOf (Give v) (fs ++ Keep f xs ∷ []) k) (Give v) fs ((f, xs) ∷ k) (to_keep P Fine ds answered functions depth f xs v fs k)
