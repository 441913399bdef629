-- The recursive calls in a body, each with what governs it.
use Rattle.std.specs.Prelude.{ℕ, Bool, true, false, not, ◌&&◌, eqb, cond, List, [], ◌∷◌, ◌++◌}
use Rattle.std.specs.List.{list_any, filter}
use base.Stored.{Gv, gnil, gnum, gcons}
use Rattle.gl_logic.specs.ObjectEq.{is_nil}
use Rattle.gl_logic.specs.Exp.{Exp, Exps, Var, Const, If, Prim, Call, Let, Last, More}
use Rattle.gl_logic.specs.ExpCode.{code_exp}
use Rattle.gl_logic.specs.PrimCode.{prim_number}
use Rattle.gl_logic.specs.FreeVariables.{is_free_in}

-- a term, and whether it is true
abbrev pub Fact : Type 0
Fact = Exp × Bool

-- a call, the facts that govern it, and the variables that lets around it bind
pub record Governed : Type 0 where
  pub callee : ℕ
  pub actuals : Exps
  pub facts : List Fact
  pub bound : List ℕ

-- ---- whether two terms are the same
abbrev pub alike : Gv → Gv → Bool
alike gnil gnil = true
alike gnil (gnum n) = false
alike gnil (gcons c d) = false
alike (gnum m) gnil = false
alike (gnum m) (gnum n) = eqb m n
alike (gnum m) (gcons c d) = false
alike (gcons a b) gnil = false
alike (gcons a b) (gnum n) = false
alike (gcons a b) (gcons c d) = alike a c && alike b d

abbrev pub exp_eq : Exp → Exp → Bool
exp_eq a b = alike (code_exp a) (code_exp b)

-- ---- what a test that is true, or false, says
abbrev pub is_nil_term : Exp → Bool
is_nil_term (Const x) = is_nil x
is_nil_term _ = false

-- behind the facts that stood before: (if a b nil) that is true makes a and b true, (if a a c) that is false makes a and c false, and (not a) turns a over
abbrev mutual
  pub noted : Exp → Bool → List Fact → List Fact
  noted (If a b c) true fs = elim (is_nil_term c) [ true ↦ noted a true (noted b true fs) | false ↦ (If a b c, true) ∷ fs ]
  noted (If a b c) false fs = elim (exp_eq a b) [ true ↦ noted a false (noted c false fs) | false ↦ (If a b c, false) ∷ fs ]
  noted (Prim p ts) v fs = elim (eqb (prim_number p) 9) [ true ↦ noted_not ts v fs | false ↦ (Prim p ts, v) ∷ fs ]
  noted t v fs = (t, v) ∷ fs

  pub noted_not : Exps → Bool → List Fact → List Fact
  noted_not Last v fs = fs
  noted_not (More a ts) v fs = noted a (not v) fs

-- in the body of a let that binds these variables, the facts about them are dropped
abbrev pub mentions : List ℕ → Exp → Bool
mentions vs t = list_any (is_free_in t) vs

abbrev pub unbound : List ℕ → List Fact → List Fact
unbound vs fs = filter (λ f. not (mentions vs f.0)) fs

-- ---- the calls that `is_member` tells, outermost first and then from left to right: a call stands before those in its actuals
abbrev mutual
  pub calls_in : (ℕ → Bool) → List ℕ → List Fact → Exp → List Governed
  calls_in is_member bound fs (Var v) = []
  calls_in is_member bound fs (Const x) = []
  calls_in is_member bound fs (If t a b) = calls_in is_member bound fs t ++ (calls_in is_member bound (noted t true fs) a ++ calls_in is_member bound (noted t false fs) b)
  calls_in is_member bound fs (Prim p ts) = calls_in_all is_member bound fs ts
  calls_in is_member bound fs (Call f ts) = cond (is_member f) (record { callee = f; actuals = ts; facts = fs; bound = bound } ∷ []) [] ++ calls_in_all is_member bound fs ts
  calls_in is_member bound fs (Let vs ts b) = calls_in_all is_member bound fs ts ++ calls_in is_member (vs ++ bound) (unbound vs fs) b

  pub calls_in_all : (ℕ → Bool) → List ℕ → List Fact → Exps → List Governed
  calls_in_all is_member bound fs Last = []
  calls_in_all is_member bound fs (More t ts) = calls_in is_member bound fs t ++ calls_in_all is_member bound fs ts
