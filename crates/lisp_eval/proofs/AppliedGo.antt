-- Work that is done is a step of the evaluation.
use Rattle.std.proofs.Common.{◌≡◌, ap, sym, refl, ℕ, List, [], ◌∷◌, ◌++◌, Bool, true, false, cond, Option, subst, inl, inr, ◌⊎◌}
use Rattle.gl_logic.specs.Object.{Object}
use Rattle.gl_logic.specs.Environment.{extended}
use Rattle.gl_logic.specs.Definition.{Definition}
use Rattle.gl_logic.specs.PrimValue.{prim_value}
use Rattle.gl_logic.specs.Walk.{CallMade}
use Rattle.gl_logic.specs.Counts.{is_among}
use Rattle.lisp_eval.specs.Frames.{Work, ToPrim, ToCall, ToLet, Frame, Keep, Focus, Visit, Apply, Give, Rest, rest_of}
use Rattle.lisp_eval.specs.Moves.{Next, on}
use Rattle.lisp_eval.specs.Applied.{IsAnswered, IsOpened, IsApplied}
use Rattle.lisp_eval.proofs.Goes.{Goes, prim_done, let_done, call_shut, call_enters, call_keeps}

append_none : {A : Type 0} (xs : List A) → xs ++ [] ≡ xs
append_none [] = refl
append_none (x ∷ xs) = ap (λ ys. x ∷ ys) (append_none xs)

module _ (P Fine : Object → Type 0) (ds : List Definition) (answered functions : List ℕ) (depth : ℕ) where
  abbrev RestOf : Focus → List Frame → List CallMade → Option Rest
  RestOf = rest_of ds answered functions depth

  -- what is seen in it
  pub record Applies (o : Option Rest) (fs : List Frame) (k : List CallMade) (next : Next) : Type 0 where
    pub met : List Object
    pub goes : Goes P Fine 0 met o (RestOf next.focus (fs ++ next.pushed) k)

  applies_on : (met : List Object) (o : Option Rest) (focus : Focus) (fs : List Frame) (k : List CallMade) (next : Next) → next ≡ on focus → Goes P Fine 0 met o (RestOf focus fs k) → Applies o fs k next
  applies_on met o focus fs k next q h = subst (Applies o fs k) (sym q) (record { met = met; goes = subst (λ (gs : List Frame). Goes P Fine 0 met o (RestOf focus gs k)) (sym (append_none fs)) h })

  opened_applies : (b : Bool) (f : ℕ) (xs : List Object) (fs : List Frame) (k : List CallMade) (next : Next) (h : IsOpened ds answered functions f xs k next) → is_among functions f ≡ b
      → Applies (RestOf (Apply (ToCall f) xs) fs k) fs k (record { focus = Visit h.definition.body (extended h.definition.formals xs []); pushed = cond b (Keep f xs ∷ []) [] })
  opened_applies true f xs fs k next h e = record { met = []; goes = call_keeps P Fine ds answered functions depth f xs h.definition fs k h.shut h.there e }
  opened_applies false f xs fs k next h e = applies_on [] (RestOf (Apply (ToCall f) xs) fs k) (Visit h.definition.body (extended h.definition.formals xs [])) fs k _ refl (call_enters P Fine ds answered functions depth f xs h.definition fs k h.shut h.there e)

  call_applies : (f : ℕ) (xs : List Object) (fs : List Frame) (k : List CallMade) (next : Next) → IsAnswered ds answered functions f xs k next ⊎ IsOpened ds answered functions f xs k next → Applies (RestOf (Apply (ToCall f) xs) fs k) fs k next
  call_applies f xs fs k next (inl h) = applies_on (h.value ∷ []) (RestOf (Apply (ToCall f) xs) fs k) (Give h.value) fs k next h.is (call_shut P Fine ds answered functions depth f xs h.value fs k h.shut h.right)
  call_applies f xs fs k next (inr h) = subst (Applies (RestOf (Apply (ToCall f) xs) fs k) fs k) (sym h.is) (opened_applies (is_among functions f) f xs fs k next h refl)

  pub applied_goes : (w : Work) (xs : List Object) (fs : List Frame) (k : List CallMade) (next : Next) → IsApplied ds answered functions w xs k next → Applies (RestOf (Apply w xs) fs k) fs k next
  applied_goes (ToPrim p) xs fs k next h = applies_on (prim_value p xs ∷ []) (RestOf (Apply (ToPrim p) xs) fs k) (Give (prim_value p xs)) fs k next h (prim_done P Fine ds answered functions depth p xs fs k)
  applied_goes (ToCall f) xs fs k next h = call_applies f xs fs k next h
  applied_goes (ToLet vs b env) xs fs k next h = applies_on [] (RestOf (Apply (ToLet vs b env) xs) fs k) (Visit b (extended vs xs env)) fs k next h (let_done P Fine ds answered functions depth vs b env xs fs k)
