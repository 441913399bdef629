-- What a call of `zp` gives of a term over integers.
use Rattle.std.proofs.Common.{◌≡◌, ◌∙◌, ap, sym, subst, ℕ, ◌+◌, ◌-◌, ◌≤◌, ℤ, Bool, List, [], ◌∷◌, length, arith, Some, slice_get}
use Rattle.gl_logic.specs.Definition.{Definition}
use Rattle.gl_logic.specs.Environment.{extended}
use Rattle.gl_logic.specs.Exp.{Exp, Exps, Call, Last, More}
use Rattle.gl_logic.specs.Object.{Object, Int, boolean_object}
use Rattle.gl_logic.proofs.GroundCalls.{there_is}
use Rattle.gl_logic.proofs.Optional.{some_same}
use Rattle.lisp_eval.specs.Directs.{GivesAtOnce, IsFound}
use Rattle.lisp_eval.specs.Integers.{GivesInteger}
use Rattle.lisp_eval.specs.Outside.{value_object, IsLiveValue, locals_of}
use Rattle.lisp_eval.specs.Zero.{IsZp, zp_holds}
use Rattle.lisp_eval.specs.declared.value.Local.{Local}
use Rattle.lisp_eval.specs.declared.value.Value.{Value}
use Rattle.lisp_eval.proofs.Directly.{none_give, more_give, call_gives}
use Rattle.lisp_eval.proofs.ZeroGives.{is_zp, zp_gives}

bound_one : (names : List ℕ) (x : Object) (n : ℕ) → length names ≡ 1 → slice_get names 0 ≡ Some n → extended names (x ∷ []) [] ≡ (n, x) ∷ []
bound_one [] x n c e = absurd (omega (arith, c))
bound_one (m ∷ []) x n c e = ap (λ k. (k, x) ∷ []) (some_same m n e)
bound_one (m ∷ k ∷ names) x n c e = absurd (omega (arith, c))

pub zp_found : (ds : List Definition) (fs : List ℕ) (f : ℕ) → IsZp ds fs f → (locals : List Local) (u : Exp) (ts : Exps) (t : Exp) → u ≡ Call f ts → ts ≡ More t Last → (left rest : ℕ) (i x : ℤ) → (left ≡ 0 → ⊥) → GivesInteger locals t (left - 1) rest i → 7 ≤ rest
    → (q : Bool) → x ≡ i → q ≡ zp_holds (Int x) → (v : Value) → ((objects : List Object) → value_object objects v ≡ boolean_object q) → ((objects : List Object) → IsLiveValue objects v)
    → (objects : List Object) → IsFound ds fs objects (locals_of objects locals) u left (record { value = v; left = rest - 7 })
zp_found ds fs f zp locals u ts t e one left rest i x some g enough q same holds v is live objects =
    let env = locals_of objects locals in
    let d = there_is ds f zp.opens.there in
    let here = subst (λ (n : ℕ). slice_get ds n ≡ Some d.0) zp.number d.1 in
    let body = is_zp ds zp.ground d.0 here in
    let n = there_is d.0.formals 0 (omega (arith, body.0)) in
    let answer = boolean_object (zp_holds (Int i)) in
    let gives = zp_gives ds fs zp.ground d.0 here n.0 n.1 (Int i) g.narrow in
    let inner = subst (λ (s : List (ℕ × Object)). GivesAtOnce ds fs s d.0.body answer 7) (sym (bound_one d.0.formals (Int i) n.0 body.0 n.1)) gives in
    let argument = more_give ds fs env t Last (Int i) [] (left - 1 - rest) 0 (g.gives ds fs objects) (none_give ds fs env) in
    let called = call_gives ds fs env f (More t Last) d.0 (Int i ∷ []) answer (left - 1 - rest + 0) 7 zp.opens d.1 argument inner in
    let whole : u ≡ Call f (More t Last) = e ∙ ap (Call f) one in
    let value : value_object objects v ≡ answer = is objects ∙ ap boolean_object (holds ∙ ap (λ z. zp_holds (Int z)) same) in
    let count : left - 1 - rest + 0 + 7 + 1 ≡ left - (rest - 7) = omega (arith, some, g.fewer, enough) in
    record {
      live = live objects;
      fewer = omega (arith, some, g.fewer, enough);
      gives = subst (λ (w : Exp). GivesAtOnce ds fs env w (value_object objects v) (left - (rest - 7))) (sym whole)
          (subst (λ (y : Object). GivesAtOnce ds fs env (Call f (More t Last)) y (left - (rest - 7))) (sym value)
          (subst (λ (k : ℕ). GivesAtOnce ds fs env (Call f (More t Last)) answer k) count called));
    }
