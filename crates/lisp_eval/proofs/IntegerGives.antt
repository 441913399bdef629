-- What terms over integers give, from what their parts give.
use Rattle.std.proofs.Common.{◌≡◌, ◌∙◌, ap, sym, subst, ℕ, ◌+◌, ◌-◌, ℤ, Bool, true, false, List, [], ◌∷◌, Option, None, Some, Ok, IfSome, arith}
use Rattle.gl_logic.specs.Definition.{Definition}
use Rattle.gl_logic.specs.Environment.{look}
use Rattle.gl_logic.specs.Exp.{Exp, Exps, Var, Const, Prim, Last, More}
use Rattle.gl_logic.specs.Object.{Object, Int, nil, boolean_object}
use Rattle.gl_logic.specs.PrimValue.{prim_of}
use Rattle.fast_alists.specs.Tables.{Agree}
use Rattle.hons_arena.specs.Held.{Held, IsWhole}
use Rattle.lisp_eval.specs.Attempts.{Alists, Tells, unary_term, binary_term}
use Rattle.lisp_eval.specs.Directs.{GivesAtOnce, GiveAtOnce, IsFound, scope_env}
use Rattle.lisp_eval.specs.Integers.{GivesInteger, IsFoundOn}
use Rattle.lisp_eval.specs.Narrow.{IsNarrow}
use Rattle.lisp_eval.specs.Outside.{value_object, IsLiveValue, locals_of}
use Rattle.lisp_eval.specs.Sights.{Sees}
use Rattle.lisp_eval.specs.declared.attempt.Found.{Found}
use Rattle.lisp_eval.specs.declared.attempt.Scope.{Scope}
use Rattle.lisp_eval.specs.declared.attempt.Scope.TheVariants as scope
use Rattle.lisp_eval.specs.declared.value.Local.{Local}
use Rattle.lisp_eval.specs.declared.value.Value.{Value}
use Rattle.lisp_eval.proofs.Attempting.{tells_found}
use Rattle.lisp_eval.proofs.Sights.{adds_none}
use Rattle.lisp_eval.proofs.Directly.{var_gives, const_gives, prim_gives, none_give, more_give}

module _ (locals : List Local) where
  pub integer_var : (t : Exp) (v before after : ℕ) (i : ℤ) → after + 1 ≡ before → t ≡ Var v → ((objects : List Object) → look (locals_of objects locals) v ≡ Int i) → IsNarrow (Int i) → GivesInteger locals t before after i
  integer_var t v before after i some e is narrow = record {
    fewer = omega (arith, some);
    narrow = narrow;
    gives = λ ds fs objects.
        let env = locals_of objects locals in
        let here : GivesAtOnce ds fs env (Var v) (Int i) 1 = subst (λ (x : Object). GivesAtOnce ds fs env (Var v) x 1) (is objects) (var_gives ds fs env v (subst IsNarrow (sym (is objects)) narrow)) in
        subst (λ (u : Exp). GivesAtOnce ds fs env u (Int i) (before - after)) (sym e) (subst (λ (n : ℕ). GivesAtOnce ds fs env (Var v) (Int i) n) (omega (arith, some)) here);
  }

  pub integer_const : (t : Exp) (x : Object) (before after : ℕ) (i : ℤ) → after + 1 ≡ before → t ≡ Const x → x ≡ Int i → IsNarrow (Int i) → GivesInteger locals t before after i
  integer_const t x before after i some e is narrow = record {
    fewer = omega (arith, some);
    narrow = narrow;
    gives = λ ds fs objects.
        let env = locals_of objects locals in
        let here : GivesAtOnce ds fs env (Const x) (Int i) 1 = subst (λ (y : Object). GivesAtOnce ds fs env (Const x) y 1) is (const_gives ds fs env x (subst IsNarrow (sym is) narrow)) in
        subst (λ (u : Exp). GivesAtOnce ds fs env u (Int i) (before - after)) (sym e) (subst (λ (n : ℕ). GivesAtOnce ds fs env (Const x) (Int i) n) (omega (arith, some)) here);
  }

  pub integer_unary : (p : _) (t : Exp) (before mid after : ℕ) (a i : ℤ) → mid + 1 ≡ before → GivesInteger locals t mid after a → prim_of p (Int a) nil ≡ Int i → IsNarrow (Int i) → GivesInteger locals (unary_term p t) before after i
  integer_unary p t before mid after a i some g is narrow = record {
    fewer = omega (arith, some, g.fewer);
    narrow = narrow;
    gives = λ ds fs objects.
        let env = locals_of objects locals in
        subst (λ (n : ℕ). GivesAtOnce ds fs env (unary_term p t) (Int i) n) (omega (arith, some, g.fewer))
        (prim_gives ds fs env p (More t Last) (Int a ∷ []) (Int i) (mid - after + 0) (more_give ds fs env t Last (Int a) [] (mid - after) 0 (g.gives ds fs objects) (none_give ds fs env)) is narrow);
  }

  -- two operands, one after the other
  both_give : (t u : Exp) (before mid after : ℕ) (a b : ℤ) → GivesInteger locals t before mid a → GivesInteger locals u mid after b
      → (ds : List Definition) (fs : List ℕ) (objects : List Object) → GiveAtOnce ds fs (locals_of objects locals) (More t (More u Last)) (Int a ∷ Int b ∷ []) (before - mid + (mid - after + 0))
  both_give t u before mid after a b g h ds fs objects =
      let env = locals_of objects locals in
      more_give ds fs env t (More u Last) (Int a) (Int b ∷ []) (before - mid) (mid - after + 0) (g.gives ds fs objects) (more_give ds fs env u Last (Int b) [] (mid - after) 0 (h.gives ds fs objects) (none_give ds fs env))

  -- the object of a primitive of two operands
  pub binary_gives : (p : _) (t u : Exp) (before start mid after : ℕ) (a b : ℤ) (x : Object) → start + 1 ≡ before → GivesInteger locals t start mid a → GivesInteger locals u mid after b → prim_of p (Int a) (Int b) ≡ x → IsNarrow x
      → (ds : List Definition) (fs : List ℕ) (objects : List Object) → GivesAtOnce ds fs (locals_of objects locals) (binary_term p t u) x (before - after)
  binary_gives p t u before start mid after a b x some g h is narrow ds fs objects =
      let env = locals_of objects locals in
      subst (λ (n : ℕ). GivesAtOnce ds fs env (binary_term p t u) x n) (omega (arith, some, g.fewer, h.fewer))
      (prim_gives ds fs env p (More t (More u Last)) (Int a ∷ Int b ∷ []) x (start - mid + (mid - after + 0)) (both_give t u start mid after a b g h ds fs objects) is narrow)

  pub integer_binary : (p : _) (t u : Exp) (before start mid after : ℕ) (a b i : ℤ) → start + 1 ≡ before → GivesInteger locals t start mid a → GivesInteger locals u mid after b → prim_of p (Int a) (Int b) ≡ Int i → IsNarrow (Int i) → GivesInteger locals (binary_term p t u) before after i
  integer_binary p t u before start mid after a b i some g h is narrow = record {
    fewer = omega (arith, some, g.fewer, h.fewer);
    narrow = narrow;
    gives = binary_gives p t u before start mid after a b (Int i) some g h is narrow;
  }

  -- where a primitive gives an integer of 64 bits
  pub unary_maybe : (p : _) (t : Exp) (before mid after : ℕ) (a x : ℤ) → x ≡ a → mid + 1 ≡ before → GivesInteger locals t mid after a → (r : Option ℤ) → IfSome r (λ i. (y : Object) → prim_of p (Int x) y ≡ Int i) → IfSome r (λ i. IsNarrow (Int i)) → IfSome r (GivesInteger locals (unary_term p t) before after)
  unary_maybe p t before mid after a x same some g None is narrow = tt
  unary_maybe p t before mid after a x same some g (Some i) is narrow = integer_unary p t before mid after a i some g (ap (λ z. prim_of p (Int z) nil) (sym same) ∙ is nil) narrow

  pub binary_maybe : (p : _) (t u : Exp) (before start mid after : ℕ) (a b x y : ℤ) → x ≡ a → y ≡ b → start + 1 ≡ before → GivesInteger locals t start mid a → GivesInteger locals u mid after b → (r : Option ℤ) → IfSome r (λ i. prim_of p (Int x) (Int y) ≡ Int i) → IfSome r (λ i. IsNarrow (Int i))
      → IfSome r (GivesInteger locals (binary_term p t u) before after)
  binary_maybe p t u before start mid after a b x y same same' some g h None is narrow = tt
  binary_maybe p t u before start mid after a b x y same same' some g h (Some i) is narrow = integer_binary p t u before start mid after a b i some g h ((λ k. prim_of p (Int (sym same k)) (Int (sym same' k))) ∙ is) narrow

-- nothing is added then
pub here_tells : (ds : List Definition) (fs : List ℕ) (s : Scope) (t : Exp) (left : ℕ) (held : Held) (tables : Alists) (f : Found) → IsWhole held → Agree held.objects tables → IsFound ds fs held.objects (scope_env held.objects s) t left f → Tells ds fs (scope_env held.objects s) t left held held tables (Ok f)
here_tells ds fs s t left held tables f whole agree h = tells_found ds fs (scope_env held.objects s) t left held held tables f (adds_none (Sees ds fs (scope_env held.objects s) t) held whole) agree h

-- on a scope of locals
pub found_on : (ds : List Definition) (fs : List ℕ) (s : Scope) (locals : _) → s ≡ scope.Inner locals → (t : Exp) (left : ℕ) (f : Found) → IsFoundOn ds fs locals.now t left f → (objects : List Object) → IsFound ds fs objects (scope_env objects s) t left f
found_on ds fs s locals e t left f h objects = subst (λ (z : Scope). IsFound ds fs objects (scope_env objects z) t left f) (sym e) (h objects)

boolean_narrow : (q : Bool) → IsNarrow (boolean_object q)
boolean_narrow true = tt
boolean_narrow false = tt

pub compared : (locals : List Local) (p : _) (w : Exp) (ts : Exps) (t u : Exp) → w ≡ Prim p ts → ts ≡ More t (More u Last) → (left mid rest : ℕ) (a b x y : ℤ) (q : Bool) → x ≡ a → y ≡ b → (left ≡ 0 → ⊥) → GivesInteger locals t (left - 1) mid a → GivesInteger locals u mid rest b → prim_of p (Int x) (Int y) ≡ boolean_object q
    → (v : Value) → ((objects : List Object) → value_object objects v ≡ boolean_object q) → ((objects : List Object) → IsLiveValue objects v) → (ds : List Definition) (fs : List ℕ) → IsFoundOn ds fs locals w left (record { value = v; left = rest })
compared locals p w ts t u e two left mid rest a b x y q same same' some g h is v told live ds fs objects = record {
  live = live objects;
  fewer = omega (arith, some, g.fewer, h.fewer);
  gives = subst (λ (z : Exp). GivesAtOnce ds fs (locals_of objects locals) z (value_object objects v) (left - rest)) (sym (e ∙ ap (Prim p) two))
      (subst (λ (z : Object). GivesAtOnce ds fs (locals_of objects locals) (binary_term p t u) z (left - rest)) (sym (told objects))
      (binary_gives locals p t u left (left - 1) mid rest a b (boolean_object q) (omega (arith, some)) g h ((λ k. prim_of p (Int (sym same k)) (Int (sym same' k))) ∙ is) (boolean_narrow q) ds fs objects));
}
