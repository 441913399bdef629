-- What is found of a term at once, from what is found of its parts.
use Rattle.std.proofs.Common.{◌≡◌, ◌∙◌, ap, sym, refl, subst, ℕ, ◌+◌, ◌-◌, Bool, cond, List, [], ◌∷◌, length, arith, get_or, Some, slice_get}
use Rattle.gl_logic.specs.Definition.{Definition}
use Rattle.gl_logic.specs.Environment.{look, extended}
use Rattle.gl_logic.specs.Exp.{Exp, Exps, Var, Const, If, Prim, Call, Last, More}
use Rattle.gl_logic.specs.Object.{Object, nil}
use Rattle.gl_logic.specs.ObjectEq.{is_nil}
use Rattle.gl_logic.specs.PrimValue.{prim_of}
use Rattle.gl_logic.specs.TermOf.{term_of, terms_of}
use Rattle.gl_logic.specs.declared.term.Term.{Term}
use Rattle.gl_logic.proofs.Optional.{none_some, some_same}
use Rattle.hons_arena.specs.Held.{Held, IsWhole}
use Rattle.hons_arena.specs.declared.id.Id.TheVariants as id
use Rattle.lisp_eval.specs.Directs.{GivesAtOnce, GiveAtOnce, IsFound, AreGiven, OpensAtOnce}
use Rattle.lisp_eval.specs.Narrow.{IsNarrow}
use Rattle.lisp_eval.specs.Outside.{value_object, IsLiveValue}
use Rattle.lisp_eval.specs.declared.attempt.Found.{Found}
use Rattle.lisp_eval.specs.declared.attempt.Given.{Given}
use Rattle.lisp_eval.specs.declared.value.Value.{Value}
use Rattle.lisp_eval.specs.declared.value.Value.TheVariants as value
use Rattle.lisp_eval.proofs.Directly.{var_gives, const_gives, if_gives, none_give, more_give, prim_gives, call_gives}
use Rattle.lisp_eval.proofs.WholeNarrow.{whole_narrow}

pub value_narrow : (held : Held) → IsWhole held → (v : Value) → IsLiveValue held.objects v → IsNarrow (value_object held.objects v)
value_narrow held whole (value.Int i) live = live
value_narrow held whole (value.Cell n) live = whole_narrow held whole (id.Cell n) live
value_narrow held whole (value.Symbol t) live = tt
value_narrow held whole (value.Text t) live = tt

pub one_bound : (names : List ℕ) (xs : List Object) (n : ℕ) → length names ≡ 1 → slice_get names 0 ≡ Some n → extended names xs [] ≡ (n, get_or xs 0 nil) ∷ []
one_bound [] xs n c e = absurd (omega (arith, c))
one_bound (m ∷ []) [] n c e = ap (λ k. (k, nil) ∷ []) (some_same m n e)
one_bound (m ∷ []) (x ∷ xs) n c e = ap (λ k. (k, x) ∷ []) (some_same m n e)
one_bound (m ∷ k ∷ names) xs n c e = absurd (omega (arith, c))

pub two_bound : (names : List ℕ) (xs : List Object) (n k : ℕ) → length names ≡ 2 → slice_get names 0 ≡ Some n → slice_get names 1 ≡ Some k → extended names xs [] ≡ (n, get_or xs 0 nil) ∷ (k, get_or xs 1 nil) ∷ []
two_bound [] xs n k c e f = absurd (omega (arith, c))
two_bound (m ∷ []) xs n k c e f = absurd (omega (arith, c))
two_bound (m ∷ l ∷ []) [] n k c e f = λ i. (some_same m n e i, nil) ∷ (some_same l k f i, nil) ∷ []
two_bound (m ∷ l ∷ []) (x ∷ []) n k c e f = λ i. (some_same m n e i, x) ∷ (some_same l k f i, nil) ∷ []
two_bound (m ∷ l ∷ []) (x ∷ y ∷ xs) n k c e f = λ i. (some_same m n e i, x) ∷ (some_same l k f i, y) ∷ []
two_bound (m ∷ l ∷ j ∷ names) xs n k c e f = absurd (omega (arith, c))

module _ (ds : List Definition) (functions : List ℕ) (held : Held) (whole : IsWhole held) (env : List (ℕ × Object)) where
  abbrev objects : List Object
  objects = held.objects

  turned : (t u : Exp) (x y : Object) (m k : ℕ) → t ≡ u → x ≡ y → m ≡ k → GivesAtOnce ds functions env t x m → GivesAtOnce ds functions env u y k
  turned t u x y m k e f g h =
      subst (λ (v : Exp). GivesAtOnce ds functions env v y k) e (subst (λ (z : Object). GivesAtOnce ds functions env t z k) f (subst (λ (n : ℕ). GivesAtOnce ds functions env t x n) g h))

  pub found_var : (t : Exp) (v left : ℕ) (x : Value) → (left ≡ 0 → ⊥) → t ≡ Var v → value_object objects x ≡ look env v → IsLiveValue objects x → IsFound ds functions objects env t left (record { value = x; left = left - 1 })
  found_var t v left x some e is live = record {
    live = live;
    fewer = omega (arith, some);
    gives = turned (Var v) t (look env v) (value_object objects x) 1 (left - (left - 1)) (sym e) (sym is) (omega (arith, some)) (var_gives ds functions env v (subst IsNarrow is (value_narrow held whole x live)));
  }

  pub found_const : (t : Exp) (o : Object) (left : ℕ) (x : Value) → (left ≡ 0 → ⊥) → t ≡ Const o → value_object objects x ≡ o → IsLiveValue objects x → IsFound ds functions objects env t left (record { value = x; left = left - 1 })
  found_const t o left x some e is live = record {
    live = live;
    fewer = omega (arith, some);
    gives = turned (Const o) t o (value_object objects x) 1 (left - (left - 1)) (sym e) (sym is) (omega (arith, some)) (const_gives ds functions env o (subst IsNarrow is (value_narrow held whole x live)));
  }

  pub found_if : (t : Exp) (test a b : Exp) (left : ℕ) (f y : Found) (q : Bool) → (left ≡ 0 → ⊥) → t ≡ If test a b → IsFound ds functions objects env test (left - 1) f → is_nil (value_object objects f.value) ≡ q → IsFound ds functions objects env (cond q b a) f.left y → IsFound ds functions objects env t left y
  found_if t test a b left f y q some e g n h = record {
    live = h.live;
    fewer = omega (arith, some, g.fewer, h.fewer);
    gives = turned (If test a b) t (value_object objects y.value) (value_object objects y.value) ((left - 1 - f.left) + (f.left - y.left) + 1) (left - y.left) (sym e) refl (omega (arith, some, g.fewer, h.fewer))
        (if_gives ds functions env test a b (value_object objects f.value) (value_object objects y.value) (left - 1 - f.left) (f.left - y.left) g.gives (subst (λ (r : Bool). GivesAtOnce ds functions env (cond r b a) (value_object objects y.value) (f.left - y.left)) (sym n) h.gives));
  }

  pub one_given : (ts : Exps) (t : Exp) (left : ℕ) (f : Found) (nothing : Value) → ts ≡ More t Last → value_object objects nothing ≡ nil → IsLiveValue objects nothing → IsFound ds functions objects env t left f → AreGiven ds functions objects env ts left (record { first = f.value; second = nothing; third = nothing; left = f.left })
  one_given ts t left f nothing e is live g = record {
    values = value_object objects f.value ∷ [];
    first_live = g.live;
    second_live = live;
    third_live = live;
    first = refl;
    second = sym is;
    third = sym is;
    fewer = g.fewer;
    give = subst (λ (us : Exps). GiveAtOnce ds functions env us (value_object objects f.value ∷ []) (left - f.left)) (sym e) (subst (λ (n : ℕ). GiveAtOnce ds functions env (More t Last) (value_object objects f.value ∷ []) n) (omega (arith, g.fewer))
        (more_give ds functions env t Last (value_object objects f.value) [] (left - f.left) 0 g.gives (none_give ds functions env)));
  }

  pub two_given : (ts : Exps) (t u : Exp) (left : ℕ) (f y : Found) (nothing : Value) → ts ≡ More t (More u Last) → value_object objects nothing ≡ nil → IsLiveValue objects nothing → IsFound ds functions objects env t left f → IsFound ds functions objects env u f.left y
      → AreGiven ds functions objects env ts left (record { first = f.value; second = y.value; third = nothing; left = y.left })
  two_given ts t u left f y nothing e is live g h =
      let a = value_object objects f.value in
      let b = value_object objects y.value in
      record {
        values = a ∷ b ∷ [];
        first_live = g.live;
        second_live = h.live;
        third_live = live;
        first = refl;
        second = refl;
        third = sym is;
        fewer = omega (arith, g.fewer, h.fewer);
        give = subst (λ (us : Exps). GiveAtOnce ds functions env us (a ∷ b ∷ []) (left - y.left)) (sym e) (subst (λ (n : ℕ). GiveAtOnce ds functions env (More t (More u Last)) (a ∷ b ∷ []) n) (omega (arith, g.fewer, h.fewer))
            (more_give ds functions env t (More u Last) a (b ∷ []) (left - f.left) (f.left - y.left + 0) g.gives (more_give ds functions env u Last b [] (f.left - y.left) 0 h.gives (none_give ds functions env))));
      }

  pub three_given : (ts : Exps) (t u v : Exp) (left : ℕ) (f y z : Found) → ts ≡ More t (More u (More v Last)) → IsFound ds functions objects env t left f → IsFound ds functions objects env u f.left y → IsFound ds functions objects env v y.left z
      → AreGiven ds functions objects env ts left (record { first = f.value; second = y.value; third = z.value; left = z.left })
  three_given ts t u v left f y z e g h k =
      let a = value_object objects f.value in
      let b = value_object objects y.value in
      let d = value_object objects z.value in
      record {
        values = a ∷ b ∷ d ∷ [];
        first_live = g.live;
        second_live = h.live;
        third_live = k.live;
        first = refl;
        second = refl;
        third = refl;
        fewer = omega (arith, g.fewer, h.fewer, k.fewer);
        give = subst (λ (us : Exps). GiveAtOnce ds functions env us (a ∷ b ∷ d ∷ []) (left - z.left)) (sym e) (subst (λ (n : ℕ). GiveAtOnce ds functions env (More t (More u (More v Last))) (a ∷ b ∷ d ∷ []) n) (omega (arith, g.fewer, h.fewer, k.fewer))
            (more_give ds functions env t (More u (More v Last)) a (b ∷ d ∷ []) (left - f.left) (f.left - y.left + (y.left - z.left + 0)) g.gives (more_give ds functions env u (More v Last) b (d ∷ []) (f.left - y.left) (y.left - z.left + 0) h.gives
            (more_give ds functions env v Last d [] (y.left - z.left) 0 k.gives (none_give ds functions env)))));
      }

  pub found_prim : (t : Exp) (p : _) (ts : Exps) (left : ℕ) (g : Given) (x : Value) → (left ≡ 0 → ⊥) → t ≡ Prim p ts → AreGiven ds functions objects env ts (left - 1) g → IsLiveValue objects x → value_object objects x ≡ prim_of p (value_object objects g.first) (value_object objects g.second) → IsFound ds functions objects env t left (record { value = x; left = g.left })
  found_prim t p ts left g x some e a live is = record {
    live = live;
    fewer = omega (arith, some, a.fewer);
    gives = turned (Prim p ts) t (value_object objects x) (value_object objects x) (left - 1 - g.left + 1) (left - g.left) (sym e) refl (omega (arith, some, a.fewer))
        (prim_gives ds functions env p ts a.values (value_object objects x) (left - 1 - g.left) a.give ((λ i. prim_of p (a.first i) (a.second i)) ∙ sym is) (value_narrow held whole x live));
  }

  pub found_call : (t : Exp) (f : ℕ) (ts : Exps) (d : Definition) (left : ℕ) (g : Given) (inner : List (ℕ × Object)) (y : Found) → (left ≡ 0 → ⊥) → t ≡ Call f ts → OpensAtOnce ds functions f → slice_get ds f ≡ Some d → (a : AreGiven ds functions objects env ts (left - 1) g)
      → inner ≡ extended d.formals a.values [] → IsFound ds functions objects inner d.body g.left y → IsFound ds functions objects env t left y
  found_call t f ts d left g inner y some e o s a n h = record {
    live = h.live;
    fewer = omega (arith, some, a.fewer, h.fewer);
    gives = turned (Call f ts) t (value_object objects y.value) (value_object objects y.value) (left - 1 - g.left + (g.left - y.left) + 1) (left - y.left) (sym e) refl (omega (arith, some, a.fewer, h.fewer))
        (call_gives ds functions env f ts d a.values (value_object objects y.value) (left - 1 - g.left) (g.left - y.left) o s a.give (subst (λ (i : List (ℕ × Object)). GivesAtOnce ds functions i d.body (value_object objects y.value) (g.left - y.left)) n h.gives));
  }

  pub one_local : (names : List ℕ) (n : ℕ) (g : Given) (ts : Exps) (left : ℕ) (a : AreGiven ds functions objects env ts left g) → length names ≡ 1 → slice_get names 0 ≡ Some n → (n, value_object objects g.first) ∷ [] ≡ extended names a.values []
  one_local names n g ts left a c e = ap (λ x. (n, x) ∷ []) (sym a.first) ∙ sym (one_bound names a.values n c e)

-- ---- lists of one term and of two
pub first_term : (ts : List Term) (x : Term) → slice_get ts 0 ≡ Some x → (us : Exps) × (terms_of ts ≡ More (term_of x) us)
first_term [] x e = none_some x e
first_term (t ∷ ts) x e = (terms_of ts, ap (λ (u : Term). More (term_of u) (terms_of ts)) (some_same t x e))

pub second_term : (ts : List Term) (x y : Term) → slice_get ts 0 ≡ Some x → slice_get ts 1 ≡ Some y → (us : Exps) × (terms_of ts ≡ More (term_of x) (More (term_of y) us))
second_term [] x y e f = none_some x e
second_term (t ∷ []) x y e f = none_some y f
second_term (t ∷ u ∷ ts) x y e f = (terms_of ts, λ i. More (term_of (some_same t x e i)) (More (term_of (some_same u y f i)) (terms_of ts)))

pub one_term : (ts : List Term) (x : Term) → length ts ≡ 1 → slice_get ts 0 ≡ Some x → terms_of ts ≡ More (term_of x) Last
one_term [] x c e = absurd (omega (arith, c))
one_term (t ∷ []) x c e = ap (λ (u : Term). More (term_of u) Last) (some_same t x e)
one_term (t ∷ u ∷ ts) x c e = absurd (omega (arith, c))

pub two_terms : (ts : List Term) (x y : Term) → length ts ≡ 2 → slice_get ts 0 ≡ Some x → slice_get ts 1 ≡ Some y → terms_of ts ≡ More (term_of x) (More (term_of y) Last)
two_terms [] x y c e f = absurd (omega (arith, c))
two_terms (t ∷ []) x y c e f = absurd (omega (arith, c))
two_terms (t ∷ u ∷ []) x y c e f = λ i. More (term_of (some_same t x e i)) (More (term_of (some_same u y f i)) Last)
two_terms (t ∷ u ∷ v ∷ ts) x y c e f = absurd (omega (arith, c))

pub three_terms : (ts : List Term) (x y z : Term) → length ts ≡ 3 → slice_get ts 0 ≡ Some x → slice_get ts 1 ≡ Some y → slice_get ts 2 ≡ Some z → terms_of ts ≡ More (term_of x) (More (term_of y) (More (term_of z) Last))
three_terms [] x y z c e f g = absurd (omega (arith, c))
three_terms (t ∷ []) x y z c e f g = absurd (omega (arith, c))
three_terms (t ∷ u ∷ []) x y z c e f g = absurd (omega (arith, c))
three_terms (t ∷ u ∷ v ∷ []) x y z c e f g = λ i. More (term_of (some_same t x e i)) (More (term_of (some_same u y f i)) (More (term_of (some_same v z g i)) Last))
three_terms (t ∷ u ∷ v ∷ w ∷ ts) x y z c e f g = absurd (omega (arith, c))
