-- What the value of a term says of the values of its parts.
use Rattle.std.proofs.Common.{◌≡◌, ◌∙◌, ap, sym, refl, subst, ℕ, zero, suc, Bool, true, false, List, [], ◌∷◌, Option, Some, slice_get, ◌⊎◌, inl, inr}
use Rattle.gl_logic.specs.Object.{Object, nil}
use Rattle.gl_logic.specs.ObjectEq.{is_nil}
use Rattle.gl_logic.specs.PrimValue.{prim_value, prim_of}
use Rattle.gl_logic.specs.Environment.{extended}
use Rattle.gl_logic.specs.Definition.{Definition}
use Rattle.gl_logic.specs.Exp.{Exp, Exps, Const, If, Prim, Call, Last, More}
use Rattle.gl_logic.specs.Walk.{Walk, Walks, then, ended, gathered, joined, walk_by, walks_by, body_by, opened}
use Rattle.gl_logic.specs.declared.prim.Primitive.{Primitive}
use Rattle.gl_logic.proofs.Optional.{none_some, some_same, then_inverted}

-- what a call gives: from walks of these values, this value
pub record Gives (c : ℕ → Walks → Option Walk) (f : ℕ) (xs : List Object) (x : Object) : Type 0 where
  pub walks : Walks
  pub run : Walk
  pub values : walks.values ≡ xs
  pub gives : c f walks ≡ Some run
  pub value : run.value ≡ x

module _ (c : ℕ → Walks → Option Walk) (env : List (ℕ × Object)) where
  -- a term has this value, and terms have these
  abbrev pub To : Exp → Object → Type 0
  To t x = (r : Walk) × (walk_by c t env ≡ Some r) × (r.value ≡ x)

  abbrev pub AllTo : Exps → List Object → Type 0
  AllTo ts xs = (rs : Walks) × (walks_by c ts env ≡ Some rs) × (rs.values ≡ xs)

  pub const_to : (x y : Object) → To (Const x) y → y ≡ x
  const_to x y k = sym k.2 ∙ ap (λ (r : Walk). r.value) (sym (some_same _ _ k.1))

  pub last_to : (xs : List Object) → AllTo Last xs → xs ≡ []
  last_to xs k = sym k.2 ∙ ap (λ (rs : Walks). rs.values) (sym (some_same _ _ k.1))

  pub more_to : (t : Exp) (ts : Exps) (xs : List Object) → AllTo (More t ts) xs → (y : Object) × ((ys : List Object) × (To t y × AllTo ts ys × (xs ≡ y ∷ ys)))
  more_to t ts xs k =
      let i = then_inverted (walk_by c t env) (λ r. then (walks_by c ts env) (joined r)) k.0 k.1 in
      let j = then_inverted (walks_by c ts env) (joined i.0) k.0 i.1.1 in
      let e = some_same _ _ j.1.1 in
      (i.0.value, (j.0.values, ((i.0, i.1.0, refl), (j.0, j.1.0, refl), sym k.2 ∙ ap (λ (rs : Walks). rs.values) (sym e))))

  pub prim_to : (p : Primitive) (ts : Exps) (x : Object) → To (Prim p ts) x → (ys : List Object) × (AllTo ts ys × (x ≡ prim_value p ys))
  prim_to p ts x k =
      let i = then_inverted (walks_by c ts env) (λ rs. gathered (prim_value p rs.values) rs) k.0 k.1 in
      let e = some_same _ _ i.1.1 in
      (i.0.values, ((i.0, i.1.0, refl), sym k.2 ∙ ap (λ (r : Walk). r.value) (sym e)))

  pub call_to : (f : ℕ) (ts : Exps) (x : Object) → To (Call f ts) x → (ys : List Object) × (AllTo ts ys × Gives c f ys x)
  call_to f ts x k =
      let i = then_inverted (walks_by c ts env) (c f) k.0 k.1 in
      (i.0.values, ((i.0, i.1.0, refl), record { walks = i.0; run = k.0; values = refl; gives = i.1.1; value = k.2 }))

  branch : (a b : Exp) (q : Bool) (ra r : Walk) (x : Object) → r.value ≡ x
      → elim q as (λ _. Option Walk) [ true ↦ then (walk_by c b env) (ended ra.seen ra.made) | false ↦ then (walk_by c a env) (ended ra.seen ra.made) ] ≡ Some r
      → ((q ≡ true) × To b x) ⊎ ((q ≡ false) × To a x)
  branch a b true ra r x v e =
      let j = then_inverted (walk_by c b env) (ended ra.seen ra.made) r e in
      inl (refl, (j.0, j.1.0, ap (λ (w : Walk). w.value) (some_same _ _ j.1.1) ∙ v))
  branch a b false ra r x v e =
      let j = then_inverted (walk_by c a env) (ended ra.seen ra.made) r e in
      inr (refl, (j.0, j.1.0, ap (λ (w : Walk). w.value) (some_same _ _ j.1.1) ∙ v))

  pub if_to : (t a b : Exp) (x : Object) → To (If t a b) x → (y : Object) × (To t y × (((is_nil y ≡ true) × To b x) ⊎ ((is_nil y ≡ false) × To a x)))
  if_to t a b x k =
      let i = then_inverted (walk_by c t env) (λ r. elim (is_nil r.value) as (λ _. Option Walk) [ true ↦ then (walk_by c b env) (ended r.seen r.made) | false ↦ then (walk_by c a env) (ended r.seen r.made) ]) k.0 k.1 in
      (i.0.value, ((i.0, i.1.0, refl), branch a b (is_nil i.0.value) i.0 k.0 x k.2 i.1.1))

  -- ---- calls of one and of two arguments
  pub one_to : (t : Exp) (xs : List Object) → AllTo (More t Last) xs → (y : Object) × (To t y × (xs ≡ y ∷ []))
  one_to t xs k =
      let m = more_to t Last xs k in
      (m.0, (m.1.1.0, m.1.1.2 ∙ ap (λ ys. m.0 ∷ ys) (last_to m.1.0 m.1.1.1)))

  pub two_to : (t u : Exp) (xs : List Object) → AllTo (More t (More u Last)) xs → (y : Object) × ((z : Object) × (To t y × To u z × (xs ≡ y ∷ z ∷ [])))
  two_to t u xs k =
      let m = more_to t (More u Last) xs k in
      let o = one_to u m.1.0 m.1.1.1 in
      (m.0, (o.0, (m.1.1.0, o.1.0, m.1.1.2 ∙ ap (λ ys. m.0 ∷ ys) o.1.1)))

  pub prim_one_to : (p : Primitive) (t : Exp) (x : Object) → To (Prim p (More t Last)) x → (y : Object) × (To t y × (x ≡ prim_of p y nil))
  prim_one_to p t x k =
      let i = prim_to p (More t Last) x k in
      let o = one_to t i.0 i.1.0 in
      (o.0, (o.1.0, i.1.1 ∙ ap (prim_value p) o.1.1))

  pub prim_two_to : (p : Primitive) (t u : Exp) (x : Object) → To (Prim p (More t (More u Last))) x → (y : Object) × ((z : Object) × (To t y × To u z × (x ≡ prim_of p y z)))
  prim_two_to p t u x k =
      let i = prim_to p (More t (More u Last)) x k in
      let o = two_to t u i.0 i.1.0 in
      (o.0, (o.1.0, (o.1.1.0, o.1.1.1, i.1.1 ∙ ap (prim_value p) o.1.1.2)))

  pub call_one_to : (f : ℕ) (t : Exp) (x : Object) → To (Call f (More t Last)) x → (y : Object) × (To t y × Gives c f (y ∷ []) x)
  call_one_to f t x k =
      let i = call_to f (More t Last) x k in
      let o = one_to t i.0 i.1.0 in
      (o.0, (o.1.0, subst (λ ys. Gives c f ys x) o.1.1 i.1.1))

  pub call_two_to : (f : ℕ) (t u : Exp) (x : Object) → To (Call f (More t (More u Last))) x → (y : Object) × ((z : Object) × (To t y × To u z × Gives c f (y ∷ z ∷ []) x))
  call_two_to f t u x k =
      let i = call_to f (More t (More u Last)) x k in
      let o = two_to t u i.0 i.1.0 in
      (o.0, (o.1.0, (o.1.1.0, o.1.1.1, subst (λ ys. Gives c f ys x) o.1.1.2 i.1.1)))

-- ---- a definition that is opened
pub record Opens (ds : List Definition) (n : ℕ) (d : Definition) (xs : List Object) (x : Object) : Type 0 where
  pub depth : ℕ
  pub body : To (opened ds depth) (extended d.formals xs []) d.body x

pub opens : (ds : List Definition) (n f : ℕ) (d : Definition) (xs : List Object) (x : Object) → slice_get ds f ≡ Some d → Gives (opened ds n) f xs x → Opens ds n d xs x
opens ds zero f d xs x h k = none_some k.run k.gives
opens ds (suc n) f d xs x h k =
    let i = then_inverted (body_by (opened ds n) ds f k.walks.values) (ended k.walks.seen _) k.run k.gives in
    let e = some_same _ _ i.1.1 in
    let b : body_by (opened ds n) ds f xs ≡ Some i.0 = ap (body_by (opened ds n) ds f) (sym k.values) ∙ i.1.0 in
    let w : walk_by (opened ds n) d.body (extended d.formals xs []) ≡ Some i.0 = sym (ap (λ o. then o (λ (e : Definition). walk_by (opened ds n) e.body (extended e.formals xs []))) h) ∙ b in
    record { depth = n; body = (i.0, w, ap (λ (r : Walk). r.value) e ∙ k.value) }

pub is_there : (ds : List Definition) (n f : ℕ) (xs : List Object) (x : Object) → Gives (opened ds n) f xs x → (d : Definition) × (slice_get ds f ≡ Some d)
is_there ds zero f xs x k = none_some k.run k.gives
is_there ds (suc n) f xs x k =
    let i = then_inverted (body_by (opened ds n) ds f k.walks.values) (ended k.walks.seen _) k.run k.gives in
    let j = then_inverted (slice_get ds f) (λ d. walk_by (opened ds n) d.body (extended d.formals k.walks.values [])) i.0 i.1.0 in
    (j.0, j.1.0)
