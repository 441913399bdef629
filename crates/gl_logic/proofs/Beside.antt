-- The plain walk of a term and its own walk, side by side, for a relation that the visits keep.
use Rattle.std.proofs.Common.{◌≡◌, ◌∙◌, ap, refl, ℕ, List, [], ◌∷◌, ◌++◌, Bool, true, false, Option, Some, subst, slice_get}
use Rattle.gl_logic.specs.Object.{Object}
use Rattle.gl_logic.specs.ObjectEq.{is_nil}
use Rattle.gl_logic.specs.PrimValue.{prim_value}
use Rattle.gl_logic.specs.Environment.{look, extended}
use Rattle.gl_logic.specs.Definition.{Definition}
use Rattle.gl_logic.specs.Exp.{Exp, Exps, Var, Const, If, Prim, Call, Let, Last, More}
use Rattle.gl_logic.specs.Walk.{Walk, Walks, CallMade, then, walk_by, walks_by, body_by}
use Rattle.gl_logic.proofs.Optional.{some_same, then_inverted}

-- ---- a result beside a plain one: it has the same value
abbrev pub own_of : Walk → List Object → List CallMade → Walk
own_of r seen made = record { value = r.value; seen = seen; made = made }

abbrev pub owns_of : Walks → List Object → List CallMade → Walks
owns_of rs seen made = record { values = rs.values; seen = seen; made = made }

pub record At {A B : Type 0} (own_of : A → List Object → List CallMade → B) (R : A → List Object → Type 0) (p : Option B) (a : A) : Type 0 where
  pub own : List Object
  pub own_made : List CallMade
  pub own_is : p ≡ Some (own_of a own own_made)
  pub related : R a own

abbrev pub Beside : {A B : Type 0} → (A → List Object → List CallMade → B) → (A → List Object → Type 0) → Option A → Option B → Type 0
Beside {A} own_of R o p = (a : A) → o ≡ Some a → At own_of R p a

pub then_is : {A B : Type 0} (p : Option A) (f : A → Option B) (a : A) (b : B) → p ≡ Some a → f a ≡ Some b → then p f ≡ Some b
then_is p f a b e g = ap (λ o. then o f) e ∙ g

then_beside : {A B A' B' : Type 0} (ow : A → List Object → List CallMade → B) (R : A → List Object → Type 0) (ow' : A' → List Object → List CallMade → B') (R' : A' → List Object → Type 0) (o : Option A) (p : Option B) (f : A → Option A') (g : B → Option B')
    → Beside ow R o p → ((a : A) (x : At ow R p a) → Beside ow' R' (f a) (g (ow a x.own x.own_made))) → Beside ow' R' (then o f) (then p g)
then_beside ow R ow' R' o p f g first next r e =
    let i = then_inverted o f r e in
    let x = first i.0 i.1.0 in
    let y = next i.0 x r i.1.1 in
    record { own = y.own; own_made = y.own_made; own_is = then_is p g (ow i.0 x.own x.own_made) _ x.own_is y.own_is; related = y.related }

some_beside : {A B : Type 0} (ow : A → List Object → List CallMade → B) (R : A → List Object → Type 0) (a : A) (own : List Object) (own_made : List CallMade) → R a own → Beside ow R (Some a) (Some (ow a own own_made))
some_beside ow R a own own_made h b e = subst (λ c. At ow R (Some (ow a own own_made)) c) (some_same a b e) (record { own = own; own_made = own_made; own_is = refl; related = h })

-- ---- a relation of the values, what the plain walk sees and makes, and what the own walk sees
abbrev pub Relation : Type 1
Relation = List Object → List Object → List CallMade → List Object → Type 0

-- at the visits that are no calls
pub record IsKeptByVisits (Rel : Relation) : Type 0 where
  pub nothing : Rel [] [] [] []
  pub gathers : (xs pl : List Object) (m : List CallMade) (ow : List Object) (x : Object) → Rel xs pl m ow → Rel (x ∷ []) (pl ++ x ∷ []) m (ow ++ x ∷ [])
  pub ends : (xs pl : List Object) (m : List CallMade) (ow : List Object) (x : Object) (pl' : List Object) (m' : List CallMade) (ow' : List Object)
      → Rel xs pl m ow → Rel (x ∷ []) pl' m' ow' → Rel (x ∷ []) (pl ++ pl' ++ x ∷ []) (m ++ m') (ow ++ ow' ++ x ∷ [])
  pub joins : (x : Object) (pl : List Object) (m : List CallMade) (ow xs pl' : List Object) (m' : List CallMade) (ow' : List Object)
      → Rel (x ∷ []) pl m ow → Rel xs pl' m' ow' → Rel (x ∷ xs) (pl ++ pl') (m ++ m') (ow ++ ow')

module _ (Rel : Relation) (v : IsKeptByVisits Rel) where
  abbrev pub OneRel : Walk → List Object → Type 0
  OneRel r own = Rel (r.value ∷ []) r.seen r.made own

  abbrev pub AllRel : Walks → List Object → Type 0
  AllRel rs own = Rel rs.values rs.seen rs.made own

  abbrev pub One : Option Walk → Option Walk → Type 0
  One o p = Beside own_of OneRel o p

  abbrev pub Many : Option Walks → Option Walks → Type 0
  Many o p = Beside owns_of AllRel o p

  pick_one : (b : Bool) (o o' p p' : Option Walk) → One o p → One o' p' → One (elim b as (λ _. Option Walk) [ true ↦ o | false ↦ o' ]) (elim b as (λ _. Option Walk) [ true ↦ p | false ↦ p' ])
  pick_one true o o' p p' g h = g
  pick_one false o o' p p' g h = h

  module _ (c d : ℕ → Walks → Option Walk) (calls : (f : ℕ) (xs : Walks) (own : List Object) (own_made : List CallMade) → Rel xs.values xs.seen xs.made own → One (c f xs) (d f (owns_of xs own own_made))) where
    mutual
      pub one : (t : Exp) (env : List (ℕ × Object)) → One (walk_by c t env) (walk_by d t env)
      one (Var w) env = some_beside own_of OneRel _ _ _ (v.gathers [] [] [] [] (look env w) v.nothing)
      one (Const x) env = some_beside own_of OneRel _ _ _ (v.gathers [] [] [] [] x v.nothing)
      one (If t a b) env = then_beside own_of OneRel own_of OneRel (walk_by c t env) (walk_by d t env) _ _ (one t env) (λ x X. pick_one (is_nil x.value) _ _ _ _
          (then_beside own_of OneRel own_of OneRel (walk_by c b env) (walk_by d b env) _ _ (one b env) (λ y Y. some_beside own_of OneRel _ _ _ (v.ends _ _ _ _ y.value _ _ _ X.related Y.related)))
          (then_beside own_of OneRel own_of OneRel (walk_by c a env) (walk_by d a env) _ _ (one a env) (λ y Y. some_beside own_of OneRel _ _ _ (v.ends _ _ _ _ y.value _ _ _ X.related Y.related))))
      one (Prim p ts) env = then_beside owns_of AllRel own_of OneRel (walks_by c ts env) (walks_by d ts env) _ _ (many ts env) (λ xs X. some_beside own_of OneRel _ _ _ (v.gathers _ _ _ _ (prim_value p xs.values) X.related))
      one (Call f ts) env = then_beside owns_of AllRel own_of OneRel (walks_by c ts env) (walks_by d ts env) _ _ (many ts env) (λ xs X. calls f xs X.own X.own_made X.related)
      one (Let vs ts b) env = then_beside owns_of AllRel own_of OneRel (walks_by c ts env) (walks_by d ts env) _ _ (many ts env) (λ xs X.
          then_beside own_of OneRel own_of OneRel (walk_by c b (extended vs xs.values env)) (walk_by d b (extended vs xs.values env)) _ _ (one b (extended vs xs.values env)) (λ y Y. some_beside own_of OneRel _ _ _ (v.ends _ _ _ _ y.value _ _ _ X.related Y.related)))

      pub many : (ts : Exps) (env : List (ℕ × Object)) → Many (walks_by c ts env) (walks_by d ts env)
      many Last env = some_beside owns_of AllRel _ _ _ v.nothing
      many (More t ts) env = then_beside own_of OneRel owns_of AllRel (walk_by c t env) (walk_by d t env) _ _ (one t env) (λ x X.
          then_beside owns_of AllRel owns_of AllRel (walks_by c ts env) (walks_by d ts env) _ _ (many ts env) (λ xs Y. some_beside owns_of AllRel _ _ _ (v.joins x.value _ _ _ xs.values _ _ _ X.related Y.related)))

    pub body_beside : (ds : List Definition) (f : ℕ) (xs : List Object) → One (body_by c ds f xs) (body_by d ds f xs)
    body_beside ds f xs r e =
        let i = then_inverted (slice_get ds f) _ r e in
        let b = one i.0.body (extended i.0.formals xs []) r i.1.1 in
        record { own = b.own; own_made = b.own_made; own_is = then_is (slice_get ds f) _ i.0 _ i.1.0 b.own_is; related = b.related }
