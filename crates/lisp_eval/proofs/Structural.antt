-- Definitions that only take objects apart and put them together see nothing but what is fine.
use Rattle.std.proofs.Common.{◌≡◌, ℕ, zero, suc, List, [], ◌∷◌, ◌++◌, Bool, true, false, eqb, if◌then◌else◌, Option, Some, subst, slice_get}
use Rattle.gl_logic.specs.Object.{Object, nil}
use Rattle.gl_logic.specs.ObjectEq.{is_nil}
use Rattle.gl_logic.specs.PrimValue.{prim_value}
use Rattle.gl_logic.specs.declared.prim.Primitive as primitive
use Rattle.gl_logic.specs.Environment.{look, bound, extended}
use Rattle.gl_logic.specs.Definition.{Definition}
use Rattle.gl_logic.specs.Exp.{Exp, Exps, Var, Const, If, Prim, Call, Let, Last, More}
use Rattle.gl_logic.specs.Walk.{Walk, Walks, CallMade, ended, walk_by, walks_by, opened, body_walk}
use Rattle.gl_logic.specs.Counts.{is_among}
use Rattle.gl_logic.proofs.Optional.{none_some, some_same, Holds, then_holds, pick_holds, then_inverted}
use Rattle.gl_logic.specs.Every.{Every}
use Rattle.gl_logic.proofs.MadeCalls.{every_append}
use Rattle.lisp_eval.proofs.Cover.{AnswersAreFine}

module _ (Fine : Object → Type 0) (nil_fine : Fine nil) where
  abbrev pub KeepsFine : primitive.Primitive → Type 0
  KeepsFine p = (xs : List Object) → Every Fine xs → Fine (prim_value p xs)

  -- constants are fine, primitives keep that, and calls are of these functions
  abbrev mutual
    pub IsStructural : List ℕ → Exp → Type 0
    IsStructural fs (Var v) = Unit {0}
    IsStructural fs (Const x) = Fine x
    IsStructural fs (If t a b) = IsStructural fs t × (IsStructural fs a × IsStructural fs b)
    IsStructural fs (Prim p ts) = KeepsFine p × AreStructural fs ts
    IsStructural fs (Call f ts) = (is_among fs f ≡ true) × AreStructural fs ts
    IsStructural fs (Let vs ts b) = AreStructural fs ts × IsStructural fs b

    pub AreStructural : List ℕ → Exps → Type 0
    AreStructural fs Last = Unit {0}
    AreStructural fs (More t ts) = IsStructural fs t × AreStructural fs ts

  abbrev EnvFine : List (ℕ × Object) → Type 0
  EnvFine env = Every (λ p. Fine p.1) env

  look_at : (b : Bool) (x y : Object) → Fine x → Fine y → Fine (if b then x else y)
  look_at true x y h g = h
  look_at false x y h g = g

  look_fine : (env : List (ℕ × Object)) (v : ℕ) → EnvFine env → Fine (look env v)
  look_fine [] v h = nil_fine
  look_fine (p ∷ env) v h = look_at (eqb p.0 v) p.1 (look env v) h.0 (look_fine env v h.1)

  bound_fine : (vs : List ℕ) (xs : List Object) → Every Fine xs → EnvFine (bound vs xs)
  bound_fine [] xs h = tt
  bound_fine (v ∷ vs) [] h = (nil_fine, bound_fine vs [] tt)
  bound_fine (v ∷ vs) (x ∷ xs) h = (h.0, bound_fine vs xs h.1)

  extended_fine : (vs : List ℕ) (xs : List Object) (env : List (ℕ × Object)) → Every Fine xs → EnvFine env → EnvFine (extended vs xs env)
  extended_fine vs xs env h g = every_append (λ p. Fine p.1) (bound vs xs) env (bound_fine vs xs h) g

  abbrev Good : Walk → Type 0
  Good r = Every Fine r.seen × Fine r.value

  abbrev AllGood : Walks → Type 0
  AllGood rs = Every Fine rs.seen × Every Fine rs.values

  ended_good : (seen : List Object) (made : List CallMade) (y : Walk) → Every Fine seen → Good y → Holds Good (ended seen made y)
  ended_good seen made y h g r e = subst Good (some_same _ _ e) (every_append Fine (seen ++ y.seen) (y.value ∷ []) (every_append Fine seen y.seen h g.0) (g.1, tt), g.1)

  module _ (fs : List ℕ) (c : ℕ → Walks → Option Walk) (calls : (f : ℕ) (xs : Walks) → is_among fs f ≡ true → AllGood xs → Holds Good (c f xs)) where
    mutual
      pub good : (t : Exp) (env : List (ℕ × Object)) → IsStructural fs t → EnvFine env → Holds Good (walk_by c t env)
      good (Var v) env s h = λ r e. subst Good (some_same _ _ e) ((look_fine env v h, tt), look_fine env v h)
      good (Const x) env s h = λ r e. subst Good (some_same _ _ e) ((s, tt), s)
      good (If t a b) env s h = then_holds Good Good (walk_by c t env) _ (good t env s.0 h) (λ x g. pick_holds Good (is_nil x.value) _ _
          (then_holds Good Good (walk_by c b env) _ (good b env s.1.1 h) (λ y i. ended_good x.seen x.made y g.0 i))
          (then_holds Good Good (walk_by c a env) _ (good a env s.1.0 h) (λ y i. ended_good x.seen x.made y g.0 i)))
      good (Prim p ts) env s h = then_holds AllGood Good (walks_by c ts env) _ (all_good ts env s.1 h) (λ rs g r e. subst Good (some_same _ _ e) (every_append Fine rs.seen (prim_value p rs.values ∷ []) g.0 (s.0 rs.values g.1, tt), s.0 rs.values g.1))
      good (Call f ts) env s h = then_holds AllGood Good (walks_by c ts env) _ (all_good ts env s.1 h) (λ rs g. calls f rs s.0 g)
      good (Let vs ts b) env s h = then_holds AllGood Good (walks_by c ts env) _ (all_good ts env s.0 h) (λ rs g. then_holds Good Good (walk_by c b (extended vs rs.values env)) _ (good b (extended vs rs.values env) s.1 (extended_fine vs rs.values env g.1 h)) (λ y i. ended_good rs.seen rs.made y g.0 i))

      pub all_good : (ts : Exps) (env : List (ℕ × Object)) → AreStructural fs ts → EnvFine env → Holds AllGood (walks_by c ts env)
      all_good Last env s h = λ r e. subst AllGood (some_same _ _ e) (tt, tt)
      all_good (More t ts) env s h = then_holds Good AllGood (walk_by c t env) _ (good t env s.0 h) (λ x g. then_holds AllGood AllGood (walks_by c ts env) _ (all_good ts env s.1 h) (λ rs i r e. subst AllGood (some_same _ _ e) (every_append Fine x.seen rs.seen g.0 i.0, (g.1, i.1))))

  module _ (ds : List Definition) (fs : List ℕ) (bodies : (f : ℕ) (d : Definition) → is_among fs f ≡ true → slice_get ds f ≡ Some d → IsStructural fs d.body) where
    opened_good : (n f : ℕ) (xs : Walks) → is_among fs f ≡ true → AllGood xs → Holds Good (opened ds n f xs)
    opened_good zero f xs a h = λ r e. none_some r e
    opened_good (suc n) f xs a h = λ r e.
        let j = then_inverted (body_walk ds n f xs.values) _ r e in
        let i = then_inverted (slice_get ds f) _ j.0 j.1.0 in
        let d = i.0 in
        let g = good fs (opened ds n) (opened_good n) d.body (extended d.formals xs.values []) (bodies f d a i.1.0) (extended_fine d.formals xs.values [] h.1 tt) j.0 i.1.1 in
        ended_good xs.seen (xs.made ++ (f, xs.values) ∷ []) j.0 h.0 g r j.1.1

    -- so what tables answer for them is fine
    pub answers_are_fine : AnswersAreFine ds fs Fine
    answers_are_fine f xs a h d n r e w = (good fs (opened ds n) (opened_good n) d.body (extended d.formals xs []) (bodies f d a e) (extended_fine d.formals xs [] h tt) r w).0
