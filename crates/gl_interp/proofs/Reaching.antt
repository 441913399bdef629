-- What a walk of a part has seen and made, the walk of the whole has seen and made.
use Rattle.std.proofs.Common.{◌≡◌, ℕ, zero, suc, ◌+◌, Bool, true, false, not, ◌&&◌, cond, List, [], ◌∷◌, ◌++◌, length, refl, ap, sym, subst, arith, Option, Some}
use Rattle.std.specs.Prelude.{slice_get}
use Rattle.std.specs.List.{Contains}
use Rattle.std.proofs.lemmas.List.Elements.{Contains-append_left, Contains-append_right}
use Rattle.gl_logic.specs.Object.{Object}
use Rattle.gl_logic.specs.ObjectEq.{is_nil}
use Rattle.gl_logic.specs.PrimValue.{prim_value}
use Rattle.gl_logic.specs.Environment.{extended}
use Rattle.gl_logic.specs.Definition.{Definition}
use Rattle.gl_logic.specs.Exp.{Exp}
use Rattle.gl_logic.specs.TermOf.{term_of}
use Rattle.gl_logic.specs.Walk.{CallMade, Walk, Walks, then, ended, joined, walk, body_walk, opened}
use Rattle.gl_logic.proofs.Optional.{none_some, some_same, then_inverted}
use Rattle.gl_logic.specs.declared.prim.Primitive.{Primitive}
use Rattle.gl_interp.specs.declared.frame.Work.{Work}
use Rattle.gl_interp.specs.declared.frame.Work.TheVariants as work
use Rattle.gl_interp.specs.declared.frame.Frame.{Frame}
use Rattle.gl_interp.specs.declared.frame.Frame.TheVariants as frame
use Rattle.gl_interp.specs.Walking.{Before, wrap, chained, At, worked, branched, walks, from, Makes, reached}

-- what stays true as more is seen and made
pub record IsKept (P : List Object → List CallMade → Type 0) : Type 0 where
  pub left : (s s' : List Object) (m m' : List CallMade) → P s m → P (s ++ s') (m ++ m')
  pub right : (s s' : List Object) (m m' : List CallMade) → P s' m' → P (s ++ s') (m ++ m')
  pub visit : (s : List Object) (x : Object) (m : List CallMade) → P s m → P (s ++ x ∷ []) m
  pub call : (s : List Object) (m : List CallMade) (c : CallMade) → P s m → P s (m ++ c ∷ [])

and_one : (a b : Bool) → (a && b) ≡ true → a ≡ true
and_one true b h = refl
and_one false b h = h

and_two : (a b : Bool) → (a && b) ≡ true → b ≡ true
and_two true b h = h
and_two false b h = absurd cc

is_false : (b : Bool) → not b ≡ true → b ≡ false
is_false true h = sym h
is_false false h = refl

module _ (P : List Object → List CallMade → Type 0) (k : IsKept P) where
  abbrev pub Has : Option Walk → Type 0
  Has o = (r : Walk) → o ≡ Some r → P r.seen r.made

  abbrev pub HasAll : Option Walks → Type 0
  HasAll o = (r : Walks) → o ≡ Some r → P r.seen r.made

  -- the parts that are behind one walk
  has_ended : (o : Option Walk) (s : List Object) (m : List CallMade) → P s m → Has (then o (ended s m))
  has_ended o s m i r e =
      let q = then_inverted o (ended s m) r e in
      subst (λ (w : Walk). P w.seen w.made) (some_same _ r q.1.1) (k.visit (s ++ q.0.seen) q.0.value (m ++ q.0.made) (k.left s q.0.seen m q.0.made i))

  pub has_wrap : (ws : List Before) (o : Option Walk) → Has o → Has (wrap ws o)
  has_wrap [] o h = h
  has_wrap (w ∷ ws) o h = has_wrap ws (then o (ended w.0 w.1))
      (λ r e. let q = then_inverted o (ended w.0 w.1) r e in subst (λ (y : Walk). P y.seen y.made) (some_same _ r q.1.1) (k.visit (w.0 ++ q.0.seen) q.0.value (w.1 ++ q.0.made) (k.right w.0 q.0.seen w.1 q.0.made (h q.0 q.1.0))))

  has_branched : (ds : List Definition) (m : ℕ) (env : List (ℕ × Object)) (a b : Exp) (f : Bool) (s : List Object) (c : List CallMade) → P s c
      → Has (elim f as (λ _. Option Walk) [ true ↦ then (walk ds m env b) (ended s c) | false ↦ then (walk ds m env a) (ended s c) ])
  has_branched ds m env a b true s c i = has_ended (walk ds m env b) s c i
  has_branched ds m env a b false s c i = has_ended (walk ds m env a) s c i

  pub has_opened : (ds : List Definition) (m f : ℕ) (rs : Walks) → P rs.seen rs.made → Has (opened ds m f rs)
  has_opened ds zero f rs i r e = none_some r e
  has_opened ds (suc m) f rs i r e = has_ended (body_walk ds m f rs.values) rs.seen (rs.made ++ (f, rs.values) ∷ []) (k.call rs.seen rs.made (f, rs.values) i) r e

  has_worked : (ds : List Definition) (m : ℕ) (env : List (ℕ × Object)) (w : Work) (rs : Walks) → P rs.seen rs.made → Has (worked ds m env w rs)
  has_worked ds m env (work.Prim p) rs i r e = subst (λ (y : Walk). P y.seen y.made) (some_same _ r e) (k.visit rs.seen (prim_value p rs.values) rs.made i)
  has_worked ds m env (work.Call f) rs i r e = has_opened ds m f.number rs i r e
  has_worked ds m env (work.Let names b) rs i r e = has_ended (walk ds m (extended names.now rs.values env) (term_of b.now)) rs.seen rs.made i r e

  has_joined : (o : Option Walk) (p : Option Walks) → Has o → HasAll (then o (λ r. then p (joined r)))
  has_joined o p h r e =
      let q = then_inverted o (λ w. then p (joined w)) r e in
      let z = then_inverted p (joined q.0) r q.1.1 in
      subst (λ (y : Walks). P y.seen y.made) (some_same _ r z.1.1) (k.left q.0.seen z.0.seen q.0.made z.0.made (h q.0 q.1.0))

  has_chained : (rs : List Walk) (o : Option Walks) → HasAll o → HasAll (chained rs o)
  has_chained [] o h r e = h r e
  has_chained (w ∷ rs) o h r e =
      let q = then_inverted (chained rs o) (joined w) r e in
      subst (λ (y : Walks). P y.seen y.made) (some_same _ r q.1.1) (k.right w.seen q.0.seen w.made q.0.made (has_chained rs o h q.0 q.1.0))

  -- where the path is true, what holds of the current walk holds of the whole's
  pub reaches_whole : (v : At) (fs : List Frame) (whole o : Option Walk) → reached v.truth fs ≡ true → Has o → Makes v fs whole o → Has whole
  reaches_whole v [] whole o h i p = subst (λ z. Has z) p i
  reaches_whole v (frame.Test a b env n ∷ fs) whole o h i p =
      reaches_whole v fs whole _ h (has_wrap p.0 _ (λ r e.
      let q = then_inverted o (branched v.definitions (n + v.more) (v.env env.number) (term_of a.now) (term_of b.now)) r e in
      has_branched v.definitions (n + v.more) (v.env env.number) (term_of a.now) (term_of b.now) (is_nil q.0.value) q.0.seen q.0.made (i q.0 q.1.0) r q.1.1)) p.1
  reaches_whole v (frame.Other c b env n saved rest ∷ fs) whole o h i p =
      reaches_whole v fs whole o (and_one _ _ h) i (subst (λ z. Makes v fs whole z) (ap (λ y. cond y o (wrap p.0 (walk v.definitions (n + v.more) (v.env env.number) (term_of b.now)))) (and_two _ _ h)) p.1)
  reaches_whole v (frame.Join c y saved ∷ fs) whole o h i p =
      reaches_whole v fs whole o (and_one _ _ h) i (subst (λ z. Makes v fs whole z) (ap (λ b. cond b (Some p.0) o) (is_false _ (and_two _ _ h))) p.1.1)
  reaches_whole v (frame.Arguments w done ts env n ∷ fs) whole o h i p =
      let behind = walks v.definitions (n + v.more) (v.env env.number) (from (suc (length done.items)) ts.now) in
      let parts : HasAll (chained p.1.0 (then o (λ r. then behind (joined r)))) = has_chained p.1.0 (then o (λ r. then behind (joined r))) (has_joined o behind i) in
      reaches_whole v fs whole _ h (has_wrap p.0 _ (λ r e.
      let q = then_inverted (chained p.1.0 (then o (λ z. then behind (joined z)))) (worked v.definitions (n + v.more) (v.env env.number) w) r e in
      has_worked v.definitions (n + v.more) (v.env env.number) w q.0 (parts q.0 q.1.0) r q.1.1)) p.1.1.1

-- ---- a value that was seen, and a call that was made
abbrev pub SeenIn : Object → List Object → List CallMade → Type 0
SeenIn x s m = (i : ℕ) × (slice_get s i ≡ Some x)

get_left : (xs ys : List Object) (i : ℕ) (x : Object) → slice_get xs i ≡ Some x → slice_get (xs ++ ys) i ≡ Some x
get_left [] ys i x e = none_some x e
get_left (y ∷ xs) ys zero x e = e
get_left (y ∷ xs) ys (suc i) x e = get_left xs ys i x e

seen_right : (xs ys : List Object) (x : Object) (m n : List CallMade) → SeenIn x ys m → SeenIn x (xs ++ ys) n
seen_right [] ys x m n i = i
seen_right (y ∷ xs) ys x m n i = let q = seen_right xs ys x m n i in (suc q.0, q.1)

pub seen_kept : (x : Object) → IsKept (SeenIn x)
seen_kept x = record {
  left = λ s t m n i. (i.0, get_left s t i.0 x i.1);
  right = λ s t m n i. seen_right s t x n (m ++ n) i;
  visit = λ s y m i. (i.0, get_left s (y ∷ []) i.0 x i.1);
  call = λ s m c i. i;
}

abbrev pub MadeIn : CallMade → List Object → List CallMade → Type 0
MadeIn c s m = Contains m c

pub made_kept : (c : CallMade) → IsKept (MadeIn c)
made_kept c = record {
  left = λ s t m n i. Contains-append_left m n c i;
  right = λ s t m n i. Contains-append_right m n c i;
  visit = λ s y m i. i;
  call = λ s m d i. Contains-append_left m (d ∷ []) c i;
}

-- a primitive's value is among the values seen
pub prim_seen : (ds : List Definition) (m : ℕ) (env : List (ℕ × Object)) (p : Primitive) (rs : Walks) → Has (SeenIn (prim_value p rs.values)) (seen_kept (prim_value p rs.values)) (worked ds m env (work.Prim p) rs)
prim_seen ds m env p rs r e = subst (λ (y : Walk). SeenIn (prim_value p rs.values) y.seen y.made) (some_same _ r e) (seen_right rs.seen (prim_value p rs.values ∷ []) (prim_value p rs.values) rs.made rs.made (0, refl))

-- a constant is
pub constant_seen : (x : Object) → Has (SeenIn x) (seen_kept x) (Some (record { value = x; seen = x ∷ []; made = [] }))
constant_seen x r e = subst (λ (y : Walk). SeenIn x y.seen y.made) (some_same _ r e) (0, refl)

-- a call is among those made
pub call_made : (ds : List Definition) (m f : ℕ) (rs : Walks) → Has (MadeIn (f, rs.values)) (made_kept (f, rs.values)) (opened ds m f rs)
call_made ds zero f rs r e = none_some r e
call_made ds (suc m) f rs r e =
    let made = rs.made ++ (f, rs.values) ∷ [] in
    let q = then_inverted (body_walk ds m f rs.values) (ended rs.seen made) r e in
    let here : Contains made (f, rs.values) = Contains-append_right rs.made ((f, rs.values) ∷ []) (f, rs.values) (0, omega arith, refl) in
    subst (λ (y : Walk). MadeIn (f, rs.values) y.seen y.made) (some_same _ r q.1.1) (Contains-append_left made q.0.made (f, rs.values) here)
