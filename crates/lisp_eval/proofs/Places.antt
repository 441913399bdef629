-- Places in lists.
use Rattle.std.proofs.Common.{◌≡◌, ap, sym, refl, subst, ℕ, zero, suc, ◌<◌, Bool, true, false, ◌||◌, List, [], ◌∷◌, ◌++◌, length, arith, Option, Some, slice_get}
use Rattle.std.specs.Prelude.{map}
use Rattle.std.specs.List.{Contains}
use Rattle.gl_logic.specs.Definition.{Definition}
use Rattle.gl_logic.specs.Environment.{extended}
use Rattle.gl_logic.specs.Every.{Every}
use Rattle.gl_logic.specs.Object.{Object}
use Rattle.gl_logic.specs.Counts.{call_eq}
use Rattle.gl_logic.specs.Walk.{CallMade, then, body_walk}
use Rattle.gl_logic.proofs.Optional.{none_some, some_same, then_inverted}
use Rattle.hons_arena.specs.declared.id.Id.{Id}
use Rattle.hons_arena.specs.Ids.{object_at, IsLive}
use Rattle.lisp_eval.specs.Frames.{Frame, Apply, ToCall, Rest, call_of, focused, rest_of}
use Rattle.lisp_eval.specs.States.{values_of}
use Rattle.lisp_eval.specs.Threads.{Thread, is_kept, stays_shut, plain_call, threaded, thread_by, finished, skipped}
use Rattle.gl_logic.proofs.Calls.{call_equal_from, call_equal_itself}
use Rattle.lisp_eval.proofs.Standing.{stable_live}

abbrev pub At : {A : Type 0} → List A → ℕ → A → Type 0
At xs k x = slice_get xs k ≡ Some x

pub place_of : {A : Type 0} (xs : List A) (x : A) → Contains xs x → (k : ℕ) × At xs k x
place_of [] x c = absurd (omega (arith, c.1))
place_of (y ∷ xs) x (zero, l, e) = (0, ap (λ z. Some z) e)
place_of (y ∷ xs) x (suc i, l, e) = let k = place_of xs x (i, omega (arith, l), e) in (suc k.0, k.1)

pub contains_at : {A : Type 0} (xs : List A) (k : ℕ) (x : A) → At xs k x → Contains xs x
contains_at [] k x e = none_some x e
contains_at (y ∷ xs) zero x e = (0, omega arith, some_same y x e)
contains_at (y ∷ xs) (suc k) x e = let c = contains_at xs k x e in (suc c.0, omega (arith, c.1), c.2)

pub below_at : {A : Type 0} (xs : List A) (k : ℕ) (x : A) → At xs k x → k < length xs
below_at [] k x e = none_some x e
below_at (y ∷ xs) zero x e = omega arith
below_at (y ∷ xs) (suc k) x e = let l = below_at xs k x e in omega (arith, l)

pub map_at : {A B : Type 0} (f : A → B) (xs : List A) (k : ℕ) (x : A) → At xs k x → At (map f xs) k (f x)
map_at f [] k x e = none_some x e
map_at f (y ∷ xs) zero x e = ap (λ z. Some (f z)) (some_same y x e)
map_at f (y ∷ xs) (suc k) x e = map_at f xs k x e

pub map_back : {A B : Type 0} (f : A → B) (xs : List A) (k : ℕ) (y : B) → At (map f xs) k y → (x : A) × (At xs k x × (f x ≡ y))
map_back f [] k y e = none_some y e
map_back f (x ∷ xs) zero y e = (x, (refl, some_same (f x) y e))
map_back f (x ∷ xs) (suc k) y e = map_back f xs k y e

pub every_place : {A : Type 0} (P : A → Type 0) (xs : List A) (k : ℕ) (x : A) → Every P xs → At xs k x → P x
every_place P [] k x h e = none_some x e
every_place P (y ∷ xs) zero x h e = subst P (some_same y x e) h.0
every_place P (y ∷ xs) (suc k) x h e = every_place P xs k x h.1 e

or_right : (a b : Bool) → b ≡ true → (a || b) ≡ true
or_right true b h = refl
or_right false b h = h

or_left : (a b : Bool) → a ≡ true → (a || b) ≡ true
or_left true b h = refl
or_left false b h = absurd cc

pub kept_at : (cs : List CallMade) (k : ℕ) (c : CallMade) → At cs k c → is_kept cs c ≡ true
kept_at [] k c e = none_some c e
kept_at (d ∷ cs) zero c e = or_left (call_eq c d) (is_kept cs c) (subst (λ (z : CallMade). call_eq c z ≡ true) (sym (some_same d c e)) (call_equal_itself c))
kept_at (d ∷ cs) (suc k) c e = or_right (call_eq c d) (is_kept cs c) (kept_at cs k c e)

kept_by : (b : Bool) (c d : CallMade) (cs : List CallMade) → call_eq c d ≡ b → (b || is_kept cs c) ≡ true → (is_kept cs c ≡ true → (k : ℕ) × At cs k c) → (k : ℕ) × At (d ∷ cs) k c
kept_by true c d cs e h g = (0, ap (λ z. Some z) (sym (call_equal_from c d e)))
kept_by false c d cs e h g = let k = g h in (suc k.0, k.1)

pub kept_place : (cs : List CallMade) (c : CallMade) → is_kept cs c ≡ true → (k : ℕ) × At cs k c
kept_place [] c h = absurd cc
kept_place (d ∷ cs) c h = kept_by (call_eq c d) c d cs refl h (kept_place cs c)

-- ---- ids that stand for the same are the same
abbrev first_of : List Object → Object → Object
first_of [] y = y
first_of (x ∷ xs) y = x

abbrev rest_of_list : List Object → List Object
rest_of_list [] = []
rest_of_list (x ∷ xs) = xs

pub ids_live : (objects : List Object) (ids : List Id) (xs : List Object) → ((more : List Object) → values_of (objects ++ more) ids ≡ xs) → Every (IsLive objects) ids
ids_live objects [] xs h = tt
ids_live objects (i ∷ ids) xs h = (stable_live objects i (first_of xs (object_at objects i)) (λ more. ap (λ zs. first_of zs (object_at objects i)) (h more)), ids_live objects ids (rest_of_list xs) (λ more. ap rest_of_list (h more)))

pub same_ids : (objects : List Object) → ((a b : Id) → IsLive objects a → IsLive objects b → object_at objects a ≡ object_at objects b → a ≡ b) → (ids js : List Id) → Every (IsLive objects) ids → Every (IsLive objects) js → values_of objects ids ≡ values_of objects js → ids ≡ js
same_ids objects one [] [] h g e = refl
same_ids objects one [] (j ∷ js) h g e = absurd cc
same_ids objects one (i ∷ ids) [] h g e = absurd cc
same_ids objects one (i ∷ ids) (j ∷ js) h g e =
    let a : i ≡ j = one i j h.0 g.0 (ap (λ zs. first_of zs (object_at objects i)) e) in
    let b : ids ≡ js = same_ids objects one ids js h.1 g.1 (ap rest_of_list e) in λ k. a k ∷ b k

-- ---- a call of an evaluation that goes on is of a definition
module _ (ds : List Definition) (answered functions : List ℕ) where
  shut_there : (n f : ℕ) (xs : List Object) (b : Bool) (kept : List CallMade) (y : Thread) → elim b as (λ _. Option Thread) [
    | true ↦ then (plain_call ds (suc n) f xs) (λ r. skipped kept r.value)
    | false ↦ then (slice_get ds f) (λ d. then (thread_by (threaded ds answered functions n) d.body (extended d.formals xs []) kept) (finished functions f xs))
  ] ≡ Some y → (d : Definition) × (slice_get ds f ≡ Some d)
  shut_there n f xs true kept y e =
      let i = then_inverted (plain_call ds (suc n) f xs) (λ r. skipped kept r.value) y e in
      let j = then_inverted (body_walk ds n f xs) _ i.0 i.1.0 in
      let k = then_inverted (slice_get ds f) _ j.0 j.1.0 in (k.0, k.1.0)
  shut_there n f xs false kept y e = let k = then_inverted (slice_get ds f) _ y e in (k.0, k.1.0)

  threaded_there : (n f : ℕ) (xs : List Object) (kept : List CallMade) (y : Thread) → threaded ds answered functions n f xs kept ≡ Some y → (d : Definition) × (slice_get ds f ≡ Some d)
  threaded_there zero f xs kept y e = none_some y e
  threaded_there (suc n) f xs kept y e = shut_there n f xs (stays_shut answered functions f xs kept) kept y e

  pub call_is_there : (depth f : ℕ) (xs : List Object) (frames : List Frame) (kept : List CallMade) (rest : Rest) → rest_of ds answered functions depth (Apply (ToCall f) xs) frames kept ≡ Some rest → (d : Definition) × (slice_get ds f ≡ Some d)
  call_is_there depth f xs frames kept rest e =
      let i = then_inverted (focused ds answered functions depth (Apply (ToCall f) xs) kept) _ rest e in
      let j = then_inverted (threaded ds answered functions depth f xs kept) call_of i.0 i.1.0 in threaded_there depth f xs kept j.0 j.1.0
