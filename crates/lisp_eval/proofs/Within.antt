-- Cells that an evaluation speaks of.
use Rattle.std.proofs.Common.{◌≢◌, ◌∙◌, sym, zero, suc, ◌<◌, List, [], ◌∷◌, ◌++◌, subst, arith, length, length-append, get_or, inl, inr, ◌⊎◌}
use Rattle.std.specs.List.{All, AllPairs, Contains}
use Rattle.std.proofs.lemmas.List.{get_or_default}
use Rattle.std.proofs.lemmas.List.Elements.{All-contains_itself}
use Rattle.gl_logic.specs.Object.{Object}
use Rattle.gl_logic.specs.ObjectEq.{object_eq}
use Rattle.gl_logic.specs.Different.{different}
use Rattle.hons_arena.specs.Parts.{IsCellOf}
use Rattle.hons_arena.specs.Held.{Held, AddsCellsOf, IsEachOnce, LacksCell, HasNoRoomFor}
use Rattle.hons_arena.proofs.Counting.{each_once_few}
use Rattle.lisp_eval.specs.Within.{IsIn, IsWithin, AreWithin, CoverCells}

pub split : (xs ys : List Object) (y : Object) → Contains (xs ++ ys) y → Contains xs y ⊎ Contains ys y
split [] ys y c = inr c
split (x ∷ xs) ys y (zero, l, e) = inl (zero, omega arith, e)
split (x ∷ xs) ys y (suc i, l, e) = elim (split xs ys y (i, omega (arith, l), e)) [
  | inl c ↦ inl (suc c.0, omega (arith, c.1), c.2)
  | inr c ↦ inr c
]

pub all_at : (P : Object → Type 0) (xs : List Object) (y : Object) → All P xs → Contains xs y → P y
all_at P xs y h c = subst P c.2 (h c.0 y c.1)

pub stays : (start seen old new : List Object) (x : Object) → IsIn seen x → AddsCellsOf x old new → AreWithin start seen old → AreWithin start seen new
stays start seen old new x i a h y c = elim (split old a.made y (subst (λ (zs : List Object). Contains zs y) a.is c)) [
  | inl d ↦ h y d
  | inr d ↦ inr (record { value = x; seen_value = i; cell = all_at (λ z. IsCellOf z x) a.made y a.cells d })
]

pairs_cons : (x : Object) (ys : List Object) → ((y : Object) → Contains ys y → x ≢ y) → AllPairs (λ x y. x ≢ y) ys → AllPairs (λ x y. x ≢ y) (x ∷ ys)
pairs_cons x ys h p i zero d l m = absurd (omega (arith, l))
pairs_cons x ys h p zero (suc j) d l m = h (get_or ys j d) (All-contains_itself ys j d (omega (arith, m)))
pairs_cons x ys h p (suc i) (suc j) d l m = p i j d (omega (arith, l)) (omega (arith, m))

pub here : (start seen all : List Object) → CoverCells start seen all → (y : Object) → IsWithin start seen y → Contains all y
here start seen all c y (inl h) = c.first y h
here start seen all c y (inr h) = c.later y h

pub full : (start seen all : List Object) (held : Held) (x : Object) → IsIn seen x → LacksCell held x → IsEachOnce held.objects → AreWithin start seen held.objects → CoverCells start seen all → held.limit < length (different object_eq all)
full start seen all held x i l once h c =
    let ys : List Object = l.lacking ∷ held.objects in
    let e : IsEachOnce ys = pairs_cons l.lacking held.objects (λ y k q. l.none.absent (subst (λ (z : Object). Contains held.objects z) (sym q) k)) once in
    let w : All (Contains all) ys = all_within l.lacking held.objects (c.later l.lacking (record { value = x; seen_value = i; cell = l.cell })) (λ y k. here start seen all c y (h y k)) in
    omega (arith, each_once_few ys all e w, l.none.full) where
      all_within : {P : Object → Type 0} (x : Object) (ys : List Object) → P x → ((y : Object) → Contains ys y → P y) → All P (x ∷ ys)
      all_within x ys h g zero d m = h
      all_within x ys h g (suc i) d m = g (get_or ys i d) (All-contains_itself ys i d (omega (arith, m)))

-- ---- cells for which there is no room
pairs_both : (xs ys : List Object) → IsEachOnce xs → IsEachOnce ys → ((y : Object) → Contains xs y → Contains ys y → ⊥) → IsEachOnce (xs ++ ys)
pairs_both [] ys h g apart = g
pairs_both (x ∷ xs) ys h g apart =
    pairs_cons x (xs ++ ys) (λ y c e. elim (split xs ys y c) [
      | inl a ↦ h 0 (suc a.0) x (omega arith) (omega (arith, a.1)) (e ∙ sym (get_or_default xs a.0 x y a.1 ∙ a.2))
      | inr b ↦ apart y (0, omega arith, e) b
    ]) (pairs_both xs ys (λ i j d l m. h (suc i) (suc j) d (omega (arith, l)) (omega (arith, m))) g (λ y c. apart y (suc c.0, omega (arith, c.1), c.2)))

all_both : (P : Object → Type 0) (xs ys : List Object) → ((y : Object) → Contains xs y → P y) → ((y : Object) → Contains ys y → P y) → All P (xs ++ ys)
all_both P xs ys h g k d l = elim (split xs ys (get_or (xs ++ ys) k d) (All-contains_itself (xs ++ ys) k d l)) [
  | inl c ↦ h (get_or (xs ++ ys) k d) c
  | inr c ↦ g (get_or (xs ++ ys) k d) c
]

pub full_of_room : (start seen all : List Object) (held : Held) (x : Object) → IsIn seen x → HasNoRoomFor held x → IsEachOnce held.objects → AreWithin start seen held.objects → CoverCells start seen all → held.limit < length (different object_eq all)
full_of_room start seen all held x i r once h c =
    let ys : List Object = r.cells ++ held.objects in
    let e : IsEachOnce ys = pairs_both r.cells held.objects r.different once (λ y a b. all_at (λ z. Contains held.objects z → ⊥) r.cells y r.absent a b) in
    let w : All (Contains all) ys = all_both (Contains all) r.cells held.objects (λ y a. c.later y (record { value = x; seen_value = i; cell = all_at (λ z. IsCellOf z x) r.cells y r.needed a })) (λ y k. here start seen all c y (h y k)) in
    omega (arith, each_once_few ys all e w, r.more, length-append r.cells held.objects)
