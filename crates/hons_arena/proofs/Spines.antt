-- Objects taken apart into their elements and put together again.
use Rattle.std.proofs.Common.{◌≡◌, ℕ, suc, ◌+◌, ◌<◌, ◌≤◌, arith, length, List, [], ◌∷◌, ◌++◌, refl, sym, ◌∙◌, ap, map, inl, inr, Result, Ok, Err, IfOk, IsErr}
use Rattle.std.proofs.lemmas.List.{length-map, map_push, length_push}
use Rattle.gl_logic.specs.Lists.{IsAtom, size_of}
use Rattle.gl_logic.specs.Object.{Object, Int, Character, Symbol, Text, Cons}
use Rattle.gl_logic.specs.Parts.{IsLarge, leaves, car_steps}
use Rattle.hons_arena.specs.declared.id.Id.{Id}
use Rattle.hons_arena.specs.declared.tree_of.TreeFault.{TreeFault}
use Rattle.hons_arena.specs.Ids.{object_at, ArePartsOf}
use Rattle.hons_arena.specs.Spine.{onto, ExceedsRoom}

pub onto-push : (xs : List Object) (x t : Object) → onto (xs ++ x ∷ []) t ≡ onto xs (Cons x t)
onto-push [] x t = refl
onto-push (y ∷ xs) x t = ap (Cons y) (onto-push xs x t)

pub size-onto : (xs : List Object) (t : Object) → length xs + size_of t ≤ size_of (onto xs t)
size-onto [] t = omega arith
size-onto (x ∷ xs) t = omega (arith, size-onto xs t)

pub steps-onto : (xs : List Object) (t : Object) → car_steps t ≤ car_steps (onto xs t)
steps-onto [] t = omega arith
steps-onto (x ∷ xs) t = omega (arith, steps-onto xs t)

pub atom_size : (x : Object) → IsAtom x → size_of x ≡ 0
atom_size (Int z) h = refl
atom_size (Character n) h = refl
atom_size (Symbol n) h = refl
atom_size (Text n) h = refl
atom_size (Cons a d) h = absurd h

pub atom_steps : (x : Object) → IsAtom x → car_steps x ≡ 0
atom_steps (Int z) h = refl
atom_steps (Character n) h = refl
atom_steps (Symbol n) h = refl
atom_steps (Text n) h = refl
atom_steps (Cons a d) h = absurd h

-- one leaf more than conses
pub leaves_are : (x : Object) → leaves x ≡ size_of x + 1
leaves_are (Int z) = refl
leaves_are (Character n) = refl
leaves_are (Symbol n) = refl
leaves_are (Text n) = refl
leaves_are (Cons a d) = omega (arith, leaves_are a, leaves_are d)

pub large_from : (x : Object) → ExceedsRoom x 999999 1000 → IsLarge x
large_from x (inl h) = inl (omega (arith, h, leaves_are x))
large_from x (inr h) = inr h

pub not_large : (x : Object) → size_of x ≤ 999999 → car_steps x ≤ 1000 → IsLarge x → ⊥
not_large x s c (inl h) = omega (arith, s, h, leaves_are x)
not_large x s c (inr h) = omega (arith, c, h)

-- one id more in front
pub front_more : (objects : List Object) (ids : List Id) (i : Id) (t : Object) → onto (map (object_at objects) (ids ++ i ∷ [])) t ≡ onto (map (object_at objects) ids) (Cons (object_at objects i) t)
front_more objects ids i t = ap (λ xs. onto xs t) (map_push (object_at objects) ids i) ∙ onto-push (map (object_at objects) ids) (object_at objects i) t

pub parts_whole : (objects : List Object) (x : Object) (a d : Id) → ArePartsOf objects x a d → x ≡ Cons (object_at objects a) (object_at objects d)
parts_whole objects x a d p = p.whole ∙ (λ i. Cons (sym p.first.1 i) (sym p.rest.1 i))

pub spine_more : (objects : List Object) (ids : List Id) (tail a d : Id) (x : Object) → ArePartsOf objects (object_at objects tail) a d → onto (map (object_at objects) ids) (object_at objects tail) ≡ x
    → onto (map (object_at objects) (ids ++ a ∷ [])) (object_at objects d) ≡ x
spine_more objects ids tail a d x p e = front_more objects ids a (object_at objects d) ∙ (ap (onto (map (object_at objects) ids)) (sym (parts_whole objects (object_at objects tail) a d p)) ∙ e)

pub spine_falls : (objects : List Object) (x : Object) (a d : Id) → ArePartsOf objects x a d → size_of (object_at objects d) < size_of x
spine_falls objects x a d p = omega (arith, ap size_of (parts_whole objects x a d p))

pub spine_large : (objects : List Object) (ids : List Id) (tail a d : Id) (x : Object) (n : ℕ) → ArePartsOf objects (object_at objects tail) a d → onto (map (object_at objects) ids) (object_at objects tail) ≡ x → n ≡ length ids → n < size_of x
spine_large objects ids tail a d x n p e l =
    omega (arith, ap size_of e, size-onto (map (object_at objects) ids) (object_at objects tail), length-map ids (object_at objects), l, spine_falls objects (object_at objects tail) a d p)

-- what is built so far, with one element more to build
module _ (objects : List Object) (ids : List Id) (car : Id) (tree whole : Object) (room start steps : ℕ)
    (is : onto (map (object_at objects) (ids ++ car ∷ [])) tree ≡ whole) (size : size_of tree + room + length (ids ++ car ∷ []) ≡ start) where
  pub next : Object
  next = Cons (object_at objects car) tree

  pub next_is : onto (map (object_at objects) ids) (Cons (object_at objects car) tree) ≡ whole
  next_is = sym (front_more objects ids car tree) ∙ is

  pub deep : steps < suc (car_steps (object_at objects car)) → steps < car_steps whole
  deep h = omega (arith, h, ap car_steps next_is, steps-onto (map (object_at objects) ids) (Cons (object_at objects car) tree))

  pub exceeds : (below : ℕ) → steps ≤ below + 1 → ExceedsRoom (object_at objects car) room below → ExceedsRoom whole start steps
  exceeds below l (inl h) = inl (omega (arith, h, size, ap size_of next_is, size-onto (map (object_at objects) ids) (Cons (object_at objects car) tree), length-map ids (object_at objects), length_push ids car))
  exceeds below l (inr h) = inr (deep (omega (arith, h, l)))

  pub built_more : (first new : Object) (left : ℕ) → first ≡ object_at objects car → new ≡ Cons first tree → onto (map (object_at objects) ids) new ≡ whole
  built_more first new left e f = ap (onto (map (object_at objects) ids)) (f ∙ ap (λ x. Cons x tree) e) ∙ next_is

-- what is made is not too large
pub answer_small : (x : Object) (room : ℕ) (r : Result Object TreeFault) → IfOk r (λ t. (t ≡ x) × (size_of t + room ≡ 999999) × (car_steps t ≤ 1000)) → IsLarge x → IsErr r
answer_small x room (Ok t) h large = absurd (not_large x (omega (arith, h.1, ap size_of h.0)) (omega (arith, h.2, ap car_steps h.0)) large)
answer_small x room (Err e) h large = refl
