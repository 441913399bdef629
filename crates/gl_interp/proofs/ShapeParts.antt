-- The symbolic objects of shapes, and assignments that lead to their parts.
use Rattle.std.proofs.Common.{◌≡◌, ◌≢◌, ◌∙◌, ap, sym, refl, subst, ℕ, zero, suc, ◌<◌, arith, Bool, true, false, cond, List, [], ◌∷◌, ◌++◌, length, map, get_or, inl, inr}
use Rattle.std.specs.Prelude.{slice_set}
use Rattle.std.specs.List.{Contains}
use Rattle.std.proofs.lemmas.List.{get_or-set_same, get_or-set_other, length-map, length-set}
use Rattle.std.proofs.lemmas.List.Elements.{Contains-append_left, Contains-append_right}
use Rattle.bfr_store.specs.declared.meaning.Meaning.{Ghosts}
use Rattle.gl_logic.specs.Assignments.{value_at}
use Rattle.gl_logic.specs.Lists.{conses}
use Rattle.gl_logic.specs.Object.{Object, Cons}
use Rattle.hons_arena.specs.Held.{HasNoRoomFor, Held}
use Rattle.hons_arena.specs.Parts.{IsCellOf}
use Rattle.hons_arena.proofs.CellsIn.{cell_weaker}
use Rattle.lisp_eval.specs.Machines.{MachineSeen}
use Rattle.shape_spec.specs.Indices.{AreApart, IsNotIn, indices_in, indices_of, rank_in, width_of}
use Rattle.shape_spec.specs.InputMeant.{object_meant}
use Rattle.shape_spec.specs.ShapeOf.{pairs, shape_of}
use Rattle.shape_spec.specs.declared.shape.Shape.{Shape}
use Rattle.shape_spec.specs.ShapeSeen.{ShapeSeen, Choice, Pair}
use Rattle.shape_spec.proofs.Apart.{apart_left, apart_right, not_in_left, not_in_right}
use Rattle.shape_spec.proofs.Conses.{pairs_object}
use Rattle.shape_spec.proofs.Members.{IsIn, rank_lt, same_rank}
use Rattle.sym_objects.specs.Seen.{SobsSeen}
use Rattle.gl_interp.specs.declared.constants.PlaceFault.{PlaceFault}
use Rattle.gl_interp.specs.declared.constants.PlaceFault.TheVariants as fault
use Rattle.gl_interp.specs.Shapes.{AreAmong, HasShapeCause, SetsOnly, holds_at}

-- ---- indices
pub is_in : (xs : List ℕ) (x : ℕ) → Contains xs x → IsIn x xs
is_in [] x c = absurd (omega (arith, c.1))
is_in (y ∷ xs) x (zero, l, e) = inl (sym e)
is_in (y ∷ xs) x (suc i, l, e) = inr (is_in xs x (i, omega (arith, l), e))

pub rank_below : (all : List ℕ) (i : ℕ) → Contains all i → rank_in all i < length all
rank_below all i c = rank_lt all i (is_in all i c)

not_in : (x y : ℕ) (xs : List ℕ) → IsNotIn x xs → Contains xs y → x ≢ y
not_in x y [] h c = absurd (omega (arith, c.1))
not_in x y (z ∷ xs) h (zero, l, e) = λ q. h.0 (q ∙ sym e)
not_in x y (z ∷ xs) h (suc i, l, e) = not_in x y xs h.1 (i, omega (arith, l), e)

pub among_head : (i : ℕ) (xs all : List ℕ) → AreAmong (i ∷ xs) all → Contains all i
among_head i xs all h = h i (0, omega arith, refl)

pub among_tail : (i : ℕ) (xs all : List ℕ) → AreAmong (i ∷ xs) all → AreAmong xs all
among_tail i xs all h j c = h j (suc c.0, omega (arith, c.1), c.2)

pub among_left : (xs ys all : List ℕ) → AreAmong (xs ++ ys) all → AreAmong xs all
among_left xs ys all h j c = h j (Contains-append_left xs ys j c)

pub among_right : (xs ys all : List ℕ) → AreAmong (xs ++ ys) all → AreAmong ys all
among_right xs ys all h j c = h j (Contains-append_right xs ys j c)

-- ---- what was set
pub sets_nothing : (all is : List ℕ) (a : List Bool) → SetsOnly all is a a
sets_nothing all is a j h = refl

pub sets_then : (all is : List ℕ) (a b c : List Bool) → SetsOnly all is a b → SetsOnly all is b c → SetsOnly all is a c
sets_then all is a b c h k j f = k j f ∙ h j f

pub sets_more : (all is js : List ℕ) (a b : List Bool) → AreAmong is js → SetsOnly all is a b → SetsOnly all js a b
sets_more all is js a b m h j f = h j (λ i c. f i (m i c))

pub sets_one : (all is : List ℕ) (i : ℕ) (a b : List Bool) (v : Bool) → Contains is i → b ≡ slice_set a (rank_in all i) v → SetsOnly all is a b
sets_one all is i a b v c e j f = ap (λ xs. value_at xs j) e ∙ get_or-set_other a (rank_in all i) j v false (λ q. f i c (sym q))

pub set_here : (all : List ℕ) (i : ℕ) (a b : List Bool) (v : Bool) → rank_in all i < length a → b ≡ slice_set a (rank_in all i) v → value_at b (rank_in all i) ≡ v
set_here all i a b v l e = ap (λ xs. value_at xs (rank_in all i)) e ∙ get_or-set_same a (rank_in all i) v false l

-- an index that stands apart keeps its value
pub apart_kept : (all is : List ℕ) (i : ℕ) (a b : List Bool) → Contains all i → AreAmong is all → IsNotIn i is → SetsOnly all is a b → value_at b (rank_in all i) ≡ value_at a (rank_in all i)
apart_kept all is i a b c m n h = h (rank_in all i) (λ j d e. not_in i j is n d (sym (same_rank all j i (is_in all j (m j d)) (is_in all i c) e)))

-- ---- room for parts
pub room_part : (held : Held) (x z : Object) → ((y : Object) → IsCellOf y x → IsCellOf y z) → HasNoRoomFor held x → HasNoRoomFor held z
room_part held x z up r = record { cells = r.cells; different = r.different; needed = λ i d l. up (get_or r.cells i d) (r.needed i d l); absent = r.absent; more = r.more }

tail_cells : (xs : List Object) (t y : Object) → IsCellOf y t → IsCellOf y (conses xs t)
tail_cells [] t y c = c
tail_cells (x ∷ xs) t y c = tail_cells xs (Cons x t) y (cell_weaker t (Cons x t) y (λ p. inr (inr p)) c)

element_cells : (xs : List Object) (t x y : Object) → Contains xs x → IsCellOf y x → IsCellOf y (conses xs t)
element_cells [] t x y k c = absurd (omega (arith, k.1))
element_cells (z ∷ xs) t x y (zero, l, e) c = tail_cells xs (Cons z t) y (cell_weaker z (Cons z t) y (λ p. inr (inl p)) (subst (λ w. IsCellOf y w) (sym e) c))
element_cells (z ∷ xs) t x y (suc i, l, e) c = element_cells xs (Cons z t) x y (i, omega (arith, l), e) c

pub room_tail : (held : Held) (f : ℕ → Bool) (ss : List ShapeSeen) (t : ShapeSeen) → HasNoRoomFor held (object_meant f t) → HasNoRoomFor held (object_meant f (pairs ss t))
room_tail held f ss t r = subst (λ x. HasNoRoomFor held x) (sym (pairs_object f ss t)) (room_part held (object_meant f t) (conses (map (object_meant f) ss) (object_meant f t)) (λ y c. tail_cells (map (object_meant f) ss) (object_meant f t) y c) r)

map_contains : (f : ℕ → Bool) (ss : List ShapeSeen) (k : ℕ) (d s : ShapeSeen) → k < length ss → get_or ss k d ≡ s → Contains (map (object_meant f) ss) (object_meant f s)
map_contains f [] k d s l e = absurd (omega (arith, l))
map_contains f (u ∷ ss) zero d s l e = (0, omega arith, ap (object_meant f) e)
map_contains f (u ∷ ss) (suc k) d s l e = let c = map_contains f ss k d s (omega (arith, l)) e in (suc c.0, omega (arith, c.1), c.2)

pub room_element : (held : Held) (f : ℕ → Bool) (ss : List ShapeSeen) (t : ShapeSeen) (k : ℕ) (d s : ShapeSeen) → k < length ss → get_or ss k d ≡ s → HasNoRoomFor held (object_meant f s) → HasNoRoomFor held (object_meant f (pairs ss t))
room_element held f ss t k d s l e r =
    subst (λ x. HasNoRoomFor held x) (sym (pairs_object f ss t))
    (room_part held (object_meant f s) (conses (map (object_meant f) ss) (object_meant f t)) (λ y c. element_cells (map (object_meant f) ss) (object_meant f t) (object_meant f s) y (map_contains f ss k d s l e) c) r)

-- the shape that a choice takes
pub room_first : (held : Held) (f : ℕ → Bool) (i : ℕ) (x y : ShapeSeen) → f i ≡ true → HasNoRoomFor held (object_meant f x) → HasNoRoomFor held (object_meant f (Choice i x y))
room_first held f i x y e r = subst (λ b. HasNoRoomFor held (cond b (object_meant f x) (object_meant f y))) (sym e) r

pub room_second : (held : Held) (f : ℕ → Bool) (i : ℕ) (x y : ShapeSeen) → f i ≡ false → HasNoRoomFor held (object_meant f y) → HasNoRoomFor held (object_meant f (Choice i x y))
room_second held f i x y e r = subst (λ b. HasNoRoomFor held (cond b (object_meant f x) (object_meant f y))) (sym e) r

-- ---- the indices of a list's elements
pub tail_among : (ss : List ShapeSeen) (t : ShapeSeen) → AreAmong (indices_in t) (indices_in (pairs ss t))
tail_among [] t i c = c
tail_among (u ∷ ss) t i c = tail_among ss (Pair u t) i (Contains-append_right (indices_in u) (indices_in t) i c)

pub element_indices : (ss : List ShapeSeen) (t : ShapeSeen) (k : ℕ) (d : ShapeSeen) → k < length ss → AreAmong (indices_in (get_or ss k d)) (indices_in (pairs ss t))
element_indices [] t k d l i c = absurd (omega (arith, l))
element_indices (s ∷ ss) t zero d l i c = tail_among ss (Pair s t) i (Contains-append_left (indices_in s) (indices_in t) i c)
element_indices (s ∷ ss) t (suc k) d l i c = element_indices ss (Pair s t) k d (omega (arith, l)) i c

pub tail_apart : (ss : List ShapeSeen) (t : ShapeSeen) → AreApart (indices_in (pairs ss t)) → AreApart (indices_in t)
tail_apart [] t h = h
tail_apart (u ∷ ss) t h = apart_right (indices_in u) (indices_in t) (tail_apart ss (Pair u t) h)

pub element_apart : (ss : List ShapeSeen) (t : ShapeSeen) (k : ℕ) (d : ShapeSeen) → AreApart (indices_in (pairs ss t)) → k < length ss → AreApart (indices_in (get_or ss k d))
element_apart [] t k d h l = absurd (omega (arith, l))
element_apart (s ∷ ss) t zero d h l = apart_left (indices_in s) (indices_in t) (tail_apart ss (Pair s t) h)
element_apart (s ∷ ss) t (suc k) d h l = element_apart ss (Pair s t) k d h (omega (arith, l))

-- ---- the parts of a shape
get_map : (ss : List Shape) (k : ℕ) (d : Shape) → get_or (map shape_of ss) k (shape_of d) ≡ shape_of (get_or ss k d)
get_map [] k d = refl
get_map (s ∷ ss) zero d = refl
get_map (s ∷ ss) (suc k) d = get_map ss k d

in_rest : (i : ℕ) (xs : List ℕ) (j : ℕ) → Contains xs j → Contains (i ∷ xs) j
in_rest i xs j c = (suc c.0, omega (arith, c.1), c.2)

pub index_inside : (s : ShapeSeen) (i : ℕ) (x y : ShapeSeen) → s ≡ Choice i x y → Contains (indices_in s) i
index_inside s i x y e = subst (λ u. Contains (indices_in u) i) (sym e) (0, omega arith, refl)

pub first_inside : (s : ShapeSeen) (i : ℕ) (x y : ShapeSeen) → s ≡ Choice i x y → AreAmong (indices_in x) (indices_in s)
first_inside s i x y e j c = subst (λ u. Contains (indices_in u) j) (sym e) (in_rest i (indices_in x ++ indices_in y) j (Contains-append_left (indices_in x) (indices_in y) j c))

pub second_inside : (s : ShapeSeen) (i : ℕ) (x y : ShapeSeen) → s ≡ Choice i x y → AreAmong (indices_in y) (indices_in s)
second_inside s i x y e j c = subst (λ u. Contains (indices_in u) j) (sym e) (in_rest i (indices_in x ++ indices_in y) j (Contains-append_right (indices_in x) (indices_in y) j c))

choice_apart : (s : ShapeSeen) (i : ℕ) (x y : ShapeSeen) → s ≡ Choice i x y → AreApart (indices_in s) → AreApart (i ∷ indices_in x ++ indices_in y)
choice_apart s i x y e h = subst (λ u. AreApart (indices_in u)) e h

pub first_apart : (s : ShapeSeen) (i : ℕ) (x y : ShapeSeen) → s ≡ Choice i x y → AreApart (indices_in s) → AreApart (indices_in x)
first_apart s i x y e h = apart_left (indices_in x) (indices_in y) (choice_apart s i x y e h).1

pub second_apart : (s : ShapeSeen) (i : ℕ) (x y : ShapeSeen) → s ≡ Choice i x y → AreApart (indices_in s) → AreApart (indices_in y)
second_apart s i x y e h = apart_right (indices_in x) (indices_in y) (choice_apart s i x y e h).1

pub tail_inside : (s : ShapeSeen) (ss : List ShapeSeen) (t : ShapeSeen) → s ≡ pairs ss t → AreAmong (indices_in t) (indices_in s)
tail_inside s ss t e j c = subst (λ u. Contains (indices_in u) j) (sym e) (tail_among ss t j c)

pub element_inside : (s : ShapeSeen) (ss : List Shape) (t : ShapeSeen) (k : ℕ) (u : Shape) → s ≡ pairs (map shape_of ss) t → k < length ss → u ≡ get_or ss k u → AreAmong (indices_in (shape_of u)) (indices_in s)
element_inside s ss t k u e l g j c = subst (λ v. Contains (indices_in v) j) (sym e)
    (element_indices (map shape_of ss) t k (shape_of u) (omega (arith, l, length-map ss shape_of)) j (subst (λ v. Contains (indices_in v) j) (ap shape_of g ∙ sym (get_map ss k u)) c))

pub element_is_apart : (s : ShapeSeen) (ss : List Shape) (t : ShapeSeen) (k : ℕ) (u : Shape) → s ≡ pairs (map shape_of ss) t → k < length ss → u ≡ get_or ss k u → AreApart (indices_in s) → AreApart (indices_in (shape_of u))
element_is_apart s ss t k u e l g h = subst (λ v. AreApart (indices_in v)) (get_map ss k u ∙ ap shape_of (sym g))
    (element_apart (map shape_of ss) t k (shape_of u) (subst (λ v. AreApart (indices_in v)) e h) (omega (arith, l, length-map ss shape_of)))

pub among_then : (xs ys zs : List ℕ) → AreAmong xs ys → AreAmong ys zs → AreAmong xs zs
among_then xs ys zs h k j c = k j (h j c)

pub length_kept : (a b : List Bool) (k : ℕ) (v : Bool) → b ≡ slice_set a k v → length b ≡ length a
length_kept a b k v e = ap (λ (xs : List Bool). length xs) e ∙ length-set a k v

-- ---- where a part has no room
module _ {B : Type 0} (g : Ghosts B) (new : SobsSeen B) (m w : MachineSeen) (b : List (ℕ × ShapeSeen)) (same : w.arena ≡ m.arena) where
  cause_up : (s u : ShapeSeen) (a : List Bool) (f : PlaceFault) → (HasNoRoomFor m.arena (object_meant (holds_at b a) u) → HasNoRoomFor m.arena (object_meant (holds_at b a) s)) → HasShapeCause g new w b u a f → HasShapeCause g new m b s a f
  cause_up s u a fault.Cells up c = up (subst (λ h. HasNoRoomFor h (object_meant (holds_at b a) u)) same c)
  cause_up s u a fault.Full up c = c
  cause_up s u a fault.Memory up c = tt

  chosen : (s x y : ShapeSeen) (i : ℕ) (p : List ℕ) (a0 a1 a2 : List Bool) (r : ℕ) (v : Bool) → s ≡ Choice i x y → AreAmong (indices_in s) (indices_of b) → AreAmong p (indices_of b) → IsNotIn i p → r ≡ rank_in (indices_of b) i → length a0 ≡ width_of b → a1 ≡ slice_set a0 r v → SetsOnly (indices_of b) p a1 a2 → holds_at b a2 i ≡ v
  chosen s x y i p a0 a1 a2 r v e among within apart rank count set others =
      let inside : Contains (indices_of b) i = among i (index_inside s i x y e) in
      let below = rank_below (indices_of b) i inside in
      apart_kept (indices_of b) p i a1 a2 inside within apart others ∙ set_here (indices_of b) i a0 a1 v (omega (arith, below, count)) (set ∙ ap (λ (k : ℕ). slice_set a0 k v) rank)

  pub first_cause : (s x y : ShapeSeen) (i : ℕ) (a0 a1 a2 : List Bool) (r : ℕ) (f : PlaceFault) → s ≡ Choice i x y → AreAmong (indices_in s) (indices_of b) → AreApart (indices_in s) → r ≡ rank_in (indices_of b) i → length a0 ≡ width_of b → a1 ≡ slice_set a0 r true → SetsOnly (indices_of b) (indices_in x) a1 a2 → HasShapeCause g new w b x a2 f → HasShapeCause g new m b s a2 f
  first_cause s x y i a0 a1 a2 r f e among apart rank count set others c =
      let h : holds_at b a2 i ≡ true = chosen s x y i (indices_in x) a0 a1 a2 r true e among (λ j d. among j (first_inside s i x y e j d)) (not_in_left i (indices_in x) (indices_in y) (choice_apart s i x y e apart).0) rank count set others in
      cause_up s x a2 f (λ q. subst (λ u. HasNoRoomFor m.arena (object_meant (holds_at b a2) u)) (sym e) (room_first m.arena (holds_at b a2) i x y h q)) c

  pub second_cause : (s x y : ShapeSeen) (i : ℕ) (a0 a1 a2 : List Bool) (r : ℕ) (f : PlaceFault) → s ≡ Choice i x y → AreAmong (indices_in s) (indices_of b) → AreApart (indices_in s) → r ≡ rank_in (indices_of b) i → length a0 ≡ width_of b → a1 ≡ slice_set a0 r false → SetsOnly (indices_of b) (indices_in y) a1 a2 → HasShapeCause g new w b y a2 f → HasShapeCause g new m b s a2 f
  second_cause s x y i a0 a1 a2 r f e among apart rank count set others c =
      let h : holds_at b a2 i ≡ false = chosen s x y i (indices_in y) a0 a1 a2 r false e among (λ j d. among j (second_inside s i x y e j d)) (not_in_right i (indices_in x) (indices_in y) (choice_apart s i x y e apart).0) rank count set others in
      cause_up s y a2 f (λ q. subst (λ u. HasNoRoomFor m.arena (object_meant (holds_at b a2) u)) (sym e) (room_second m.arena (holds_at b a2) i x y h q)) c

  pub tail_cause : (s : ShapeSeen) (ss : List ShapeSeen) (t : ShapeSeen) (a : List Bool) (f : PlaceFault) → s ≡ pairs ss t → HasShapeCause g new w b t a f → HasShapeCause g new m b s a f
  tail_cause s ss t a f e c = cause_up s t a f (λ q. subst (λ u. HasNoRoomFor m.arena (object_meant (holds_at b a) u)) (sym e) (room_tail m.arena (holds_at b a) ss t q)) c

  pub element_cause : (s : ShapeSeen) (ss : List Shape) (t : ShapeSeen) (k : ℕ) (u : Shape) (a : List Bool) (f : PlaceFault) → s ≡ pairs (map shape_of ss) t → k < length ss → u ≡ get_or ss k u → HasShapeCause g new w b (shape_of u) a f → HasShapeCause g new m b s a f
  element_cause s ss t k u a f e l at c = cause_up s (shape_of u) a f (λ q. subst (λ v. HasNoRoomFor m.arena (object_meant (holds_at b a) v)) (sym e) (room_element m.arena (holds_at b a) (map shape_of ss) t k (shape_of u) (shape_of u) (omega (arith, l, length-map ss shape_of)) (get_map ss k u ∙ ap shape_of (sym at)) q)) c
