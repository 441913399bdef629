-- The symbolic objects of shapes, each from those of its parts.
use Rattle.std.proofs.Common.{◌≡◌, ◌∙◌, ap, sym, refl, subst, ℕ, zero, suc, ◌<◌, arith, Bool, cond, List, [], ◌∷◌, length, map, get_or, Result, Ok, Err, IfOk}
use Rattle.std.specs.List.{All, Contains}
use Rattle.bfr_store.specs.declared.edge.Edge.{Edge}
use Rattle.bfr_store.specs.declared.meaning.Meaning.{Ghosts}
use Rattle.gl_logic.specs.Assignments.{value_at}
use Rattle.gl_logic.specs.Object.{Object, Int, boolean_object}
use Rattle.gl_logic.specs.TwosComplement.{integer_of}
use Rattle.shape_spec.specs.Indices.{indices_of, rank_in, width_of}
use Rattle.shape_spec.specs.InputMeant.{object_meant}
use Rattle.shape_spec.specs.ShapeSeen.{ShapeSeen, Boolean, Integer, Choice, Constant}
use Rattle.sym_objects.specs.declared.sob.Sob.{Sob}
use Rattle.sym_objects.specs.Keeps.{Keeps}
use Rattle.sym_objects.specs.Makes.{Makes}
use Rattle.sym_objects.specs.Seen.{SobsSeen, IsLive, stands_for}
use Rattle.gl_interp.specs.Shapes.{AreAmong, IsObjectOver, bits_over, edge_at, holds_over}
use Rattle.gl_interp.proofs.InputParts.{holds_same}
use Rattle.gl_interp.proofs.ShapeParts.{rank_below}

map_at : (f : Edge → Bool) (es : List Edge) (k : ℕ) (d : Edge) → k < length es → value_at (map f es) k ≡ f (get_or es k d)
map_at f [] k d l = absurd (omega (arith, l))
map_at f (e ∷ es) zero d l = refl
map_at f (e ∷ es) (suc k) d l = map_at f es k d (omega (arith, l))

pub live_at : (P : Edge → Type 0) (es : List Edge) (k : ℕ) (d : Edge) → k < length es → All P es → P (get_or es k d)
live_at P es k d l h = h k d l

module _ {B : Type 0} (g : Ghosts B) (old : SobsSeen B) (b : List (ℕ × ShapeSeen)) (edges : List Edge) (count : length edges ≡ width_of b) (live : All (g.live old.store) edges) where
  abbrev holds : (ℕ → Bool) → ℕ → Bool
  holds a = holds_over g old.store b edges a

  pub rank_within : (i : ℕ) → Contains (indices_of b) i → rank_in (indices_of b) i < length edges
  rank_within i c = let l = rank_below (indices_of b) i c in omega (arith, l, count)

  -- an index holds where its edge is true
  pub edge_holds : (i : ℕ) (d : Edge) (a : ℕ → Bool) → Contains (indices_of b) i → g.truth_of old.store (get_or edges (rank_in (indices_of b) i) d) a ≡ holds_over g old.store b edges a i
  edge_holds i d a c = sym (map_at (λ e. g.truth_of old.store e a) edges (rank_in (indices_of b) i) d (rank_within i c))

  pub edge_live : (i : ℕ) → Contains (indices_of b) i → g.live old.store (edge_at b edges i)
  edge_live i c = live _ (record { number = 0 }) (rank_within i c)

  pub object_boolean : (new : SobsSeen B) (i : ℕ) (d : Edge) (x : Sob) → Contains (indices_of b) i → IsLive new x → ((a : ℕ → Bool) → stands_for g new x a ≡ boolean_object (g.truth_of old.store (get_or edges (rank_in (indices_of b) i) d) a))
      → IsObjectOver g old new b edges (Boolean i) x
  object_boolean new i d x c l m = record { live = l; means = λ a. m a ∙ ap boolean_object (edge_holds i d a c) }

  pub bits_hold : (a : ℕ → Bool) (is : List ℕ) → AreAmong is (indices_of b) → map (λ e. g.truth_of old.store e a) (bits_over b edges is) ≡ map (holds_over g old.store b edges a) is
  bits_hold a [] h = refl
  bits_hold a (i ∷ is) h = λ t. edge_holds i (record { number = 0 }) a (h i (0, omega arith, refl)) t ∷ bits_hold a is (λ j c. h j (suc c.0, omega (arith, c.1), c.2)) t

  pub object_integer : (new : SobsSeen B) (is : List ℕ) (bits : List Edge) (x : Sob) → AreAmong is (indices_of b) → bits ≡ bits_over b edges is → IsLive new x → ((a : ℕ → Bool) → stands_for g new x a ≡ Int (integer_of (map (λ e. g.truth_of old.store e a) bits)))
      → IsObjectOver g old new b edges (Integer is) x
  object_integer new is bits x h e l m = record { live = l; means = λ a. m a ∙ ap (λ bs. Int (integer_of bs)) (ap (map (λ c. g.truth_of old.store c a)) e ∙ bits_hold a is h) }

  bits_live : (is : List ℕ) → AreAmong is (indices_of b) → All (g.live old.store) (bits_over b edges is)
  bits_live [] h k d l = absurd (omega (arith, l))
  bits_live (i ∷ is) h zero d l = live _ (record { number = 0 }) (rank_within i (h i (0, omega arith, refl)))
  bits_live (i ∷ is) h (suc k) d l = bits_live is (λ j c. h j (suc c.0, omega (arith, c.1), c.2)) k d (omega (arith, l))

  pub all_bits_live : (is : List ℕ) (bits : List Edge) → AreAmong is (indices_of b) → bits ≡ bits_over b edges is → All (g.live old.store) bits
  all_bits_live is bits h e = subst (All (g.live old.store)) (sym e) (bits_live is h)

  -- an object of a later table
  pub object_later : (mid new : SobsSeen B) (s : ShapeSeen) (x : Sob) → Keeps g old mid → IsObjectOver g mid new b edges s x → IsObjectOver g old new b edges s x
  object_later mid new s x k o = record { live = o.live; means = λ a. o.means a ∙ ap (λ h. object_meant h s) (holds_same g old b edges mid a k live) }

  pub object_kept : (mid new : SobsSeen B) (s : ShapeSeen) (x : Sob) → Keeps g mid new → IsObjectOver g old mid b edges s x → IsObjectOver g old new b edges s x
  object_kept mid new s x k o = record { live = k.stays x o.live; means = λ a. k.same x a o.live ∙ o.means a }

  pub object_choice : (mid new : SobsSeen B) (i : ℕ) (u s t : ShapeSeen) (x y r : Sob) → Keeps g old mid → u ≡ Choice i s t → IsObjectOver g old mid b edges s x → IsObjectOver g old mid b edges t y → IsLive new r
      → ((a : ℕ → Bool) → stands_for g new r a ≡ cond (holds_over g mid.store b edges a i) (stands_for g mid x a) (stands_for g mid y a))
      → IsObjectOver g old new b edges u r
  object_choice mid new i u s t x y r k e p q l m = subst (λ v. IsObjectOver g old new b edges v r) (sym e) (record {
    live = l;
    means = λ a. m a ∙ (λ j. cond (holds_same g old b edges mid a k live j i) (p.means a j) (q.means a j));
  })

  pub object_of_makes : {E : Type 0} (new : SobsSeen B) (r : Result Sob E) (o : (ℕ → Bool) → Object) (s : ShapeSeen) → ((a : ℕ → Bool) → o a ≡ object_meant (holds_over g old.store b edges a) s) → Makes g old new r o → IfOk r (λ x. IsObjectOver g old new b edges s x)
  object_of_makes new (Ok x) o s h m = record { live = m.live; means = λ a. m.means a ∙ h a }
  object_of_makes new (Err e) o s h m = tt

  pub makes_same : {E : Type 0} (new : SobsSeen B) (r : Result Sob E) (o p : (ℕ → Bool) → Object) → ((a : ℕ → Bool) → o a ≡ p a) → Makes g old new r o → Makes g old new r p
  makes_same new (Ok x) o p h m = record { keeps = m.keeps; live = m.live; means = λ a. m.means a ∙ h a }
  makes_same new (Err e) o p h m = record { keeps = m.keeps; live = tt; means = tt }

  pub object_constant : (new : SobsSeen B) (o : Object) (x : Sob) → IsLive new x → ((a : ℕ → Bool) → stands_for g new x a ≡ o) → IsObjectOver g old new b edges (Constant o) x
  object_constant new o x l m = record { live = l; means = m }
