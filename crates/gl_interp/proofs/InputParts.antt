-- Symbolic inputs on their way.
use Rattle.std.proofs.Common.{◌≡◌, ◌∙◌, ap, sym, refl, subst, ℕ, zero, suc, ◌+◌, ◌<◌, arith, Bool, List, [], ◌∷◌, ◌++◌, length, map, take, Some, inl, inr, max, false, length-append}
use Rattle.std.specs.Prelude.{slice_get}
use Rattle.std.specs.List.{All, Contains, flat_map}
use Rattle.std.proofs.lemmas.Bool.{cases_lt}
use Rattle.std.proofs.lemmas.List.{get_or_append_left, get_or_push, length-map, map-append}
use Rattle.std.proofs.lemmas.List.Elements.{All-append, Contains-append_left, Contains-append_right}
use Rattle.bfr_store.specs.declared.edge.Edge.{Edge}
use Rattle.bfr_store.specs.declared.meaning.Meaning.{Ghosts}
use Rattle.gl_logic.specs.Object.{Object}
use Rattle.gl_logic.specs.Parts.{cells_in}
use Rattle.hons_arena.specs.Held.{HasNoRoomFor, IsEachOnce}
use Rattle.lisp_eval.specs.Machines.{MachineSeen}
use Rattle.lisp_eval.specs.Within.{CoverCells}
use Rattle.lisp_eval.proofs.Places.{contains_at}
use Rattle.lisp_eval.proofs.Within.{full_of_room}
use Rattle.gl_logic.specs.Assignments.{value_at}
use Rattle.shape_spec.specs.Indices.{AreApart, AreShapes, IsShape, indices_in, indices_of, rank_in, shapes_of, variables_of, width_of}
use Rattle.shape_spec.specs.InputMeant.{input_meant, object_meant, truth_of}
use Rattle.shape_spec.specs.ShapeSeen.{ShapeSeen}
use Rattle.shape_spec.proofs.Apart.{apart_left, apart_right}
use Rattle.shape_spec.proofs.Members.{same_input}
use Rattle.sym_objects.specs.declared.sob.Sob.{Sob}
use Rattle.sym_objects.specs.Keeps.{Grows, Keeps}
use Rattle.sym_objects.specs.Seen.{SobsSeen, IsLive, IsWhole, stands_for}
use Rattle.sym_objects.proofs.Keeping.{grows_none, grows_then, keeps_none, keeps_then}
use Rattle.gl_interp.specs.Causes.{IsCrowdedBy, StandsFor, StandsOver}
use Rattle.gl_interp.specs.Environments.{AreLive, env_under, objects_of, vector_at}
use Rattle.gl_interp.specs.Shapes.{AreAmong, IsObjectOver, holds_at, holds_over}
use Rattle.gl_interp.proofs.CellsOfCalls.{among_cells}

-- a bound variable with its object
pub input_at : (b : List (ℕ × ShapeSeen)) (h : ℕ → Bool) (k v : ℕ) (s : ShapeSeen) → slice_get (variables_of b) k ≡ Some v → slice_get (shapes_of b) k ≡ Some s
    → slice_get {X = ℕ × Object} (map (λ p. (p.0, object_meant h p.1)) b) k ≡ Some (v, object_meant h s)
input_at [] h k v s e g = absurd cc
input_at (p ∷ b) h zero v s e g = let i : p.0 ≡ v = cc in let j : p.1 ≡ s = cc in λ t. Some (i t, object_meant h (j t))
input_at (p ∷ b) h (suc k) v s e g = input_at b h k v s e g

objects_at : (b : List (ℕ × ShapeSeen)) (h : ℕ → Bool) (k : ℕ) (s : ShapeSeen) → slice_get (shapes_of b) k ≡ Some s → slice_get {X = Object} (map (λ (q : ℕ × Object). q.1) (map (λ (p : ℕ × ShapeSeen). (p.0, object_meant h p.1)) b)) k ≡ Some (object_meant h s)
objects_at [] h k s e = absurd cc
objects_at (p ∷ b) h zero s e = let same : p.1 ≡ s = cc in ap (λ (r : ShapeSeen). Some (object_meant h r)) same
objects_at (p ∷ b) h (suc k) s e = objects_at b h k s e

object_at : (b : List (ℕ × ShapeSeen)) (a : ℕ → Bool) (k : ℕ) (s : ShapeSeen) → slice_get (shapes_of b) k ≡ Some s → slice_get {X = Object} (map (λ (q : ℕ × Object). q.1) (input_meant b a)) k ≡ Some (object_meant (truth_of b a) s)
object_at b a k s e = objects_at b (truth_of b a) k s e

-- a bound shape
pub shape_at : (b : List (ℕ × ShapeSeen)) (i : ℕ) (s : ShapeSeen) → slice_get (shapes_of b) i ≡ Some s → AreShapes b → IsShape s
shape_at [] i s e h = absurd cc
shape_at (p ∷ b) zero s e h = let same : p.1 ≡ s = cc in subst IsShape same h.0
shape_at (p ∷ b) (suc i) s e h = shape_at b i s e h.1

pub among_at : (b : List (ℕ × ShapeSeen)) (i : ℕ) (s : ShapeSeen) → slice_get (shapes_of b) i ≡ Some s → AreAmong (indices_in s) (indices_of b)
among_at [] i s e = absurd cc
among_at (p ∷ b) zero s e = let same : p.1 ≡ s = cc in λ j c. Contains-append_left (indices_in p.1) (indices_of b) j (subst (λ u. Contains (indices_in u) j) (sym same) c)
among_at (p ∷ b) (suc i) s e = λ j c. Contains-append_right (indices_in p.1) (indices_of b) j (among_at b i s e j c)

pub apart_at : (b : List (ℕ × ShapeSeen)) (i : ℕ) (s : ShapeSeen) → slice_get (shapes_of b) i ≡ Some s → AreApart (indices_of b) → AreApart (indices_in s)
apart_at [] i s e h = absurd cc
apart_at (p ∷ b) zero s e h = let same : p.1 ≡ s = cc in subst (λ u. AreApart (indices_in u)) same (apart_left (indices_in p.1) (indices_of b) h)
apart_at (p ∷ b) (suc i) s e h = apart_at b i s e (apart_right (indices_in p.1) (indices_of b) h)

take_next : {A : Type 0} (i : ℕ) (xs : List A) (x : A) → slice_get xs i ≡ Some x → take (suc i) xs ≡ take i xs ++ x ∷ []
take_next i [] x e = absurd cc
take_next zero (y ∷ xs) x e = let same : y ≡ x = cc in ap (λ z. z ∷ []) same
take_next (suc i) (y ∷ xs) x e = ap (λ zs. y ∷ zs) (take_next i xs x e)

all_tail : {A : Type 0} (P : A → Type 0) (x : A) (xs : List A) → All P (x ∷ xs) → All P xs
all_tail P x xs h i d l = h (suc i) d (omega (arith, l))

objects_same : (f h : Sob → Object) (n : ℕ) → ((x : Sob) → x.number < n → h x ≡ f x) → (ps : List (ℕ × Sob)) → All (λ p. p.1.number < n) ps → objects_of h ps ≡ objects_of f ps
objects_same f h n e [] l = refl
objects_same f h n e (p ∷ ps) l = λ i. (p.0, e p.1 (l 0 p (omega arith)) i) ∷ objects_same f h n e ps (all_tail (λ q. q.1.number < n) p ps l) i

truths_same : {B : Type 0} (g : Ghosts B) (old new : B) (a : ℕ → Bool) → ((e : Edge) → g.live old e → g.truth_of new e a ≡ g.truth_of old e a) → (es : List Edge) → All (g.live old) es → map (λ e. g.truth_of new e a) es ≡ map (λ e. g.truth_of old e a) es
truths_same g old new a h [] l = refl
truths_same g old new a h (e ∷ es) l = λ i. h e (l 0 e (omega arith)) i ∷ truths_same g old new a h es (all_tail (g.live old) e es l) i

-- the first i variables with their objects
pub record IsInput {B : Type 0} (g : Ghosts B) (start now : SobsSeen B) (b : List (ℕ × ShapeSeen)) (edges : List Edge) (env : List (ℕ × Sob)) (i : ℕ) : Type 0 where
  pub keeps : Keeps g start now
  pub live : AreLive now env
  pub input : (a : ℕ → Bool) → env_under g now env a ≡ take i (input_meant b (vector_at g start.store edges a))

module _ {B : Type 0} (g : Ghosts B) (start : SobsSeen B) (b : List (ℕ × ShapeSeen)) (edges : List Edge) where
  pub input_none : IsWhole g start → IsInput g start start b edges [] 0
  input_none w = record { keeps = keeps_none g start w; live = λ i d l. absurd (omega (arith, l)); input = λ a. refl }

  -- the edges stay live
  pub edges_stay : (now : SobsSeen B) → Keeps g start now → All (g.live start.store) edges → All (g.live now.store) edges
  edges_stay now k l i d h = k.store.stays _ (l i d h)

  pub holds_same : (now : SobsSeen B) (a : ℕ → Bool) → Keeps g start now → All (g.live start.store) edges → holds_over g now.store b edges a ≡ holds_over g start.store b edges a
  holds_same now a k l = ap (λ bits i. value_at bits (rank_in (indices_of b) i)) (truths_same g start.store now.store a (λ e h. k.store.same e a h) edges l)

  pub input_more : (now new : SobsSeen B) (env next : List (ℕ × Sob)) (i m v : ℕ) (s : ShapeSeen) (x : Sob) → IsInput g start now b edges env i → m ≡ suc i → Keeps g now new → IsObjectOver g now new b edges s x → next ≡ env ++ (v, x) ∷ []
      → slice_get (variables_of b) i ≡ Some v → slice_get (shapes_of b) i ≡ Some s → All (g.live start.store) edges → IsInput g start new b edges next m
  input_more now new env next i m v s x p count k o pushed var shape l = record {
    keeps = keeps_then g start now new p.keeps k;
    live = subst (AreLive new) (sym pushed) (All-append (λ q. IsLive new q.1) env ((v, x) ∷ []) (λ j d h. k.stays _ (p.live j d h)) (one_live o.live));
    input = λ a.
        let before : env_under g new env a ≡ take i (input_meant b (vector_at g start.store edges a)) = objects_same (λ y. stands_for g now y a) (λ y. stands_for g new y a) (length now.nodes) (λ y h. k.same y a h) env p.live ∙ p.input a in
        let object : stands_for g new x a ≡ object_meant (holds_over g start.store b edges a) s = o.means a ∙ ap (λ h. object_meant h s) (holds_same now a p.keeps l) in
        ap (λ ps. env_under g new ps a) pushed
        ∙ (map-append (λ q. (q.0, stands_for g new q.1 a)) env ((v, x) ∷ [])
        ∙ ((λ t. before t ++ (v, object t) ∷ [])
        ∙ (sym (take_next i (input_meant b (vector_at g start.store edges a)) (v, object_meant (holds_over g start.store b edges a) s) (input_at b (holds_over g start.store b edges a) i v s var shape))
        ∙ ap (λ n. take n (input_meant b (vector_at g start.store edges a))) (sym count))));
  } where
    one_live : IsLive new x → All (λ (q : ℕ × Sob). IsLive new q.1) ((v, x) ∷ [])
    one_live h zero d l = h
    one_live h (suc j) d l = absurd (omega (arith, l))

-- for want of room for one object, the input has too many cells
pub input_crowded : (b : List (ℕ × ShapeSeen)) (m : MachineSeen) (found : List Bool) (i : ℕ) (s : ShapeSeen) → slice_get (shapes_of b) i ≡ Some s → HasNoRoomFor m.arena (object_meant (holds_at b found) s) → IsEachOnce m.arena.objects
    → IsCrowdedBy m (input_meant b (value_at found))
input_crowded b m found i s shape room once =
    let input = input_meant b (value_at found) in
    let objects : List Object = map (λ p. p.1) input in
    let held = m.arena.objects in
    let x = object_meant (holds_at b found) s in
    let there : slice_get objects i ≡ Some x = object_at b (value_at found) i s shape in
    let all = held ++ flat_map cells_in objects in
    let cover : CoverCells held objects all = record {
      first = λ y c. Contains-append_left held (flat_map cells_in objects) y c;
      later = λ y c. Contains-append_right held (flat_map cells_in objects) y (among_cells objects c.value y (contains_at objects c.seen_value.0 c.value c.seen_value.1) c.cell);
    } in
    full_of_room held objects all m.arena x (i, there) room once (λ y c. inl c) cover

-- ---- the variables of a store
pub record AreVariables {B : Type 0} (g : Ghosts B) (start now : SobsSeen B) (edges : List Edge) (k : ℕ) : Type 0 where
  pub grows : Grows g start now
  pub width : g.width_of now.store ≡ k
  pub count : length edges ≡ k
  pub live : All (g.live now.store) edges
  pub truths : (a : ℕ → Bool) (j : ℕ) → j < k → vector_at g now.store edges a j ≡ a j

module _ {B : Type 0} (g : Ghosts B) (start : SobsSeen B) where
  pub variables_none : IsWhole g start → g.width_of start.store ≡ 0 → AreVariables g start start [] 0
  variables_none w e = record { grows = grows_none g start w; width = e; count = refl; live = λ i d l. absurd (omega (arith, l)); truths = λ a j l. absurd (omega (arith, l)) }

  one_edge : (new : SobsSeen B) (e : Edge) → g.live new.store e → All (g.live new.store) (e ∷ [])
  one_edge new e h zero d l = h
  one_edge new e h (suc j) d l = absurd (omega (arith, l))

  pub variables_more : (now new : SobsSeen B) (edges more : List Edge) (e : Edge) (k m : ℕ) → AreVariables g start now edges k → m ≡ k + 1 → Grows g now new → g.width_of new.store ≡ max (g.width_of now.store) (k + 1) → g.live new.store e → ((a : ℕ → Bool) → g.truth_of new.store e a ≡ a k)
      → more ≡ edges ++ e ∷ [] → AreVariables g start new more m
  variables_more now new edges more e k m v next grows width live truth pushed = record {
    grows = grows_then g start now new v.grows grows;
    width = omega (arith, width, v.width, next);
    count = ap length pushed ∙ omega (arith, length-append edges (e ∷ []), v.count, next);
    live = subst (All (g.live new.store)) (sym pushed) (All-append (g.live new.store) edges (e ∷ []) (λ i d l. grows.store.stays _ (v.live i d l)) (one_edge new e live));
    truths = λ a j l.
        let f : Edge → Bool = λ c. g.truth_of new.store c a in
        let old_truths : map f edges ≡ map (λ c. g.truth_of now.store c a) edges = truths_same g now.store new.store a (λ c h. grows.store.same c a h) edges v.live in
        let counted : length (map f edges) ≡ k = length-map edges f ∙ v.count in
        ap (λ cs. value_at (map f cs) j) pushed
        ∙ (ap (λ bs. value_at bs j) (map-append f edges (e ∷ []))
        ∙ elim (cases_lt j k) [
          | inl less ↦ get_or_append_left (map f edges) (f e ∷ []) false j (omega (arith, less, counted)) ∙ (ap (λ bs. value_at bs j) old_truths ∙ v.truths a j less)
          | inr more_than ↦ let same : j ≡ k = omega (arith, more_than, l, next) in get_or_push (map f edges) (f e) false j (omega (arith, same, counted)) ∙ (truth a ∙ ap a (sym same))
        ]);
  }

  -- over the variables the vector's assignment is the assignment
  pub stands_for_variables : (mid new : SobsSeen B) (b : List (ℕ × ShapeSeen)) (edges : List Edge) (k : ℕ) (env : List (ℕ × Sob)) → AreVariables g start mid edges k → k ≡ width_of b → Keeps g mid new → StandsOver g mid new b edges env → StandsFor g new b env
  stands_for_variables mid new b edges k env v e keeps o = record {
    live = o.live;
    input = λ a. o.input a ∙ same_input b (vector_at g mid.store edges a) a (λ j l. v.truths a j (omega (arith, l, e)));
    width = keeps.store.same_width ∙ (v.width ∙ e);
  }
