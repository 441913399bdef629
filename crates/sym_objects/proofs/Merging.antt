-- The merge of two symbolic objects on its way.
use Rattle.std.proofs.Common.{◌≡◌, ◌≢◌, ◌∙◌, refl, sym, ap, subst, ℕ, ◌+◌, ◌<◌, ◌≤◌, eqb, Bool, true, false, cond, List, length, map, Option, Some, Result, Ok, Err, IfOk, arith, eq-eqb}
use Rattle.std.specs.Prelude.{ℤ}
use Rattle.std.proofs.lemmas.Bool.{ne_eqb}
use Rattle.bfr_store.specs.declared.edge.Edge.{Edge}
use Rattle.bfr_store.specs.declared.edge.Full.{Full}
use Rattle.bfr_store.specs.declared.meaning.Meaning.{Ghosts}
use Rattle.gl_logic.specs.Object.{Object, Int, Cons, boolean_object}
use Rattle.gl_logic.specs.TwosComplement.{integer_of}
use Rattle.sym_objects.specs.declared.sob.Sob.{Sob}
use Rattle.sym_objects.specs.declared.merge.Both.{Both}
use Rattle.sym_objects.specs.Keeps.{Keeps}
use Rattle.sym_objects.specs.Makes.{Makes}
use Rattle.sym_objects.specs.Merging.{AreHalvesOf, AreLive, IsMergeOf, IsSideOf, size_of_both}
use Rattle.sym_objects.specs.Seen.{SobsSeen, IsLive, stands_for}
use Rattle.sym_objects.specs.Walks.{IsNext}
use Rattle.sym_objects.proofs.Keeping.{keeps_then}

merge_same : {A : Type 0} (b : Bool) (x : A) → x ≡ cond b x x
merge_same true x = refl
merge_same false x = refl

merge_pairs : (b : Bool) (x y z w : Object) → Cons (cond b x z) (cond b y w) ≡ cond b (Cons x y) (Cons z w)
merge_pairs true x y z w = refl
merge_pairs false x y z w = refl

merge_sides : {A : Type 0} (t e f : Bool) (x y z w : A) → cond (cond t e f) (cond t x y) (cond t z w) ≡ cond t (cond e x z) (cond f y w)
merge_sides true e f x y z w = refl
merge_sides false e f x y z w = refl

pub merge_booleans : (b x y : Bool) → boolean_object (cond b x y) ≡ cond b (boolean_object x) (boolean_object y)
merge_booleans true x y = refl
merge_booleans false x y = refl

merge_integers : (b : Bool) (x y : ℤ) → Int (cond b x y) ≡ cond b (Int x) (Int y)
merge_integers true x y = refl
merge_integers false x y = refl

module _ {B : Type 0} (g : Ghosts B) (t : Edge) where
  pub merge_kept : (old new : SobsSeen B) → Keeps g old new → g.live old.store t → (k : Both) (x : Sob) → IsMergeOf g t old k x → IsMergeOf g t new k x
  merge_kept old new k l b x m = record {
    first = k.stays b.first m.first;
    second = k.stays b.second m.second;
    live = k.stays x m.live;
    means = λ a. k.same x a m.live ∙ (m.means a ∙ (let p = sym (k.store.same t a l) in let q = sym (k.same b.first a m.first) in let r = sym (k.same b.second a m.second) in λ i. cond (p i) (q i) (r i)));
  }

  -- what makes the chosen object is the merge
  pub merge_made : (old new : SobsSeen B) (k : Both) (x : Sob) → Keeps g old new → g.live old.store t → AreLive old k → IsLive new x
      → ((a : ℕ → Bool) → stands_for g new x a ≡ cond (g.truth_of old.store t a) (stands_for g old k.first a) (stands_for g old k.second a)) → IsMergeOf g t new k x
  merge_made old new k x keeps l live lx m = record {
    first = keeps.stays k.first live.0;
    second = keeps.stays k.second live.1;
    live = lx;
    means = λ a. m a ∙ (let p = sym (keeps.store.same t a l) in let q = sym (keeps.same k.first a live.0) in let r = sym (keeps.same k.second a live.1) in λ i. cond (p i) (q i) (r i));
  }

  pub merge_equal : (s : SobsSeen B) (k : Both) → AreLive s k → k.first ≡ k.second → IsMergeOf g t s k k.first
  merge_equal s k live e = record {
    first = live.0;
    second = live.1;
    live = live.0;
    means = λ a. merge_same (g.truth_of s.store t a) (stands_for g s k.first a) ∙ ap (λ (x : Sob). cond (g.truth_of s.store t a) (stands_for g s k.first a) (stands_for g s x a)) e;
  }

  -- the cons of the merges of the parts
  pub merge_of_parts : (old new : SobsSeen B) (a b c : Both) (x y : Sob) (result : Result Sob Full) → g.live old.store t → AreLive old c → IsMergeOf g t old a x → IsMergeOf g t old b y
      → ((v : ℕ → Bool) → stands_for g old c.first v ≡ Cons (stands_for g old a.first v) (stands_for g old b.first v)) → ((v : ℕ → Bool) → stands_for g old c.second v ≡ Cons (stands_for g old a.second v) (stands_for g old b.second v))
      → Makes g old new result (λ v. Cons (stands_for g old x v) (stands_for g old y v)) → IfOk result (λ z. IsMergeOf g t new c z)
  merge_of_parts old new a b c x y (Ok z) l live m n p q w =
      merge_made old new c z w.keeps l live w.live
      (λ v. w.means v
      ∙ ((let d = m.means v in let e = n.means v in λ i. Cons (d i) (e i))
      ∙ (merge_pairs (g.truth_of old.store t v) (stands_for g old a.first v) (stands_for g old b.first v) (stands_for g old a.second v) (stands_for g old b.second v)
      ∙ (let d = sym (p v) in let e = sym (q v) in λ i. cond (g.truth_of old.store t v) (d i) (e i)))))
  merge_of_parts old new a b c x y (Err f) l live m n p q w = tt

  -- the choice of the merges of the parts
  pub merge_of_sides : (old between new : SobsSeen B) (a b c : Both) (x y : Sob) (e f chosen : Edge) (result : Result Sob Full) → g.live old.store t → AreLive old c → IsMergeOf g t old a x → IsMergeOf g t old b y
      → IsSideOf g old c.first a.first b.first e → IsSideOf g old c.second a.second b.second f
      → Keeps g old between → ((v : ℕ → Bool) → g.truth_of between.store chosen v ≡ cond (g.truth_of old.store t v) (g.truth_of old.store e v) (g.truth_of old.store f v))
      → Makes g between new result (λ v. cond (g.truth_of between.store chosen v) (stands_for g between x v) (stands_for g between y v)) → IfOk result (λ z. IsMergeOf g t new c z)
  merge_of_sides old between new a b c x y e f chosen (Ok z) l live m n p q kept is w =
      merge_made old new c z (keeps_then g old between new kept w.keeps) l live w.live
      (λ v. w.means v
      ∙ ((let u = is v in let d = kept.same x v m.live ∙ m.means v in let h = kept.same y v n.live ∙ n.means v in λ i. cond (u i) (d i) (h i))
      ∙ (merge_sides (g.truth_of old.store t v) (g.truth_of old.store e v) (g.truth_of old.store f v) (stands_for g old a.first v) (stands_for g old a.second v) (stands_for g old b.first v) (stands_for g old b.second v)
      ∙ (let d = sym (p.is v) in let h = sym (q.is v) in λ i. cond (g.truth_of old.store t v) (d i) (h i)))))
  merge_of_sides old between new a b c x y e f chosen (Err z) l live m n p q kept is w = tt

  -- what a call that makes the chosen object answers
  pub merge_answer : (old new : SobsSeen B) (k : Both) (result : Result Sob Full) → g.live old.store t → AreLive old k
      → Makes g old new result (λ a. cond (g.truth_of old.store t a) (stands_for g old k.first a) (stands_for g old k.second a)) → IfOk result (λ r. IsMergeOf g t new k r)
  merge_answer old new k (Ok x) l live m = merge_made old new k x m.keeps l live m.live m.means
  merge_answer old new k (Err f) l live m = tt

  -- two Booleans, by the edge that was chosen
  pub merge_edges : (old between new : SobsSeen B) (k : Both) (x y e : Edge) (result : Result Sob Full) → g.live old.store t → AreLive old k
      → ((a : ℕ → Bool) → stands_for g old k.first a ≡ boolean_object (g.truth_of old.store x a)) → ((a : ℕ → Bool) → stands_for g old k.second a ≡ boolean_object (g.truth_of old.store y a))
      → Keeps g old between → ((a : ℕ → Bool) → g.truth_of between.store e a ≡ cond (g.truth_of old.store t a) (g.truth_of old.store x a) (g.truth_of old.store y a))
      → Makes g between new result (λ a. boolean_object (g.truth_of between.store e a)) → IfOk result (λ r. IsMergeOf g t new k r)
  merge_edges old between new k x y e (Ok r) l live p q kept is m =
      merge_made old new k r (keeps_then g old between new kept m.keeps) l live m.live
      (λ a. m.means a ∙ (ap boolean_object (is a) ∙ (merge_booleans (g.truth_of old.store t a) (g.truth_of old.store x a) (g.truth_of old.store y a)
      ∙ (let u = sym (p a) in let v = sym (q a) in λ i. cond (g.truth_of old.store t a) (u i) (v i)))))
  merge_edges old between new k x y e (Err f) l live p q kept is m = tt

  -- two integers, by the bits that were chosen
  pub merge_bits : (old between new : SobsSeen B) (k : Both) (xs ys es : List Edge) (result : Result Sob Full) → g.live old.store t → AreLive old k
      → ((a : ℕ → Bool) → stands_for g old k.first a ≡ Int (integer_of (map (λ c. g.truth_of old.store c a) xs))) → ((a : ℕ → Bool) → stands_for g old k.second a ≡ Int (integer_of (map (λ c. g.truth_of old.store c a) ys)))
      → Keeps g old between → ((a : ℕ → Bool) → integer_of (map (λ c. g.truth_of between.store c a) es) ≡ cond (g.truth_of old.store t a) (integer_of (map (λ c. g.truth_of old.store c a) xs)) (integer_of (map (λ c. g.truth_of old.store c a) ys)))
      → Makes g between new result (λ a. Int (integer_of (map (λ c. g.truth_of between.store c a) es))) → IfOk result (λ r. IsMergeOf g t new k r)
  merge_bits old between new k xs ys es (Ok r) l live p q kept is m =
      merge_made old new k r (keeps_then g old between new kept m.keeps) l live m.live
      (λ a. m.means a ∙ (ap Int (is a) ∙ (merge_integers (g.truth_of old.store t a) (integer_of (map (λ c. g.truth_of old.store c a) xs)) (integer_of (map (λ c. g.truth_of old.store c a) ys))
      ∙ (let u = sym (p a) in let v = sym (q a) in λ i. cond (g.truth_of old.store t a) (u i) (v i)))))
  merge_bits old between new k xs ys es (Err f) l live p q kept is m = tt

pub halves_kept : {B : Type 0} (g : Ghosts B) (old new : SobsSeen B) → Keeps g old new → (a b c : Both) → AreHalvesOf old a b c → AreHalvesOf new a b c
halves_kept g old new k a b c p = record {
  whole = (k.stays c.first p.whole.0, k.stays c.second p.whole.1);
  first = (k.stays a.first p.first.0, k.stays a.second p.first.1);
  second = (k.stays b.first p.second.0, k.stays b.second p.second.1);
  first_falls = p.first_falls;
  second_falls = p.second_falls;
}

-- the merge of the second parts comes, beside that of the first
pub first_is : {B : Type 0} (g : Ghosts B) (t : Edge) (s : SobsSeen B) (a b k : Both) (o : Option Sob) (x : Sob) → IsNext (IsMergeOf g t s) a b o k → o ≡ Some x → IsMergeOf g t s a x
first_is g t s a b k o x h is = (subst (λ (q : Option Sob). IsNext (IsMergeOf g t s) a b q k) is h).0

pub second_is : {B : Type 0} (g : Ghosts B) (t : Edge) (s : SobsSeen B) (a b k : Both) (o : Option Sob) (x y : Sob) → IsNext (IsMergeOf g t s) a b o k → o ≡ Some x → IsMergeOf g t s k y → IsMergeOf g t s b y
second_is g t s a b k o x y h is r = subst (λ (q : Both). IsMergeOf g t s q y) (subst (λ (q : Option Sob). IsNext (IsMergeOf g t s) a b q k) is h).1 r

-- ---- sizes
size_most : (k : Both) → size_of_both k ≤ k.first.number + k.second.number
size_most k = elim (eqb k.first.number k.second.number) as (λ (b : Bool). cond b 0 (k.first.number + k.second.number) ≤ k.first.number + k.second.number) [ true ↦ omega arith | false ↦ omega arith ]

size_differ : (k : Both) → k.first.number ≢ k.second.number → size_of_both k ≡ k.first.number + k.second.number
size_differ k h = ap (λ (b : Bool). cond b 0 (k.first.number + k.second.number)) (ne_eqb k.first.number k.second.number h)

size_same : (k : Both) → k.first ≡ k.second → size_of_both k ≡ 0
size_same k e = ap (λ (b : Bool). cond b 0 (k.first.number + k.second.number)) (eq-eqb k.first.number k.second.number (ap (λ (x : Sob). x.number) e))

pub size_less : (a c : Both) → c.first.number ≢ c.second.number → a.first.number + a.second.number < c.first.number + c.second.number → size_of_both a < size_of_both c
size_less a c h l = omega (arith, size_most a, size_differ c h, l)

pub size_one : (a c : Both) → c.first.number ≢ c.second.number → a.first ≡ a.second → size_of_both a < size_of_both c
size_one a c h e = omega (arith, size_same a e, size_differ c h, h)
