-- Predicates over the lent store.
use Rattle.std.proofs.Common.{◌≡◌, ℕ, Bool, true, false, not, List, Result, Ok, Err, ℤ, refl, sym, ◌∙◌, ap, subst}
use Rattle.std.specs.Ordering.{int_eq}
use Rattle.bfr_store.specs.declared.edge.Edge.{Edge}
use Rattle.bfr_store.specs.declared.edge.Full.{Full}
use Rattle.bfr_store.specs.declared.meaning.Meaning.{Ghosts}
use Rattle.bfr_store.specs.Keeps.{Makes as StoreMakes}
use Rattle.gl_logic.specs.declared.prim.Primitive.{Primitive}
use Rattle.gl_logic.specs.Object.{Object}
use Rattle.gl_logic.specs.PrimValue.{integer_in}
use Rattle.sym_bits.specs.Integers.{integer_under}
use Rattle.sym_objects.specs.declared.sob.Sob.{Sob}
use Rattle.sym_objects.specs.Seen.{SobsSeen, IsWhole, stands_for}
use Rattle.sym_prims.specs.Applying.{Tells}
use Rattle.sym_prims.specs.Results.{test_result}
use Rattle.sym_prims.proofs.Leaving.{tells_lent, tells_is}

module _ {B : Type 0} (g : Ghosts B) where
  pub numbers_tell : (p : Primitive) (x y : Sob) (old between mid : SobsSeen B) (lent store : B) (bs cs : List Edge) (r : Result Edge Full) → between ≡ old → mid ≡ between → lent ≡ mid.store → IsWhole g old
      → ((a : ℕ → Bool) → integer_under g old.store bs a ≡ integer_in (stands_for g old x a))
      → ((a : ℕ → Bool) → integer_under g between.store cs a ≡ integer_in (stands_for g between y a))
      → StoreMakes g lent store r (λ a. test_result p (integer_under g lent bs a) (integer_under g lent cs a))
      → Tells g old (record mid { store = store }) r (λ a. test_result p (integer_in (stands_for g old x a)) (integer_in (stands_for g old y a)))
  numbers_tell p x y old between mid lent store bs cs r e d is w v u m =
      let u' : (a : ℕ → Bool) → integer_under g old.store cs a ≡ integer_in (stands_for g old y a) = subst (λ (t : SobsSeen B). (a : ℕ → Bool) → integer_under g t.store cs a ≡ integer_in (stands_for g t y a)) e u in
      tells_lent g old mid lent store r (λ s a. test_result p (integer_under g s bs a) (integer_under g s cs a)) (λ a. test_result p (integer_in (stands_for g old x a)) (integer_in (stands_for g old y a)))
      (d ∙ e) is w m (λ a. λ i. test_result p (v a i) (u' a i))

  -- the complement of what was told
  pub tells_not : (old mid new : SobsSeen B) (d r : Edge) (f : (ℕ → Bool) → Bool) → Tells g old mid (Ok d) f → new ≡ mid → g.live mid.store r → ((a : ℕ → Bool) → g.truth_of mid.store r a ≡ not (g.truth_of mid.store d a)) → Tells g old new (Ok r) (λ a. not (f a))
  tells_not old mid new d r f t e l s =
      subst (λ (q : SobsSeen B). Tells g old q (Ok r) (λ a. not (f a))) (sym e) (record { keeps = t.keeps; live = l; truth = λ a. s a ∙ ap not (t.truth a); full = tt })
