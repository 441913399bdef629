-- What one call after another leaves, and answers.
use Rattle.std.proofs.Common.{◌≡◌, ℕ, Bool, true, false, ◌≤◌, ℤ, IfOk, List, length, Result, Ok, Err, inr, refl, sym, ◌∙◌, ap, subst}
use Rattle.bfr_store.specs.declared.edge.Edge.{Edge}
use Rattle.bfr_store.specs.declared.edge.Full.{Full}
use Rattle.bfr_store.specs.declared.meaning.Meaning.{Ghosts}
use Rattle.bfr_store.specs.Keeps.{Grows as StoreGrows, Keeps as StoreKeeps, Makes as StoreMakes}
use Rattle.gl_logic.specs.Assignments.{value_at}
use Rattle.sym_objects.specs.declared.sob.Sob.{Sob}
use Rattle.sym_objects.specs.Seen.{SobsSeen, IsLive, IsWhole, IsFull, stands_for}
use Rattle.sym_objects.specs.Keeps.{Grows, Keeps}
use Rattle.sym_objects.proofs.Keeping.{keeps_none, keeps_then, keeps_by_store, grows_none, grows_of, grows_then, grows_by_store}
use Rattle.gl_logic.specs.Object.{Int}
use Rattle.sym_bits.specs.Integers.{integer_under}
use Rattle.sym_bits.specs.Shifting.{MakesShifted}
use Rattle.sym_bits.specs.declared.shifted.Shifted.{Shifted}
use Rattle.sym_objects.specs.Makes.{Makes}
use Rattle.sym_prims.specs.Applying.{Leaves, HasCause, Operates, Tells}
use Rattle.sym_prims.specs.declared.fault.SymFault.{SymFault}
use Rattle.sym_prims.specs.declared.fault.SymFault.TheVariants as fault

module _ {B : Type 0} (g : Ghosts B) where
  pub leaves_of : (old new : SobsSeen B) → Keeps g old new → Leaves g old new
  leaves_of old new k = record { grows = grows_of g old new k; width = k.store.same_width }

  pub leaves_none : (s : SobsSeen B) → IsWhole g s → Leaves g s s
  leaves_none s w = leaves_of s s (keeps_none g s w)

  pub leaves_then : (old between new : SobsSeen B) → Leaves g old between → Leaves g between new → Leaves g old new
  leaves_then old between new k l = record { grows = grows_then g old between new k.grows l.grows; width = l.width ∙ k.width }

  pub leaves_by_store : (old new : SobsSeen B) (store : B) → new ≡ record old { store = store } → IsWhole g old → StoreGrows g old.store store → g.width_of store ≡ g.width_of old.store → Leaves g old new
  leaves_by_store old new store e w k h = record {
    grows = grows_by_store g old new store e w k;
    width = ap (λ (s : SobsSeen B). g.width_of s.store) e ∙ h;
  }

  -- a cause that is there for a narrower path is there for a wider one
  pub cause_wider : (s : SobsSeen B) (path wider : Edge) (v w : (ℕ → Bool) → Type 0) (f : SymFault) → ((a : ℕ → Bool) → g.truth_of s.store path a ≡ true → g.truth_of s.store wider a ≡ true) → ((a : ℕ → Bool) → g.truth_of s.store path a ≡ true → v a → w a) → HasCause g s path v f → HasCause g s wider w f
  cause_wider s path wider v w fault.Full p q h = h
  cause_wider s path wider v w fault.Spent p q h = h
  cause_wider s path wider v w (fault.Wide a) p q h = (h.0, p (value_at a) h.1, q (value_at a) h.1 h.2)
  cause_wider s path wider v w fault.Memory p q h = tt

  -- a call on the lent store that makes a function
  told : (old : SobsSeen B) (store : B) (r : Result Edge Full) (f h : (ℕ → Bool) → Bool) → IsWhole g old → StoreMakes g old.store store r f → ((a : ℕ → Bool) → f a ≡ h a) → Tells g old (record old { store = store }) r h
  told old store (Ok x) f h w m s = record { keeps = keeps_by_store g old (record old { store = store }) store refl w m.keeps; live = m.live; truth = λ a. m.truth a ∙ s a; full = tt }
  told old store (Err x) f h w m s = record { keeps = keeps_by_store g old (record old { store = store }) store refl w m.keeps; live = tt; truth = tt; full = inr m.full }

  -- by the tables on the way, which are the same, and the store as it was lent
  pub tells_lent : (old mid : SobsSeen B) (lent store : B) (r : Result Edge Full) (f : B → (ℕ → Bool) → Bool) (h : (ℕ → Bool) → Bool) → mid ≡ old → lent ≡ mid.store → IsWhole g old → StoreMakes g lent store r (f lent) → ((a : ℕ → Bool) → f old.store a ≡ h a) → Tells g old (record mid { store = store }) r h
  tells_lent old mid lent store r f h e is w m s =
      let stored : lent ≡ old.store = is ∙ ap (λ (t : SobsSeen B). t.store) e in
      let made : StoreMakes g old.store store r (f old.store) = subst (λ b. StoreMakes g b store r (f b)) stored m in
      subst (λ (t : SobsSeen B). Tells g old (record t { store = store }) r h) (sym e) (told old store r (f old.store) h w made s)

  pub truth_lent : (old : SobsSeen B) (lent store : B) (e : Edge) (a : ℕ → Bool) → lent ≡ old.store → StoreGrows g lent store → g.live old.store e → g.truth_of store e a ≡ g.truth_of old.store e a
  truth_lent old lent store e a is k l = k.same e a (subst (λ b. g.live b e) (sym is) l) ∙ ap (λ b. g.truth_of b e a) is

  pub leaves_lent : (old : SobsSeen B) (lent store : B) → lent ≡ old.store → IsWhole g old → StoreGrows g lent store → g.width_of store ≡ g.width_of lent → Leaves g old (record old { store = store })
  leaves_lent old lent store is w k h = leaves_by_store old (record old { store = store }) store refl w (subst (λ b. StoreGrows g b store) is k) (h ∙ ap (λ b. g.width_of b) is)

  -- a call that makes no node at all
  pub tells_same : (old new : SobsSeen B) (x : Edge) (h : (ℕ → Bool) → Bool) → new ≡ old → IsWhole g old → g.live old.store x → ((a : ℕ → Bool) → g.truth_of old.store x a ≡ h a) → Tells g old new (Ok x) h
  tells_same old new x h e w l s = subst (λ (t : SobsSeen B). Tells g old t (Ok x) h) (sym e) (record { keeps = keeps_none g old w; live = l; truth = s; full = tt })

  pub tells_is : (old new : SobsSeen B) (r : Result Edge Full) (f h : (ℕ → Bool) → Bool) → Tells g old new r f → ((a : ℕ → Bool) → f a ≡ h a) → Tells g old new r h
  tells_is old new (Ok x) f h t s = record { keeps = t.keeps; live = t.live; truth = λ a. t.truth a ∙ s a; full = tt }
  tells_is old new (Err x) f h t s = record { keeps = t.keeps; live = tt; truth = tt; full = t.full }

  -- the integer of constant bits
  pub makes_same : {E : Type 0} (old mid new : SobsSeen B) (r : Result Sob E) (bits : List Edge) (i : ℤ) → mid ≡ old → Makes g mid new r (λ a. Int (integer_under g mid.store bits a)) → ((a : ℕ → Bool) → integer_under g old.store bits a ≡ i) → Makes g old new r (λ a. Int i)
  makes_same {E = E} old mid new r bits i e m v = made r (subst (λ (t : SobsSeen B). Makes g t new r (λ a. Int (integer_under g t.store bits a))) e m) where
    made : (q : Result Sob E) → Makes g old new q (λ a. Int (integer_under g old.store bits a)) → Makes g old new q (λ a. Int i)
    made (Ok x) n = record { keeps = n.keeps; live = n.live; means = λ a. n.means a ∙ ap Int (v a) }
    made (Err x) n = record { keeps = n.keeps; live = tt; means = tt }

  -- an operation of the lent store
  pub operates_lent : (old : SobsSeen B) (lent store : B) (r : Result Shifted Full) (f : B → (ℕ → Bool) → ℤ) → lent ≡ old.store → IsWhole g old → MakesShifted g lent store r (f lent) → IfOk r (λ x. length x.bits ≤ 128) → Operates g old (record old { store = store }) r (f old.store)
  operates_lent old lent store r f is w m h = made r (subst (λ b. MakesShifted g b store r (f b)) is m) h where
    made : (q : Result Shifted Full) → MakesShifted g old.store store q (f old.store) → IfOk q (λ x. length x.bits ≤ 128) → Operates g old (record old { store = store }) q (f old.store)
    made (Ok x) n k = record { keeps = keeps_by_store g old (record old { store = store }) store refl w n.keeps; bits = n.bits; over = n.over; exceeds = n.leaves; value = n.value; width = k; full = tt }
    made (Err x) n k = record { keeps = keeps_by_store g old (record old { store = store }) store refl w n.keeps; bits = tt; over = tt; exceeds = tt; value = tt; width = tt; full = inr n.full }
