-- Edges that stand for the indices wherever a hypothesis is true.
use Rattle.std.proofs.Common.{◌≡◌, ◌∙◌, sym, refl, subst, ℕ, ◌+◌, ◌<◌, Bool, true, false, ◌&&◌, List, [], ◌∷◌, ◌++◌, length, get_or, Result, Ok, Err, max, inr, arith}
use Rattle.std.proofs.lemmas.List.{get_or-map}
use Rattle.bfr_store.specs.Edges.{xor}
use Rattle.bfr_store.specs.declared.edge.Edge.{Edge}
use Rattle.bfr_store.specs.declared.meaning.Meaning.{Ghosts}
use Rattle.shape_spec.specs.Indices.{width_of}
use Rattle.shape_spec.specs.declared.theorem.Thm.{Thm}
use Rattle.shape_spec.proofs.Members.{same_input}
use Rattle.bfr_store.specs.Keeps.{Keeps as StoreKeeps, MakesVariable}
use Rattle.bfr_store.specs.declared.edge.Full.{Full}
use Rattle.sym_objects.proofs.Keeping.{each_push, keeps_by_store}
use Rattle.sym_objects.specs.Keeps.{Keeps}
use Rattle.sym_objects.specs.Seen.{SobsSeen, IsWhole}
use Rattle.sym_objects.specs.declared.sob.Sob.{Sob}
use Rattle.sym_prims.specs.Applying.{Leaves, Tells}
use Rattle.gl_interp.specs.Causes.{StandsOver}
use Rattle.gl_interp.specs.Environments.{vector_at}
use Rattle.gl_symbolic.specs.Narrowing.{IsIndex, IsNarrowed}
use Rattle.gl_symbolic.specs.Steps.{StandsUnder}

-- what is never true tells the value
pub value_told : (h v x : Bool) → (h && xor v x) ≡ false → h ≡ true → x ≡ v
value_told true true true e i = refl
value_told true true false e i = absurd cc
value_told true false true e i = absurd cc
value_told true false false e i = refl
value_told false v x e i = absurd cc

module _ {B : Type 0} (g : Ghosts B) (hyp : Edge) where
  pub index_later : (old new : SobsSeen B) (k : ℕ) (e : Edge) → Leaves g old new → g.live old.store hyp → IsIndex g old hyp k e → IsIndex g new hyp k e
  index_later old new k e l h i = record {
    live = l.grows.store.stays e i.live;
    same = λ a t. l.grows.store.same e a i.live ∙ i.same a (sym (l.grows.store.same hyp a h) ∙ t);
  }

  pub narrowed_later : (old new : SobsSeen B) (edges : List Edge) → Leaves g old new → g.live old.store hyp → IsNarrowed g old hyp edges → IsNarrowed g new hyp edges
  narrowed_later old new edges l h n k d b = index_later old new k (get_or edges k d) l h (n k d b)

  pub narrowed_push : (s : SobsSeen B) (edges : List Edge) (e : Edge) (k : ℕ) → length edges ≡ k → IsNarrowed g s hyp edges → IsIndex g s hyp k e → IsNarrowed g s hyp (edges ++ e ∷ [])
  narrowed_push s edges e k is n i = each_push (λ j x. IsIndex g s hyp j x) edges e n (subst (λ (j : ℕ). IsIndex g s hyp j e) (sym is) i)

  -- the vector is the assignment itself wherever the hypothesis is true
  vector_same : (s : SobsSeen B) (edges : List Edge) → IsNarrowed g s hyp edges → (a : ℕ → Bool) → g.truth_of s.store hyp a ≡ true → (k : ℕ) → k < length edges → vector_at g s.store edges a k ≡ a k
  vector_same s edges n a t k b =
      let d : Edge = record { number = 0 } in
      get_or-map (λ e. g.truth_of s.store e a) edges k d false b ∙ (n k d b).same a t

  pub stands_narrowed : (old new : SobsSeen B) (thm : Thm) (edges : List Edge) (env : List (ℕ × Sob)) → Keeps g old new → g.live old.store hyp → IsNarrowed g old hyp edges → length edges ≡ width_of thm.bindings → StandsOver g old new thm.bindings edges env → StandsUnder g new thm hyp env
  stands_narrowed old new thm edges env keeps h n count s = record {
    live = s.live;
    input = λ a t. s.input a ∙ same_input thm.bindings (vector_at g old.store edges a) a (λ k b. vector_same old edges n a (sym (keeps.store.same hyp a h) ∙ t) k (subst (λ (m : ℕ). k < m) (sym count) b));
  }

-- a variable that the store has
module _ {B : Type 0} (g : Ghosts B) where
  keeps_of_variable : (old store : B) (x : Edge) (k : ℕ) → k < g.width_of old → MakesVariable g old store (Ok x) k → StoreKeeps g old store
  keeps_of_variable old store x k b m =
      let w : g.width_of store ≡ max (g.width_of old) (k + 1) = m.width in
      record {
        stays = m.grows.stays;
        same = m.grows.same;
        same_limit = m.grows.same_limit;
        same_budget = m.grows.same_budget;
        no_fewer = m.grows.no_fewer;
        same_width = omega (arith, w, b);
        same_spent = m.same_spent;
      }

  variable_made : (old : SobsSeen B) (store : B) (r : Result Edge Full) (k : ℕ) → IsWhole g old → k < g.width_of old.store → MakesVariable g old.store store r k → Tells g old (record old { store = store }) r (λ a. a k)
  variable_made old store (Ok x) k w b m = record {
    keeps = keeps_by_store g old (record old { store = store }) store refl w (keeps_of_variable old.store store x k b m);
    live = m.live;
    truth = m.truth;
    full = tt;
  }
  variable_made old store (Err x) k w b m = record {
    keeps = keeps_by_store g old (record old { store = store }) store refl w (record { stays = m.grows.stays; same = m.grows.same; same_limit = m.grows.same_limit; same_budget = m.grows.same_budget; no_fewer = m.grows.no_fewer; same_width = m.width; same_spent = m.same_spent });
    live = tt;
    truth = tt;
    full = inr m.full;
  }

  pub variable_told : (old : SobsSeen B) (lent store : B) (r : Result Edge Full) (k : ℕ) → lent ≡ old.store → IsWhole g old → k < g.width_of old.store → MakesVariable g lent store r k → Tells g old (record old { store = store }) r (λ a. a k)
  variable_told old lent store r k is w b m = variable_made old store r k w b (subst (λ (s : B). MakesVariable g s store r k) is m)
