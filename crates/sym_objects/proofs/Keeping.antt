-- What calls leave of a table.
use Rattle.std.proofs.Common.{◌≡◌, ℕ, ◌<◌, Bool, false, List, [], ◌∷◌, ◌++◌, length, get_or, refl, ap, sym, ◌∙◌, arith, length-append, zero, suc, subst, Result}
use Rattle.std.proofs.lemmas.List.{get_or_append_left}
use Rattle.bfr_store.specs.declared.edge.Edge.{Edge}
use Rattle.bfr_store.specs.declared.meaning.Meaning.{Ghosts}
use Rattle.bfr_store.specs.Keeps.{Grows as StoreGrows, Keeps as StoreKeeps, Makes as StoreMakes}
use Rattle.bfr_store.specs.declared.edge.Full.{Full}
use Rattle.sym_objects.specs.Makes.{MakesEdge}
use Rattle.bfr_store.proofs.Keeping.{keeps_none as store_keeps_none, keeps_then as store_keeps_then}
use Rattle.gl_logic.specs.Object.{nil}
use Rattle.sym_objects.specs.declared.sob.Sob.{Sob}
use Rattle.sym_objects.specs.declared.node.Node.{Node}
use Rattle.sym_objects.specs.declared.node.Node.TheVariants as node
use Rattle.sym_objects.specs.Nodes.{values_from, object_by, constant_by, bits_by, node_at, EdgesLive}
use Rattle.sym_objects.specs.Seen.{SobsSeen, IsLive, IsWhole, is_constant, is_constant_edge, stands_for, bits_in}
use Rattle.sym_objects.specs.Keeps.{Grows, Keeps}
use Rattle.sym_objects.proofs.Values.{PartsIn, values-old, values-new, values-says, object_by-local, constant_by-local, bits_by-local, objects-edges}

-- what holds of each item holds of each with one more
pub each_push : {X : Type 0} (P : ℕ → X → Type 0) (xs : List X) (x : X) → ((i : ℕ) (d : X) → i < length xs → P i (get_or xs i d)) → P (length xs) x → (i : ℕ) (d : X) → i < length (xs ++ x ∷ []) → P i (get_or (xs ++ x ∷ []) i d)
each_push P [] x f p zero d h = p
each_push P [] x f p (suc i) d h = absurd (omega (arith, h))
each_push P (y ∷ ys) x f p zero d h = f 0 d (omega arith)
each_push P (y ∷ ys) x f p (suc i) d h = each_push (λ k. P (suc k)) ys x (λ k e l. f (suc k) e (omega (arith, l))) p i d (omega (arith, h))

pub edges_stay : (live new : Edge → Type 0) → ((e : Edge) → live e → new e) → (n : Node) → EdgesLive live n → EdgesLive new n
edges_stay live new s (node.Character c) h = tt
edges_stay live new s (node.Symbol c) h = tt
edges_stay live new s (node.Text c) h = tt
edges_stay live new s (node.Boolean c) h = s c h
edges_stay live new s (node.Sign c) h = s c h
edges_stay live new s (node.Bit c r) h = s c h
edges_stay live new s (node.Pair x y) h = tt
edges_stay live new s (node.Choice c x y) h = s c h

module _ {B : Type 0} (g : Ghosts B) where
  -- ---- one more node
  pub keeps_add : (old new : SobsSeen B) (n : Node) → new ≡ record old { nodes = old.nodes ++ n ∷ [] } → IsWhole g old → EdgesLive (g.live old.store) n → Keeps g old new
  unfolding stands_for is_constant
  keeps_add old new n e w l =
      let after : SobsSeen B = record old { nodes = old.nodes ++ n ∷ [] } in
      let kept : Keeps g old after = record {
        whole = each_push (λ i m. EdgesLive (g.live old.store) m) old.nodes n w l;
        stays = λ x h. omega (arith, h, length-append old.nodes (n ∷ []));
        same = λ x a h. values-old nil (object_by (λ c. g.truth_of old.store c a)) old.nodes n x.number h;
        constants = λ x h. values-old false (constant_by (is_constant_edge g)) old.nodes n x.number h;
        nodes = λ i d h. get_or_append_left old.nodes (n ∷ []) d i h;
        store = store_keeps_none g old.store;
        same_limit = refl;
        no_fewer = omega (arith, length-append old.nodes (n ∷ []));
      } in
      subst (λ (s : SobsSeen B). Keeps g old s) (sym e) kept

  pub means_add : (old new : SobsSeen B) (n : Node) (x : Sob) (a : ℕ → Bool) → new ≡ record old { nodes = old.nodes ++ n ∷ [] } → x.number ≡ length old.nodes
      → stands_for g new x a ≡ object_by (λ c. g.truth_of old.store c a) (λ y. stands_for g old y a) n
  unfolding stands_for
  means_add old new n x a e h =
      ap (λ (s : SobsSeen B). get_or (values_from nil (object_by (λ c. g.truth_of s.store c a)) [] s.nodes) x.number nil) e
      ∙ values-new nil (object_by (λ c. g.truth_of old.store c a)) old.nodes n x.number h

  pub constant_add : (old new : SobsSeen B) (n : Node) (x : Sob) → new ≡ record old { nodes = old.nodes ++ n ∷ [] } → x.number ≡ length old.nodes
      → is_constant g new x ≡ constant_by (is_constant_edge g) (is_constant g old) n
  unfolding is_constant
  constant_add old new n x e h =
      ap (λ (s : SobsSeen B). get_or (values_from false (constant_by (is_constant_edge g)) [] s.nodes) x.number false) e
      ∙ values-new false (constant_by (is_constant_edge g)) old.nodes n x.number h

  -- ---- a node that is there
  pub means_of : (s : SobsSeen B) (x : Sob) (a : ℕ → Bool) → IsLive s x → PartsIn x.number (node_at s.nodes x)
      → stands_for g s x a ≡ object_by (λ c. g.truth_of s.store c a) (λ y. stands_for g s y a) (node_at s.nodes x)
  unfolding stands_for
  means_of s x a h p = values-says nil (object_by (λ c. g.truth_of s.store c a)) (object_by-local (λ c. g.truth_of s.store c a)) s.nodes x.number (node.Character 0) h p

  pub constant_of : (s : SobsSeen B) (x : Sob) → IsLive s x → PartsIn x.number (node_at s.nodes x)
      → is_constant g s x ≡ constant_by (is_constant_edge g) (is_constant g s) (node_at s.nodes x)
  unfolding is_constant
  constant_of s x h p = values-says false (constant_by (is_constant_edge g)) (constant_by-local (is_constant_edge g)) s.nodes x.number (node.Character 0) h p

  -- ---- another store that keeps what was there
  pub keeps_by_store : (old new : SobsSeen B) (store : B) → new ≡ record old { store = store } → IsWhole g old → StoreKeeps g old.store store → Keeps g old new
  unfolding stands_for is_constant
  keeps_by_store old new store e w k =
      let kept : Keeps g old (record old { store = store }) = record {
        whole = λ i d h. edges_stay (g.live old.store) (g.live store) k.stays (get_or old.nodes i d) (w i d h);
        stays = λ x h. h;
        same = λ x a h. ap (λ xs. get_or xs x.number nil) (objects-edges (λ c. g.truth_of store c a) (λ c. g.truth_of old.store c a) (g.live old.store) (λ c l. k.same c a l) old.nodes w);
        constants = λ x h. refl;
        nodes = λ i d h. refl;
        store = k;
        same_limit = refl;
        no_fewer = omega arith;
      } in
      subst (λ (s : SobsSeen B). Keeps g old s) (sym e) kept

  pub grows_by_store : (old new : SobsSeen B) (store : B) → new ≡ record old { store = store } → IsWhole g old → StoreGrows g old.store store → Grows g old new
  unfolding stands_for is_constant
  grows_by_store old new store e w k =
      let kept : Grows g old (record old { store = store }) = record {
        whole = λ i d h. edges_stay (g.live old.store) (g.live store) k.stays (get_or old.nodes i d) (w i d h);
        stays = λ x h. h;
        same = λ x a h. ap (λ xs. get_or xs x.number nil) (objects-edges (λ c. g.truth_of store c a) (λ c. g.truth_of old.store c a) (g.live old.store) (λ c l. k.same c a l) old.nodes w);
        constants = λ x h. refl;
        nodes = λ i d h. refl;
        store = k;
        same_limit = refl;
        no_fewer = omega arith;
      } in
      subst (λ (s : SobsSeen B). Grows g old s) (sym e) kept

  -- ---- one call after another
  pub keeps_none : (s : SobsSeen B) → IsWhole g s → Keeps g s s
  keeps_none s w = record {
    whole = w;
    stays = λ x h. h;
    same = λ x a h. refl;
    constants = λ x h. refl;
    nodes = λ i d h. refl;
    store = store_keeps_none g s.store;
    same_limit = refl;
    no_fewer = omega arith;
  }

  pub keeps_then : (old between new : SobsSeen B) → Keeps g old between → Keeps g between new → Keeps g old new
  keeps_then old between new k l = record {
    whole = l.whole;
    stays = λ x h. l.stays x (k.stays x h);
    same = λ x a h. l.same x a (k.stays x h) ∙ k.same x a h;
    constants = λ x h. l.constants x (k.stays x h) ∙ k.constants x h;
    nodes = λ i d h. l.nodes i d (omega (arith, h, k.no_fewer)) ∙ k.nodes i d h;
    store = store_keeps_then g old.store between.store new.store k.store l.store;
    same_limit = l.same_limit ∙ k.same_limit;
    no_fewer = omega (arith, k.no_fewer, l.no_fewer);
  }

  store_grows : (old new : B) → StoreKeeps g old new → StoreGrows g old new
  store_grows old new k = record { stays = k.stays; same = k.same; same_limit = k.same_limit; same_budget = k.same_budget; no_fewer = k.no_fewer }

  pub grows_of : (old new : SobsSeen B) → Keeps g old new → Grows g old new
  grows_of old new k = record {
    whole = k.whole;
    stays = k.stays;
    same = k.same;
    constants = k.constants;
    nodes = k.nodes;
    store = store_grows old.store new.store k.store;
    same_limit = k.same_limit;
    no_fewer = k.no_fewer;
  }

  pub grows_none : (s : SobsSeen B) → IsWhole g s → Grows g s s
  grows_none s w = grows_of s s (keeps_none s w)

  pub grows_then : (old between new : SobsSeen B) → Grows g old between → Grows g between new → Grows g old new
  grows_then old between new k l = record {
    whole = l.whole;
    stays = λ x h. l.stays x (k.stays x h);
    same = λ x a h. l.same x a (k.stays x h) ∙ k.same x a h;
    constants = λ x h. l.constants x (k.stays x h) ∙ k.constants x h;
    nodes = λ i d h. l.nodes i d (omega (arith, h, k.no_fewer)) ∙ k.nodes i d h;
    store = record {
      stays = λ c h. l.store.stays c (k.store.stays c h);
      same = λ c a h. l.store.same c a (k.store.stays c h) ∙ k.store.same c a h;
      same_limit = l.store.same_limit ∙ k.store.same_limit;
      same_budget = l.store.same_budget ∙ k.store.same_budget;
      no_fewer = omega (arith, k.store.no_fewer, l.store.no_fewer);
    };
    same_limit = l.same_limit ∙ k.same_limit;
    no_fewer = omega (arith, k.no_fewer, l.no_fewer);
  }

-- ---- the bits
pub bits_old : (nodes : List Node) (n : Node) (x : Sob) → x.number < length nodes → bits_in (nodes ++ n ∷ []) x ≡ bits_in nodes x
unfolding bits_in
bits_old nodes n x h = values-old [] bits_by nodes n x.number h

pub bits_new : (nodes : List Node) (n : Node) (x : Sob) → x.number ≡ length nodes → bits_in (nodes ++ n ∷ []) x ≡ bits_by (bits_in nodes) n
unfolding bits_in
bits_new nodes n x h = values-new [] bits_by nodes n x.number h

pub bits_of_node : (nodes : List Node) (x : Sob) → x.number < length nodes → PartsIn x.number (node_at nodes x) → bits_in nodes x ≡ bits_by (bits_in nodes) (node_at nodes x)
unfolding bits_in
bits_of_node nodes x h p = values-says [] bits_by bits_by-local nodes x.number (node.Character 0) h p

-- a function that a call of the lent store makes
pub edge_by_store : {B : Type 0} (g : Ghosts B) (old : SobsSeen B) (lent store : B) (result : Result Edge Full) (function : B → (ℕ → Bool) → Bool) → lent ≡ old.store → IsWhole g old → StoreMakes g lent store result (function lent)
    → MakesEdge {E = Full} g old (record old { store = store }) result (function old.store)
edge_by_store g old lent store result function e w m =
    let made : StoreMakes g old.store store result (function old.store) = subst (λ b. StoreMakes g b store result (function b)) e m in
    record { keeps = keeps_by_store g old (record old { store = store }) store refl w made.keeps; live = made.live; truth = made.truth }
