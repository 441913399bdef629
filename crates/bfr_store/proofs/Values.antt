-- The truths of a list of nodes: each new node leaves those before it as they were.
use Rattle.std.proofs.Common.{◌≡◌, ℕ, ◌+◌, ◌<◌, Bool, true, List, [], ◌∷◌, ◌++◌, length, get_or, take, zero, suc, refl, ap, ◌∙◌, arith, length-append}
use Rattle.std.proofs.lemmas.List.{get_or_append_left, get_or_push}
use Rattle.bfr_store.specs.declared.edge.Edge.{Edge}
use Rattle.bfr_store.specs.Edges.{node_of, is_flipped, xor}
use Rattle.bfr_store.specs.Truth.{values_from, truth}

module _ {N : Type 0} (says : List Bool → (ℕ → Bool) → N → Bool) where
  pub values-kept : (before : List Bool) (ns : List N) (a : ℕ → Bool) (i : ℕ) (d : Bool) → i < length before → get_or (values_from says before ns a) i d ≡ get_or before i d
  values-kept before [] a i d h = refl
  values-kept before (n ∷ ns) a i d h =
      values-kept (before ++ says before a n ∷ []) ns a i d (omega (arith, h, length-append before (says before a n ∷ [])))
      ∙ get_or_append_left before (says before a n ∷ []) d i h

  pub values-append : (before : List Bool) (xs ys : List N) (a : ℕ → Bool) → values_from says before (xs ++ ys) a ≡ values_from says (values_from says before xs a) ys a
  values-append before [] ys a = refl
  values-append before (x ∷ xs) ys a = values-append (before ++ says before a x ∷ []) xs ys a

  pub values-length : (before : List Bool) (ns : List N) (a : ℕ → Bool) → length (values_from says before ns a) ≡ length before + length ns
  values-length before [] a = omega arith
  values-length before (n ∷ ns) a = values-length (before ++ says before a n ∷ []) ns a ∙ omega (arith, length-append before (says before a n ∷ []))

  -- an edge of the nodes so far says the same, whatever nodes come behind them
  pub truth-append : (xs ys : List N) (e : Edge) (a : ℕ → Bool) → node_of e < length xs → truth says (xs ++ ys) e a ≡ truth says xs e a
  truth-append xs ys e a h = ap (xor (is_flipped e)) (ap (λ vs. get_or vs (node_of e) true) (values-append [] xs ys a)
      ∙ values-kept (values_from says [] xs a) ys a (node_of e) true (omega (arith, h, values-length [] xs a)))

  -- the truth of node i is what the node says, from the truths of the nodes before it
  pub values-at : (before : List Bool) (ns : List N) (a : ℕ → Bool) (i : ℕ) (d : N) → i < length ns → (k : ℕ) → k ≡ length before + i → get_or (values_from says before ns a) k true ≡ says (values_from says before (take i ns) a) a (get_or ns i d)
  values-at before [] a i d h k e = absurd (omega arith)
  values-at before (n ∷ ns) a zero d h k e =
      values-kept (before ++ says before a n ∷ []) ns a k true (omega (arith, e, length-append before (says before a n ∷ [])))
      ∙ get_or_push before (says before a n) true k (omega (arith, e))
  values-at before (n ∷ ns) a (suc i) d h k e =
      values-at (before ++ says before a n ∷ []) ns a i d (omega (arith, h)) k (omega (arith, e, length-append before (says before a n ∷ [])))
