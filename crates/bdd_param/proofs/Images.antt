-- The bits of an image.
use Rattle.std.proofs.Common.{◌≡◌, ◌≢◌, ◌∙◌, ap, sym, ℕ, ◌<◌, ◌≤◌, Bool, false, List, length, get_or, map, set, arith, inl, inr, get_or-set_same, get_or-set_other, length-set}
use Rattle.std.proofs.lemmas.List.{get_or-map, get_or_past, length-map}
use Rattle.std.proofs.lemmas.Bool.{cases_lt}
use Rattle.bfr_store.specs.declared.edge.Edge.{Edge}
use Rattle.bdd_store.specs.declared.node.Node.{Node}
use Rattle.bdd_store.specs.Nodes.{truth_of}
use Rattle.bdd_param.specs.Images.{image}

module _ (nodes : List Node) (es : List Edge) (a : ℕ → Bool) where
  pub image-at : (k : ℕ) (d : Edge) → k < length es → image nodes es a k ≡ truth_of nodes (get_or es k d) a
  image-at k d within = get_or-map (λ e. truth_of nodes e a) es k d false within

  pub image-past : (k : ℕ) → length es ≤ k → image nodes es a k ≡ false
  image-past k beyond = get_or_past (map (λ e. truth_of nodes e a) es) k false (omega (arith, length-map es (λ e. truth_of nodes e a)))

  -- with another edge at a place
  module _ (v : ℕ) (x : Edge) where
    pub image-here : v < length es → image nodes (set es v x) a v ≡ truth_of nodes x a
    image-here within =
        get_or-map (λ e. truth_of nodes e a) (set es v x) v x false (omega (arith, length-set es v x))
        ∙ ap (λ e. truth_of nodes e a) (get_or-set_same es v x x within)

    pub image-there : (k : ℕ) → k ≢ v → image nodes (set es v x) a k ≡ image nodes es a k
    image-there k other = elim (cases_lt k (length es)) [
      | inl within ↦
          get_or-map (λ e. truth_of nodes e a) (set es v x) k x false (omega (arith, length-set es v x))
          ∙ ap (λ e. truth_of nodes e a) (get_or-set_other es v k x x other)
          ∙ sym (image-at k x within)
      | inr beyond ↦
          get_or_past (map (λ e. truth_of nodes e a) (set es v x)) k false (omega (arith, length-map (set es v x) (λ e. truth_of nodes e a), length-set es v x))
          ∙ sym (image-past k beyond)
    ]
