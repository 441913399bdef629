-- What an edge says under an assignment: the plain evaluation of a store's list of nodes.
use Rattle.std.specs.Prelude.{ℕ, Bool, List, [], ◌∷◌, ◌++◌}
use Rattle.bfr_store.specs.declared.edge.Edge.{Edge}
use Rattle.bfr_store.specs.Edges.{truth_at}

-- the truths of the nodes, one behind another: each is computed from the truths of the nodes before it,
-- by what a node of this kind says
abbrev pub values_from : {N : Type 0} → (List Bool → (ℕ → Bool) → N → Bool) → List Bool → List N → (ℕ → Bool) → List Bool
values_from says before [] a = before
values_from says before (n ∷ ns) a = values_from says (before ++ says before a n ∷ []) ns a

-- the truth of an edge over this list of nodes, under this assignment
abbrev pub truth : {N : Type 0} → (List Bool → (ℕ → Bool) → N → Bool) → List N → Edge → (ℕ → Bool) → Bool
truth says nodes e a = truth_at (values_from says [] nodes a) e
