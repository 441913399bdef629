-- How a choice is to be made.
use Rattle.std.specs.Prelude.{ℕ, Bool, true, cond, ◌&&◌, ◌≤◌, ◌<◌, ◌≡◌, List, get_or}
use Rattle.bfr_store.specs.declared.edge.Edge.{Edge}
use Rattle.bfr_store.specs.Edges.{node_of, truth_at, xor}
use Rattle.bdd_store.specs.declared.plan.Plan.{Plan}
use Rattle.bdd_store.specs.declared.plan.Plan.TheVariants.{Known, Both, Whole}

-- what a plan says, where these are the truths of the nodes
abbrev pub plan_value : List Bool → Plan → Bool
plan_value values (Known r) = truth_at values r
plan_value values (Both x y flag) = xor flag (truth_at values x && truth_at values y)
plan_value values (Whole t x y flag) = xor flag (cond (truth_at values t) (truth_at values x) (truth_at values y))

-- the edge's node is the constant's or one of three: whatever bounds these from below bounds it
abbrev pub IsDrawn : Edge → Edge → Edge → Edge → Type 0
IsDrawn t x y r = (f : ℕ → ℕ) (m : ℕ) → m ≤ f 0 → m ≤ f (node_of t) → m ≤ f (node_of x) → m ≤ f (node_of y) → m ≤ f (node_of r)

abbrev pub IsDrawnPlan : Edge → Edge → Edge → Plan → Type 0
IsDrawnPlan t x y (Known r) = IsDrawn t x y r
IsDrawnPlan t x y (Both u v flag) = IsDrawn t x y u × IsDrawn t x y v
IsDrawnPlan t x y (Whole s u v flag) = IsDrawn t x y s × IsDrawn t x y u × IsDrawn t x y v

-- a plan that goes on has a test that is no constant
abbrev pub IsOpen : Plan → Type 0
IsOpen (Whole s u v flag) = 0 < node_of s
IsOpen _ = Unit {0}

-- the constant's node is true
abbrev pub HasConstant : List Bool → Type 0
HasConstant values = get_or values 0 true ≡ true
