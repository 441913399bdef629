-- What the calls of a store of bit functions do to it, and what they answer.
use Rattle.std.specs.Prelude.{ℕ, Bool, ◌+◌, ◌≡◌, ◌≤◌, max, is_ok, Result, IfOk, OnErr, if◌then◌else◌}
use Rattle.bfr_store.specs.declared.edge.Edge.{Edge}
use Rattle.bfr_store.specs.declared.edge.Full.{Full}
use Rattle.bfr_store.specs.declared.meaning.Meaning.{Ghosts}

-- every call: a live edge stays live and keeps its truth, the limit and the budget of decisions stay, and the count doesn't fall
pub record Grows {B : Type 0} (g : Ghosts B) (old new : B) : Type 0 where
  pub stays : (e : Edge) → g.live old e → g.live new e
  pub same : (e : Edge) (a : ℕ → Bool) → g.live old e → g.truth_of new e a ≡ g.truth_of old e a
  pub same_limit : g.limit_of new ≡ g.limit_of old
  pub same_budget : g.budget_of new ≡ g.budget_of old
  pub no_fewer : g.count_of old ≤ g.count_of new

-- every call that makes no variable and decides nothing: the number of variables stays too, and whether the last
-- decision was given up
pub record Keeps {B : Type 0} (g : Ghosts B) (old new : B) : Type 0 where
  pub stays : (e : Edge) → g.live old e → g.live new e
  pub same : (e : Edge) (a : ℕ → Bool) → g.live old e → g.truth_of new e a ≡ g.truth_of old e a
  pub same_limit : g.limit_of new ≡ g.limit_of old
  pub same_budget : g.budget_of new ≡ g.budget_of old
  pub no_fewer : g.count_of old ≤ g.count_of new
  pub same_width : g.width_of new ≡ g.width_of old
  pub same_spent : g.spent new ≡ g.spent old

-- a call that makes a function out of others: the answer is a live edge that stands for the function, and `Full` comes
-- only where the count has reached the limit
pub record Makes {B : Type 0} (g : Ghosts B) (old new : B) (result : Result Edge Full) (function : (ℕ → Bool) → Bool) : Type 0 where
  pub keeps : Keeps g old new
  pub live : IfOk result (λ r. g.live new r)
  pub truth : IfOk result (λ r. (a : ℕ → Bool) → g.truth_of new r a ≡ function a)
  pub full : OnErr result (g.count_of new ≡ g.limit_of new)

-- a call that makes the function of a variable: the same, and the width is past the variable
pub record MakesVariable {B : Type 0} (g : Ghosts B) (old new : B) (result : Result Edge Full) (k : ℕ) : Type 0 where
  pub grows : Grows g old new
  pub same_spent : g.spent new ≡ g.spent old
  pub width : g.width_of new ≡ (if is_ok result then max (g.width_of old) (k + 1) else g.width_of old)
  pub live : IfOk result (λ r. g.live new r)
  pub truth : IfOk result (λ r. (a : ℕ → Bool) → g.truth_of new r a ≡ a k)
  pub full : OnErr result (g.count_of new ≡ g.limit_of new)
