-- A walk over a cone, which marks each node with what it says.
use Rattle.std.specs.Prelude.{ℕ, Bool, true, cond, eqb, ◌+◌, ◌-◌, ◌*◌, ◌≡◌, ◌≢◌, ◌≤◌, ◌<◌, List, [], ◌∷◌, length, get_or}
use Rattle.bfr_store.specs.Truth.{values_from}
use Rattle.aig_store.specs.declared.node.AigNode.{AigNode}
use Rattle.aig_store.specs.declared.mark.Mark.{Mark}
use Rattle.aig_store.specs.declared.walk.Step.{Step}
use Rattle.aig_store.specs.declared.walk.Step.TheVariants.{Value, Below}
use Rattle.aig_store.specs.Nodes.{node_value}
use Rattle.aig_store.specs.Inside.{AreMarkedBy, call_at, marked_value}

-- what the node of this number says
abbrev pub value_of : List AigNode → (ℕ → Bool) → ℕ → Bool
value_of nodes a i = get_or (values_from node_value [] nodes a) i true

-- this call's marks say what their nodes say
abbrev pub AreRight : List AigNode → (ℕ → Bool) → ℕ → List Mark → Type 0
AreRight nodes a call marks = (i : ℕ) → i < length marks → call_at marks i ≡ call → marked_value marks i ≡ value_of nodes a i

-- a step at a node: what the node says, or a smaller node that is not marked yet
abbrev pub IsNext : List AigNode → (ℕ → Bool) → ℕ → List Mark → ℕ → Step → Type 0
IsNext nodes a call marks i (Value b) = b ≡ value_of nodes a i
IsNext nodes a call marks i (Below k) = (k < i) × (call_at marks k ≢ call)

-- the last of a stack
abbrev pub top_of : List ℕ → ℕ
top_of stack = get_or stack (length stack - 1) 0

-- the first of a stack
abbrev pub bottom_of : List ℕ → ℕ
bottom_of stack = get_or stack 0 0

-- a stack of falling numbers of nodes without a mark, from the root on. It is empty where the root is marked.
pub record IsWalk (nodes : List AigNode) (a : ℕ → Bool) (call root : ℕ) (marks : List Mark) (stack : List ℕ) : Type 0 where
  pub one_each : length marks ≡ length nodes
  pub marked : AreMarkedBy call marks
  pub right : AreRight nodes a call marks
  pub within : (i : ℕ) → i < length stack → get_or stack i 0 + i < length nodes
  pub falls : (i j : ℕ) → i < j → j < length stack → get_or stack j 0 < get_or stack i 0
  pub unmarked : (i : ℕ) → i < length stack → call_at marks (get_or stack i 0) ≢ call
  pub begins : 0 < length stack → bottom_of stack ≡ root
  pub done : length stack ≡ 0 → call_at marks root ≡ call

-- how many nodes are not marked
abbrev pub unmarked_count : ℕ → List Mark → ℕ
unmarked_count call [] = 0
unmarked_count call (m ∷ ms) = cond (eqb m.call call) 0 1 + unmarked_count call ms

-- what falls with each step
abbrev pub work : ℕ → List Mark → List ℕ → ℕ
work call marks stack = unmarked_count call marks * 4294967296 + top_of stack
