-- What calls leave of a table.
use Rattle.std.specs.Prelude.{ℕ, Bool, ◌≡◌, ◌≤◌, ◌<◌, length, get_or}
use Rattle.bfr_store.specs.declared.meaning.Meaning.{Ghosts}
use Rattle.bfr_store.specs.Keeps.{Grows as StoreGrows, Keeps as StoreKeeps}
use Rattle.sym_objects.specs.declared.sob.Sob.{Sob}
use Rattle.sym_objects.specs.declared.node.Node.{Node}
use Rattle.sym_objects.specs.Seen.{SobsSeen, IsLive, IsWhole, is_constant, stands_for}

-- what every call leaves: the table is whole; each live node stays where it is, as it is, and stands for what it stood for,
-- and each live edge stays live and keeps its truth; no count falls, and both limits stay; the number of variables stays,
-- and whether the last decision was given up
pub record Keeps {B : Type 0} (g : Ghosts B) (old new : SobsSeen B) : Type 0 where
  pub whole : IsWhole g new
  pub stays : (x : Sob) → IsLive old x → IsLive new x
  pub same : (x : Sob) (a : ℕ → Bool) → IsLive old x → stands_for g new x a ≡ stands_for g old x a
  pub constants : (x : Sob) → IsLive old x → is_constant g new x ≡ is_constant g old x
  pub nodes : (i : ℕ) (d : Node) → i < length old.nodes → get_or new.nodes i d ≡ get_or old.nodes i d
  pub store : StoreKeeps g old.store new.store
  pub same_limit : new.limit ≡ old.limit
  pub no_fewer : length old.nodes ≤ length new.nodes

-- the same where variables are made or a decision is taken, as calls of the layers above do over the lent store: whether
-- the width stays is for them to say
pub record Grows {B : Type 0} (g : Ghosts B) (old new : SobsSeen B) : Type 0 where
  pub whole : IsWhole g new
  pub stays : (x : Sob) → IsLive old x → IsLive new x
  pub same : (x : Sob) (a : ℕ → Bool) → IsLive old x → stands_for g new x a ≡ stands_for g old x a
  pub constants : (x : Sob) → IsLive old x → is_constant g new x ≡ is_constant g old x
  pub nodes : (i : ℕ) (d : Node) → i < length old.nodes → get_or new.nodes i d ≡ get_or old.nodes i d
  pub store : StoreGrows g old.store new.store
  pub same_limit : new.limit ≡ old.limit
  pub no_fewer : length old.nodes ≤ length new.nodes
