use Rattle.std.proofs.Common.{◌≡◌, ◌≤◌, ◌||◌, ℕ, take, length, eqb}
use Rattle.std.specs.List.{list_any}
use Rattle.gl_logic.proofs.name_set.NameSet.insert_all.Given as goal

abbrev pub invariant-loop-i : goal.invariant-loop-i
invariant-loop-i l = record {
  more : length l.initial.self ≤ length l.self;
  same : take (length l.initial.self) l.self ≡ l.initial.self;
  has : (v : ℕ) → list_any (eqb v) l.self ≡ (list_any (eqb v) (take l.i l.names) || list_any (eqb v) l.initial.self);
}
