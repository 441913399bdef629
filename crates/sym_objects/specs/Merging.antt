-- The merge of two symbolic objects on its way.
use Rattle.std.specs.Prelude.{ℕ, Bool, cond, eqb, ◌≡◌, ◌<◌, ◌+◌, MatchOption}
use Rattle.bfr_store.specs.declared.edge.Edge.{Edge}
use Rattle.bfr_store.specs.declared.meaning.Meaning.{Ghosts}
use Rattle.sym_objects.specs.declared.sob.Sob.{Sob}
use Rattle.sym_objects.specs.declared.memo.Key.{Key}
use Rattle.sym_objects.specs.declared.merge.Both.{Both}
use Rattle.sym_objects.specs.declared.choices.Front.{Front}
use Rattle.sym_objects.specs.Seen.{SobsSeen, IsLive, stands_for}

-- the node stands for the first object where the test is true, and for the second elsewhere
pub record IsMergeOf {B : Type 0} (g : Ghosts B) (test : Edge) (s : SobsSeen B) (k : Both) (x : Sob) : Type 0 where
  pub first : IsLive s k.first
  pub second : IsLive s k.second
  pub live : IsLive s x
  pub means : (a : ℕ → Bool) → stands_for g s x a ≡ cond (g.truth_of s.store test a) (stands_for g s k.first a) (stands_for g s k.second a)

abbrev pub AreLive : {B : Type 0} → SobsSeen B → Both → Type 0
AreLive s k = IsLive s k.first × IsLive s k.second

-- the two nodes that a key means
abbrev pub both_of : Key → Both
both_of k = record { first = record { number = k.first }; second = record { number = k.second } }

-- two equal objects are their own merge, and so nothing to go through
abbrev pub size_of_both : Both → ℕ
size_of_both k = cond (eqb k.first.number k.second.number) 0 (k.first.number + k.second.number)

-- a and b are merged in place of c, and are less to go through
pub record AreHalvesOf {B : Type 0} (s : SobsSeen B) (a b c : Both) : Type 0 where
  pub whole : AreLive s c
  pub first : AreLive s a
  pub second : AreLive s b
  pub first_falls : size_of_both a < size_of_both c
  pub second_falls : size_of_both b < size_of_both c

-- the whole is the object x where the edge is true, and y elsewhere
pub record IsSideOf {B : Type 0} (g : Ghosts B) (s : SobsSeen B) (whole x y : Sob) (e : Edge) : Type 0 where
  pub live : g.live s.store e
  pub is : (v : ℕ → Bool) → stands_for g s whole v ≡ cond (g.truth_of s.store e v) (stands_for g s x v) (stands_for g s y v)

-- the first object and what is left have smaller numbers than the whole; or nothing is left, and the first is the whole
abbrev pub IsFrontOf : Front → Sob → Type 0
IsFrontOf f s = MatchOption f.rest (f.first ≡ s) (λ d. (f.first.number < s.number) × (d.number < s.number))
