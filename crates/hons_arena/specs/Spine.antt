-- An object as the ids of its elements in order and of its tail, and the bounds of a tree.
use Rattle.std.specs.Prelude.{◌≡◌, ℕ, ◌<◌, List, [], ◌∷◌, All, map}
use Rattle.std.proofs.Common.{◌⊎◌}
use Rattle.gl_logic.specs.Lists.{IsAtom, size_of}
use Rattle.gl_logic.specs.Object.{Object, Cons}
use Rattle.gl_logic.specs.Parts.{car_steps}
use Rattle.hons_arena.specs.declared.id.Id.{Id}
use Rattle.hons_arena.specs.Ids.{object_at, IsLive}

-- the list of these elements in order, in front of a tail
abbrev pub onto : List Object → Object → Object
onto [] t = t
onto (x ∷ xs) t = Cons x (onto xs t)

pub record IsSpine (objects : List Object) (x : Object) (cars : List Id) (tail : Id) : Type 0 where
  pub whole : onto (map (object_at objects) cars) (object_at objects tail) ≡ x
  pub live : All (IsLive objects) cars
  pub live_tail : IsLive objects tail
  pub atom : IsAtom (object_at objects tail)

-- more conses than there is room for, or more car steps on a path
abbrev pub ExceedsRoom : Object → ℕ → ℕ → Type 0
ExceedsRoom x room steps = (room < size_of x) ⊎ (steps < car_steps x)
