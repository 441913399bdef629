-- What an arena holds, and how it grows.
use Rattle.std.specs.Prelude.{◌≡◌, ◌≢◌, ℕ, ◌+◌, ◌<◌, ◌≤◌, ◌↔◌, List, [], ◌∷◌, ◌++◌, length, All, AllPairs, Contains, Result, IfOk, OnOk, OnErr, IsErr, refl}
use Rattle.std.specs.Coded.{Coded, code_by, coded×, coded_ℕ, coded_list}
use Rattle.std.proofs.Common.{◌⊎◌}
use Rattle.gl_logic.specs.Object.{Object, coded_object}
use Rattle.gl_logic.specs.Wide.{IsWideObject}
use Rattle.hons_arena.specs.declared.id.Full.{Full}
use Rattle.hons_arena.specs.declared.id.Id.{Id}
use Rattle.hons_arena.specs.Ids.{object_at, IsLive, IsIdOf}
use Rattle.hons_arena.specs.Parts.{IsCellOf, AreHeld}

-- how many cells there may be, and the object of each cell in the order of their making
pub record Held : Type 0 where
  pub limit : ℕ
  pub objects : List Object

abbrev pub coded_held : Coded Held
coded_held =
    code_by (ℕ × List Object) (coded× coded_ℕ (coded_list coded_object)) (λ h. (h.limit, h.objects)) (λ p. record { limit = p.0; objects = p.1 }) (λ _. refl)

-- no object is held twice
abbrev pub IsEachOnce : List Object → Type 0
IsEachOnce objects = AllPairs (λ x y. x ≢ y) objects

-- an object that was held stays as it was, another one is added last
abbrev pub Enters : List Object → List Object → Object → Type 0
Enters old new x = (Contains old x × (new ≡ old)) ⊎ ((¬ Contains old x) × (new ≡ old ++ x ∷ []))

-- a new object has no cell left
pub record HasNoCell (held : Held) (x : Object) : Type 0 where
  pub absent : ¬ Contains held.objects x
  pub full : length held.objects ≡ held.limit

-- what is true of every arena: each object is held once and has one id, each cell of an object that an id stands for is
-- held, and no id stands for an integer outside 128 bits
pub record IsWhole (held : Held) : Type 0 where
  pub within : length held.objects ≤ held.limit
  pub different : IsEachOnce held.objects
  pub ids : (a b : Id) → IsLive held.objects a → IsLive held.objects b → object_at held.objects a ≡ object_at held.objects b → a ≡ b
  pub parts : (id : Id) → IsLive held.objects id → AreHeld held.objects (object_at held.objects id)
  pub narrow : (id : Id) → IsLive held.objects id → ¬ IsWideObject (object_at held.objects id)

-- an object that takes a cell is asked for: the answer is its id, and it is held from then on; Full exactly where it is
-- not held and there is no cell left, and then nothing has changed
pub record Interns (old new : Held) (x : Object) (answer : Result Id Full) : Type 0 where
  pub id : IfOk answer (IsIdOf new.objects x)
  pub objects : OnOk answer (Enters old.objects new.objects x)
  pub limit : new.limit ≡ old.limit
  pub full : IsErr answer ↔ HasNoCell old x
  pub unchanged : OnErr answer (new ≡ old)
  pub whole : IsWhole new

-- cells of the object are added, and nothing else
pub record AddsCellsOf (x : Object) (old new : List Object) : Type 0 where
  pub made : List Object
  pub is : new ≡ old ++ made
  pub cells : All (λ y. IsCellOf y x) made

-- some cell of the object is not held, and no cell is left
pub record LacksCell (held : Held) (x : Object) : Type 0 where
  pub lacking : Object
  pub cell : IsCellOf lacking x
  pub none : HasNoCell held lacking

-- an object is placed part by part: the answer is its id, and only cells of it are added; after Full some cell of it is
-- lacking, and those that were placed stay
pub record Places (old new : Held) (x : Object) (answer : Result Id Full) : Type 0 where
  pub id : IfOk answer (IsIdOf new.objects x)
  pub objects : AddsCellsOf x old.objects new.objects
  pub limit : new.limit ≡ old.limit
  pub lacks : OnErr answer (LacksCell new x)

-- the different cells of the object that are not held are more than the free room
pub record HasNoRoomFor (held : Held) (x : Object) : Type 0 where
  pub cells : List Object
  pub different : IsEachOnce cells
  pub needed : All (λ y. IsCellOf y x) cells
  pub absent : All (λ y. ¬ Contains held.objects y) cells
  pub more : held.limit < length held.objects + length cells
