-- What a function answers that may refuse a form.
use Rattle.std.specs.Prelude.{◌≡◌, ℕ, ◌-◌, ◌&&◌, leb, ltb, if◌then◌else◌, List, [], ◌∷◌, ◌++◌, map, length, true, false, Option, Some, None, Result, Ok, Err, Bool}
use Rattle.std.specs.List.{flat_map}
use Rattle.std.specs.Option.{option_and_then}
use Rattle.gl_logic.specs.Object.{Object}
use Rattle.shape_spec.specs.ShapeSeen.{ShapeSeen, Pair}
use Rattle.shape_spec.specs.ShapeMeant.{index_meant, shape_meant}
use Rattle.shape_spec.specs.declared.item_form.Items.{Items}
use Rattle.shape_spec.specs.declared.item_form.ItemVariable.{ItemVariable}
use Rattle.shape_spec.specs.ShapeOf.{shape_of}
use Rattle.shape_spec.specs.Indices.{indices_in}
use Rattle.shape_spec.specs.ItemsMeant.{Slotted}
use Rattle.gl_logic.specs.Wording.{is_legal}
use Rattle.shape_spec.specs.BindingsMeant.{is_shape, are_below, are_bindings}
use Rattle.gl_logic.specs.declared.ids.TextId.{TextId}
use Rattle.shape_spec.specs.declared.shape.Shape.{Shape}
use Rattle.shape_spec.specs.declared.fault.BindFault.{BindFault}
use Rattle.shape_spec.specs.declared.fault.BindFault.TheVariants as fault

-- it is bad exactly where nothing is meant
abbrev pub Refuses : {B : Type 0} → BindFault → Option B → Type 0
Refuses fault.Bad meant = meant ≡ None
Refuses fault.Memory meant = Unit {0}

abbrev pub Gives : {A B : Type 0} → (A → B) → Result A BindFault → Option B → Type 0
Gives view (Ok x) meant = meant ≡ Some (view x)
Gives view (Err e) meant = Refuses e meant

-- ---- so many indices are left
-- the conditions on one shape, which may have as many indices as are left
abbrev pub fits : ℕ → ShapeSeen → Bool
fits left s = is_shape s && (are_below (indices_in s) && leb (length (indices_in s)) left)

-- the shape, and how many indices are left behind it
abbrev pub taken : ℕ → Option ShapeSeen → Option (ShapeSeen × ℕ)
taken left None = None
taken left (Some s) = if fits left s then Some (s, left - length (indices_in s)) else None

abbrev pub shape_left : Shape × ℕ → ShapeSeen × ℕ
shape_left p = (shape_of p.0, p.1)

-- an index below 1,000,000
abbrev pub small : Option ℕ → Option ℕ
small None = None
small (Some i) = if ltb i 1000000 then Some i else None

abbrev pub small_index : Object → Option ℕ
small_index x = small (index_meant x)

abbrev pub all_small : List ℕ → Option (List ℕ)
all_small is = if are_below is then Some is else None

-- the conses of elements, from the last to the first, onto a shape
abbrev pub before_meant : List (List ℕ) → Bool → List Object → ShapeSeen → Option ShapeSeen
before_meant names quasi [] s = Some s
before_meant names quasi (x ∷ xs) s = option_and_then (λ a. before_meant names quasi xs (Pair a s)) (shape_meant names quasi x)

-- ---- so many slots are left
abbrev pub slots_in : List Slotted → List ℕ
slots_in items = flat_map (λ i. i.slots) items

abbrev pub all_within : ℕ → Option (List Slotted) → Option (List Slotted)
all_within left None = None
all_within left (Some items) = if leb (length (slots_in items)) left then Some items else None

-- an item of at most so many slots
abbrev pub within : ℕ → Option Slotted → Option Slotted
within left None = None
within left (Some s) = if leb (length s.slots) left then Some s else None

-- what is read of an item
abbrev pub variable_of : ItemVariable → ℕ × Bool
variable_of v = (v.name.number, v.is_boolean)

abbrev pub slotted_of : Items → Slotted
slotted_of x = record { variables = map variable_of x.variables.items; slots = x.slots.items }

-- ---- bindings
abbrev pub entry_left : TextId × Shape → ℕ × ShapeSeen
entry_left p = (p.0.number, shape_of p.1)

abbrev pub entry_within : ℕ → Option (ℕ × ShapeSeen) → Option (ℕ × ShapeSeen)
entry_within left None = None
entry_within left (Some p) = if fits left p.1 then Some p else None

-- one more is bound, or breaks a rule
abbrev pub Adds : List (List ℕ) → List (ℕ × ShapeSeen) → ℕ × ShapeSeen → List (ℕ × ShapeSeen) → Result (Unit {0}) BindFault → Type 0
Adds names old p new (Ok u) = (new ≡ old ++ p ∷ []) × (is_legal names p.0 ≡ true)
Adds names old p new (Err fault.Bad) = are_bindings names (old ++ p ∷ []) ≡ false
Adds names old p new (Err fault.Memory) = Unit {0}
