-- The items of `auto-bindings`: slots in a row, each of which becomes an index of a variable.
use Rattle.std.specs.Prelude.{ℕ, zero, ◌+◌, Bool, true, false, ◌&&◌, ◌==◌, leb, eqb, if◌then◌else◌, List, [], ◌∷◌, map, length, get_or, replicate, Option, Some, None, pos}
use Rattle.std.specs.List.{flat_map, list_all, filter, range_with_len}
use Rattle.std.specs.Option.{option_map}
use Rattle.gl_logic.specs.Object.{Object, Int, Symbol, Cons}
use Rattle.shape_spec.specs.ShapeSeen.{ShapeSeen, Boolean, Integer}
use Rattle.gl_logic.specs.Wording.{elements, both}
use Rattle.shape_spec.specs.Heads.{item_of}
use Rattle.shape_spec.specs.declared.words.ItemWord.{ItemWord}
use Rattle.shape_spec.specs.declared.words.ItemWord.TheVariants as item

-- the variables in the order in which they are written, each with whether it is a Boolean, and for each slot the variable that it is one of
pub record Slotted : Type 0 where
  pub variables : List (ℕ × Bool)
  pub slots : List ℕ

abbrev pub own : ℕ → Bool → ℕ → Slotted
own v is_boolean n = record { variables = (v, is_boolean) ∷ []; slots = replicate n v }

-- ---- items of one variable, by what stands behind the word
-- a variable has 1 to 128 slots
abbrev pub own_slots : ℕ → Bool → ℕ → Option Slotted
own_slots v is_boolean n = if leb 1 n && leb n 128 then Some (own v is_boolean n) else None

-- (:int v n) has n slots, and (:nat v n) one more
abbrev pub number_item : ℕ → Option (List Object) → Option Slotted
number_item more (Some (Symbol v ∷ Int (pos n) ∷ [])) = own_slots v false (n + more)
number_item more _ = None

abbrev pub boolean_item : Option (List Object) → Option Slotted
boolean_item (Some (Symbol v ∷ [])) = own_slots v true 1
boolean_item _ = None

-- ---- items of items
abbrev pub all_variables : List Slotted → List (ℕ × Bool)
all_variables items = flat_map (λ i. i.variables) items

-- the items' slots one after the other
abbrev pub in_sequence : List Slotted → Slotted
in_sequence items = record { variables = all_variables items; slots = flat_map (λ i. i.slots) items }

-- how many slots the first item has
abbrev pub first_count : List Slotted → ℕ
first_count [] = 0
first_count (i ∷ items) = length i.slots

abbrev pub have_count : ℕ → List Slotted → Bool
have_count n items = list_all (λ i. length i.slots == n) items

-- slot k of each item
abbrev pub slots_at : List Slotted → ℕ → List ℕ
slots_at items k = map (λ i. get_or i.slots k 0) items

-- the first slot of each item, then the second of each, and so on
abbrev pub interleaved : List Slotted → Slotted
interleaved items = record { variables = all_variables items; slots = flat_map (slots_at items) (range_with_len 0 (first_count items)) }

-- of items with equal counts
abbrev pub mixed : List Slotted → Option Slotted
mixed items = if have_count (first_count items) items then Some (interleaved items) else None

-- ---- all items
abbrev pub itemized : Option ItemWord → Object → Option (List Slotted) → Option Slotted
itemized (Some item.Nat) d items = number_item 1 (elements d)
itemized (Some item.Int) d items = number_item 0 (elements d)
itemized (Some item.Boolean) d items = boolean_item (elements d)
itemized (Some item.Seq) d items = option_map in_sequence items
itemized (Some item.Mix) d (Some items) = mixed items
itemized _ d items = None

abbrev mutual
  pub item_meant : List (List ℕ) → Object → Option Slotted
  item_meant names (Cons k d) = itemized (item_of names k) d (items_meant names d)
  item_meant names _ = None

  -- of a proper list
  pub items_meant : List (List ℕ) → Object → Option (List Slotted)
  items_meant names (Symbol zero) = Some []
  items_meant names (Cons x d) = both (λ i is. i ∷ is) (item_meant names x) (items_meant names d)
  items_meant names _ = None

-- ---- bindings
-- a variable's slots, in their order, are its indices
abbrev pub places_of : ℕ → List ℕ → List ℕ
places_of v slots = filter (λ k. eqb (get_or slots k 0) v) (range_with_len 0 (length slots))

abbrev pub shape_at : Bool → List ℕ → ShapeSeen
shape_at true is = Boolean (get_or is 0 0)
shape_at false is = Integer is

abbrev pub placed : Slotted → List (ℕ × ShapeSeen)
placed s = map (λ v. (v.0, shape_at v.1 (places_of v.0 s.slots))) s.variables
