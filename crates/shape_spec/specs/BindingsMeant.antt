-- The bindings that a form means, or none.
use Rattle.std.specs.Prelude.{ℕ, Bool, true, false, not, ◌&&◌, ◌==◌, ltb, leb, eqb, if◌then◌else◌, List, [], ◌∷◌, length, codes, Option, Some, None}
use Rattle.std.specs.List.{list_any, list_all}
use Rattle.std.specs.Option.{option_map, option_and_then}
use Rattle.gl_logic.specs.Object.{Object, Symbol, Cons}
use Rattle.gl_logic.specs.NameSets.{are_different}
use Rattle.shape_spec.specs.ShapeSeen.{ShapeSeen, Boolean, Integer, Choice, Constant, Pair}
use Rattle.shape_spec.specs.Indices.{variables_of, shapes_of, indices_of, width_of}
use Rattle.gl_logic.specs.Wording.{is_legal, spells, elements, all_meant}
use Rattle.shape_spec.specs.ShapeMeant.{shape_meant}
use Rattle.shape_spec.specs.ItemsMeant.{Slotted, items_meant, in_sequence, placed}

-- ---- lists of variables with shapes
-- (variable shape)
abbrev pub entry_of : List (List ℕ) → Bool → Option (List Object) → Option (ℕ × ShapeSeen)
entry_of names quasi (Some (Symbol v ∷ x ∷ [])) = option_map (λ s. (v, s)) (shape_meant names quasi x)
entry_of names quasi _ = None

abbrev pub entry_meant : List (List ℕ) → Bool → Object → Option (ℕ × ShapeSeen)
entry_meant names quasi x = entry_of names quasi (elements x)

-- what stands behind the quote or the backquote: a list of one list
abbrev pub quoted : List (List ℕ) → Bool → Option (List Object) → Option (List (ℕ × ShapeSeen))
quoted names quasi (Some (x ∷ [])) = option_and_then (all_meant (entry_meant names quasi)) (elements x)
quoted names quasi _ = None

-- each slot becomes an index, so there are at most 1,024 of them
abbrev pub bound : Slotted → Option (List (ℕ × ShapeSeen))
bound s = if leb (length s.slots) 1024 then Some (placed s) else None

-- the mark of backquote
abbrev pub is_backquote : Object → Bool
is_backquote (Symbol t) = t == 2
is_backquote _ = false

-- '(..), `(..) or (auto-bindings item ..)
abbrev pub listed : List (List ℕ) → Object → Option (List (ℕ × ShapeSeen))
listed names (Cons k d) =
    if is_backquote k then quoted names true (elements d)
    else if spells names (codes "QUOTE") k then quoted names false (elements d)
    else if spells names (codes "AUTO-BINDINGS") k then option_and_then (λ is. bound (in_sequence is)) (items_meant names d)
    else None
listed names _ = None

-- ---- the conditions on them all
-- each integer has 1 to 128 indices
abbrev pub is_shape : ShapeSeen → Bool
is_shape (Boolean i) = true
is_shape (Integer is) = leb 1 (length is) && leb (length is) 128
is_shape (Choice i x y) = is_shape x && is_shape y
is_shape (Constant x) = true
is_shape (Pair x y) = is_shape x && is_shape y

abbrev pub are_below : List ℕ → Bool
are_below is = list_all (λ i. ltb i 1000000) is

-- legal variables, none of them bound twice; indices below 1,000,000, none of them twice, and at most 1,024
abbrev pub are_bindings : List (List ℕ) → List (ℕ × ShapeSeen) → Bool
are_bindings names b =
    (list_all (is_legal names) (variables_of b) && are_different (variables_of b))
    && (list_all is_shape (shapes_of b) && (are_below (indices_of b) && (are_different (indices_of b) && leb (width_of b) 1024)))

abbrev pub checked : List (List ℕ) → Option (List (ℕ × ShapeSeen)) → Option (List (ℕ × ShapeSeen))
checked names None = None
checked names (Some b) = if are_bindings names b then Some b else None

abbrev pub bindings_meant : List (List ℕ) → Object → Option (List (ℕ × ShapeSeen))
bindings_meant names form = checked names (listed names form)
