-- Redundant events.
use Rattle.std.specs.Prelude.{ℕ, Bool, false, ◌&&◌, leb, if◌then◌else◌, List, [], ◌∷◌, length, codes, bytes_eq, Option, Some, None}
use Rattle.std.specs.Option.{option_map, option_and_then}
use Rattle.gl_logic.specs.Object.{Object, Symbol, Cons}
use Rattle.gl_logic.specs.ObjectEq.{object_eq}
use Rattle.gl_logic.specs.Named.{object_named}
use Rattle.gl_logic.specs.WorldSeen.{WorldSeen}
use Rattle.gl_logic.specs.Wording.{spells, elements, all_meant}
use Rattle.gl_logic.specs.NameSets.{are_different}
use Rattle.event_world.specs.EventSeen.{EventSeen, Redundant, RedundantClique}
use Rattle.event_world.specs.EventWords.{behind_head}
use Rattle.event_world.specs.Keywords.{is_one_of}

-- an accepted event of this name has this form
abbrev pub is_same : Object → Option Object → Bool
is_same form (Some other) = object_eq form other
is_same form None = false

abbrev pub repeated : WorldSeen → Object → ℕ → Option ℕ
repeated w form name = if is_same form (object_named w.events name) then Some name else None

-- what stands right behind the head
abbrev pub second_in : Object → Option Object
second_in (Cons head (Cons second rest)) = Some second
second_in _ = None

abbrev pub repeated_symbol : WorldSeen → Object → Object → Option ℕ
repeated_symbol w form (Symbol name) = repeated w form name
repeated_symbol w form _ = None

-- (word name ..) whose form is that of the accepted event of its name: the name
abbrev pub repeated_name : WorldSeen → Object → Option ℕ
repeated_name w form = option_and_then (repeated_symbol w form) (second_in form)

abbrev pub redundant : WorldSeen → Object → Option EventSeen
redundant w form = option_map Redundant (repeated_name w form)

-- ---- a clique: 1 to 16 forms, each a `defun` that is repeated, no two of one name
abbrev pub repeated_member : List (List ℕ) → WorldSeen → Object → Option ℕ
repeated_member names w (Cons k rest) = if spells names (codes "DEFUN") k then repeated_name w (Cons k rest) else None
repeated_member names w _ = None

abbrev pub are_repeated : List ℕ → Bool
are_repeated ns = (leb 1 (length ns) && leb (length ns) 16) && are_different ns

abbrev pub checked_repeated : Option (List ℕ) → Option EventSeen
checked_repeated (Some ns) = if are_repeated ns then Some (RedundantClique ns) else None
checked_repeated None = None

-- by what stands behind `mutual-recursion`, where the form is a proper list
abbrev pub redundant_clique : List (List ℕ) → WorldSeen → Option (List Object) → Option EventSeen
redundant_clique names w parts = checked_repeated (option_and_then (all_meant (repeated_member names w)) parts)

-- ---- named events and cliques alone
-- by its word; an event that makes no name is not redundant
abbrev pub redundant_meant : List (List ℕ) → WorldSeen → List ℕ → Object → Option EventSeen
redundant_meant names w word form =
    if bytes_eq word (codes "MUTUAL-RECURSION") then redundant_clique names w (elements (behind_head form))
    else if is_one_of (codes "DEFUN" ∷ codes "DEFCONST" ∷ codes "DEF-GL-THM" ∷ codes "DEF-GL-PARAM-THM" ∷ []) word then redundant w form
    else None
