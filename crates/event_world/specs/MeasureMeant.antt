-- The measures that a definition may state.
use Rattle.std.specs.Prelude.{ℕ, Bool, not, ◌&&◌, eqb, if◌then◌else◌, List, codes, Option, Some, None, pos}
use Rattle.std.specs.List.{list_any}
use Rattle.std.specs.Option.{option_map, option_and_then, option_or}
use Rattle.gl_logic.specs.Object.{Object, Int, Symbol}
use Rattle.gl_logic.specs.ObjectEq.{object_eq}
use Rattle.gl_logic.specs.Definition.{natural_measure}
use Rattle.gl_logic.specs.declared.def.Natural.{Natural}
use Rattle.gl_logic.specs.declared.def.Natural.TheVariants as natural
use Rattle.gl_logic.specs.declared.def.Measure.{Measure}
use Rattle.gl_logic.specs.declared.def.Measure.TheVariants as measure
use Rattle.gl_logic.specs.Wording.{spells, both}
use Rattle.event_world.specs.PartsOf.{two_in, three_in, four_in}

-- one of the formals
abbrev pub is_formal : List Object → Object → Bool
is_formal formals x = list_any (object_eq x) formals

-- ---- natural measures
-- (acl2-count v), (len v) or (nfix v)
abbrev pub of_formal : List (List ℕ) → Object → ℕ → Option Natural
of_formal names k v =
    if spells names (codes "ACL2-COUNT") k then Some (natural.Count (record { number = v }))
    else if spells names (codes "LEN") k then Some (natural.Len (record { number = v }))
    else if spells names (codes "NFIX") k then Some (natural.Nat (record { number = v }))
    else None

-- (nfix (- b a)), with a and b different formals
abbrev pub gap_of : List Object → Object → Object → Option Natural
gap_of formals (Symbol b) (Symbol a) =
    if (is_formal formals (Symbol a) && is_formal formals (Symbol b)) && not (eqb a b)
    then Some (natural.Gap (record { number = a }) (record { number = b }))
    else None
gap_of formals b a = None

abbrev pub of_gap : List (List ℕ) → List Object → Object → Option (Object × Object × Object) → Option Natural
of_gap names formals k (Some p) = if spells names (codes "NFIX") k && spells names (codes "-") p.0 then gap_of formals p.1 p.2 else None
of_gap names formals k None = None

abbrev pub of_part : List (List ℕ) → List Object → Object → Object → Option Natural
of_part names formals k (Symbol v) = if is_formal formals (Symbol v) then of_formal names k v else None
of_part names formals k x = of_gap names formals k (three_in x)

abbrev pub natural_meant : List (List ℕ) → List Object → Object → Option Natural
natural_meant names formals x = option_and_then (λ p. of_part names formals p.0 p.1) (two_in x)

-- ---- two of them
abbrev pub is_one : Object → Bool
is_one x = object_eq x (Int (pos 1))

-- (+ 1 m)
abbrev pub one_more_of : List (List ℕ) → List Object → Option (Object × Object × Object) → Option Natural
one_more_of names formals (Some p) = if spells names (codes "+") p.0 && is_one p.1 then natural_meant names formals p.2 else None
one_more_of names formals None = None

-- (make-ord 1 (+ 1 m1) m2)
abbrev pub ordinal_of : List (List ℕ) → List Object → Option (Object × Object × Object × Object) → Option Measure
ordinal_of names formals (Some p) =
    if spells names (codes "MAKE-ORD") p.0 && is_one p.1
    then both measure.Lex (one_more_of names formals (three_in p.2)) (natural_meant names formals p.3)
    else None
ordinal_of names formals None = None

-- a natural measure, or two of which the first decides
abbrev pub measure_meant : List (List ℕ) → List Object → Object → Option Measure
measure_meant names formals x = option_or (option_map natural_measure (natural_meant names formals x)) (ordinal_of names formals (four_in x))
