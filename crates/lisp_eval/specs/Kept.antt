-- Calls that are looked up and kept, by ids.
use Rattle.std.specs.Prelude.{◌≡◌, ℕ, List, [], ◌∷◌, ◌++◌, true, false, Option, None, Some, map, ◌⊎◌}
use Rattle.gl_logic.specs.Object.{Object}
use Rattle.gl_logic.specs.Walk.{CallMade}
use Rattle.gl_logic.specs.Counts.{is_among}
use Rattle.hons_arena.specs.declared.id.Id.{Id}
use Rattle.hons_arena.specs.Ids.{object_at}
use Rattle.memo_tables.specs.Calls.{Call, IsKept, IsKeptAs}
use Rattle.lisp_eval.specs.declared.calls.Known.{Known}
use Rattle.lisp_eval.specs.declared.calls.Known.TheVariants as known
use Rattle.lisp_eval.specs.declared.frame.Frame.{Frame}
use Rattle.lisp_eval.specs.declared.frame.Frame.TheVariants as frame
use Rattle.lisp_eval.specs.Frames as spec
use Rattle.lisp_eval.specs.States.{values_of, keep_of}

-- what is found of a call: the value that it is kept with, or that it is to be opened, and then to be kept where its
-- function is memoized
abbrev pub IsKnown : List ℕ → List (Call × Id) → Call → Known → Type 0
IsKnown functions entries c (known.Value v) = (is_among functions c.function ≡ true) × IsKeptAs entries c v
IsKnown functions entries c (known.Opens None) = is_among functions c.function ≡ false
IsKnown functions entries c (known.Opens (Some k)) = (is_among functions c.function ≡ true) × ((k ≡ c) × (¬ IsKept entries c))

abbrev pub kept_frame : List Object → Option Call → List spec.Frame
kept_frame objects None = []
kept_frame objects (Some c) = keep_of objects c ∷ []

-- the calls that are kept once a frame has its value: the frame's own call too, if it has one
abbrev pub KeepsCall : Frame → Id → List (Call × Id) → List (Call × Id) → Type 0
KeepsCall (frame.Keep c) value old new = (new ≡ old ++ (c, value) ∷ []) ⊎ (IsKept old c × (new ≡ old))
KeepsCall (frame.Branch a b env) value old new = new ≡ old
KeepsCall (frame.Arguments w done ts env) value old new = new ≡ old

-- a kept call and its value
abbrev pub entry_of : List Object → Call × Id → CallMade × Object
entry_of objects e = ((e.0.function, values_of objects e.0.arguments), object_at objects e.1)

abbrev pub entries_of : List Object → List (Call × Id) → List (CallMade × Object)
entries_of objects entries = map (entry_of objects) entries
