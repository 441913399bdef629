-- The shape that an object means.
use Rattle.std.specs.Prelude.{ℕ, zero, suc, ◌+◌, Bool, ◌&&◌, leb, if◌then◌else◌, List, [], ◌∷◌, codes, Option, Some, None, pos}
use Rattle.std.specs.Option.{option_map, option_and_then}
use Rattle.gl_logic.specs.Object.{Object, Int, Symbol, Cons}
use Rattle.shape_spec.specs.ShapeSeen.{ShapeSeen, Boolean, Integer, Choice, Constant, Pair}
use Rattle.gl_logic.specs.Wording.{is_mark, has_mark, elements, both, all_meant, spells}
use Rattle.shape_spec.specs.Heads.{head_of, is_plain, is_boolean}
use Rattle.shape_spec.specs.declared.words.Head.{Head}
use Rattle.shape_spec.specs.declared.words.Head.TheVariants as head

-- a natural number
abbrev pub index_meant : Object → Option ℕ
index_meant (Int (pos i)) = Some i
index_meant _ = None

abbrev pub indices_meant : Object → Option (List ℕ)
indices_meant x = option_and_then (all_meant index_meant) (elements x)

-- so many numbers from the first on, each one step further
abbrev pub stepped : ℕ → ℕ → ℕ → List ℕ
stepped start step zero = []
stepped start step (suc n) = start ∷ stepped (start + step) step n

-- (g-int start by n) with by >= 1 and n from 1 to 128
abbrev pub progression : Option ℕ → Option ℕ → Option ℕ → Option ShapeSeen
progression (Some start) (Some step) (Some n) = if leb 1 step && (leb 1 n && leb n 128) then Some (Integer (stepped start step n)) else None
progression _ _ _ = None

abbrev pub boolean_call : List (List ℕ) → Object → Object → Option ShapeSeen
boolean_call names f i = if spells names (codes "G-BOOLEAN") f then option_map Boolean (index_meant i) else None

abbrev pub integer_call : List (List ℕ) → Object → Object → Object → Object → Option ShapeSeen
integer_call names f start step n = if spells names (codes "G-INT") f then progression (index_meant start) (index_meant step) (index_meant n) else None

-- a call behind a comma, by its elements
abbrev pub call_of : List (List ℕ) → List Object → Option ShapeSeen
call_of names (f ∷ i ∷ []) = boolean_call names f i
call_of names (f ∷ start ∷ step ∷ n ∷ []) = integer_call names f start step n
call_of names _ = None

-- what stands behind the mark of comma: a list of the call alone
abbrev pub comma_of : List (List ℕ) → Option (List Object) → Option ShapeSeen
comma_of names (Some (call ∷ [])) = option_and_then (call_of names) (elements call)
comma_of names _ = None

-- (:g-boolean . i), the test of a choice
abbrev pub test_meant : List (List ℕ) → Object → Option ℕ
test_meant names (Cons k i) = if is_boolean (head_of names k) then index_meant i else None
test_meant names _ = None

abbrev pub choice_of : Option ℕ → Option ShapeSeen → Option ShapeSeen → Option ShapeSeen
choice_of (Some i) (Some x) (Some y) = Some (Choice i x y)
choice_of _ _ _ = None

-- a cons whose head is no plain object, by what stands behind the head, and by what that means as the rest of a choice
abbrev pub headed : List (List ℕ) → Bool → Head → Object → Option ShapeSeen → Option ShapeSeen
headed names quasi head.Boolean d choice = option_map Boolean (index_meant d)
headed names quasi head.Integer d choice = option_map Integer (indices_meant d)
headed names quasi head.Choice d choice = choice
headed names quasi head.Concrete d choice = if has_mark d then None else Some (Constant d)
headed names quasi head.Comma d choice = if quasi then comma_of names (elements d) else None
headed names quasi _ d choice = None

-- an atom but a mark stands for itself
abbrev pub atom_meant : Object → Option ShapeSeen
atom_meant (Symbol t) = if is_mark t then None else Some (Constant (Symbol t))
atom_meant x = Some (Constant x)

-- `quasi` says whether the shape stands in a backquote, where a comma may stand
abbrev mutual
  pub shape_meant : List (List ℕ) → Bool → Object → Option ShapeSeen
  shape_meant names quasi (Cons a d) =
      if is_plain (head_of names a) then both Pair (shape_meant names quasi a) (shape_meant names quasi d)
      else headed names quasi (head_of names a) d (choice_meant names quasi d)
  shape_meant names quasi x = atom_meant x

  -- ((:g-boolean . i) x . y), behind :g-ite
  pub choice_meant : List (List ℕ) → Bool → Object → Option ShapeSeen
  choice_meant names quasi (Cons t xy) = branches_meant names quasi (test_meant names t) xy
  choice_meant names quasi _ = None

  pub branches_meant : List (List ℕ) → Bool → Option ℕ → Object → Option ShapeSeen
  branches_meant names quasi test (Cons x y) = choice_of test (shape_meant names quasi x) (shape_meant names quasi y)
  branches_meant names quasi test _ = None
