-- The names that events give, and the words and names that are taken.
use Rattle.std.specs.Prelude.{ℕ, Bool, ◌&&◌, ◌||◌, leb, if◌then◌else◌, List, length, codes, bytes_eq, Option, Some, None}
use Rattle.std.specs.Option.{is_some}
use Rattle.gl_logic.specs.Object.{Object, Symbol}
use Rattle.gl_logic.specs.Named.{place_of, names_of}
use Rattle.gl_logic.specs.WorldSeen.{WorldSeen, definition_names}
use Rattle.gl_translate.specs.Words.{prim_named, is_path}
use Rattle.gl_translate.specs.Macros.{special_named}
use Rattle.gl_logic.specs.Wording.{text_of, is_legal, is_starred}

-- a variable, a definition and a theorem are named by a symbol that is no keyword, not T or NIL, and does not both begin and end with `*`
abbrev pub plain_name : List (List ℕ) → Object → Option ℕ
plain_name names (Symbol t) = if is_legal names t then Some t else None
plain_name names _ = None

-- a constant by one that does, of three bytes or more
abbrev pub is_constant_name : List ℕ → Bool
is_constant_name text = is_starred text && leb 3 (length text)

abbrev pub constant_name : List (List ℕ) → Object → Option ℕ
constant_name names (Symbol t) = if is_constant_name (text_of names t) then Some t else None
constant_name names _ = None

-- ---- what is taken
-- a primitive, `if`, `quote` or a macro
abbrev pub is_word : List ℕ → Bool
is_word text = is_some (special_named text) || (is_path text || is_some (prim_named text))

-- a ground definition, or an earlier named event
abbrev pub is_used : WorldSeen → ℕ → Bool
is_used w t = is_some (place_of (definition_names w.definitions) t) || (is_some (place_of (names_of w.constants) t) || is_some (place_of (names_of w.events) t))

abbrev pub is_taken : List (List ℕ) → WorldSeen → ℕ → Bool
is_taken names w t = is_word (text_of names t) || is_used w t
