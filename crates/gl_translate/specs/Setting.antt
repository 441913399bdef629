-- What a form's names mean.
use Rattle.std.specs.Prelude.{ℕ, Bool, ◌||◌, nat_lt, List, [], bytes_eq}
use Rattle.std.specs.List.{position_or_len}
use Rattle.gl_logic.specs.Object.{Object}
use Rattle.gl_logic.specs.Wording.{is_keyword}

-- the texts of symbols by number, the constants, the world's definitions and those being made, each with its name and its count of formals, and whether every legal variable is in scope
pub record Setting : Type 0 where
  pub names : List (List ℕ)
  pub constants : List (ℕ × Object)
  pub functions : List (ℕ × ℕ)
  pub own : List (ℕ × ℕ)
  pub every : Bool

-- NIL, T and keywords
abbrev pub stands_for_itself : Setting → ℕ → Bool
stands_for_itself s t = nat_lt t 2 || is_keyword s.names t

-- the symbol of the empty name, which no token spells
abbrev pub unnamed : Setting → ℕ
unnamed s = position_or_len (bytes_eq []) s.names
