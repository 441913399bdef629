-- What a form among the ground definitions means, by computation on its words.
use Rattle.std.specs.Prelude.{ℕ, suc, ◌+◌, Bool, ◌||◌, ◌==◌, if◌then◌else◌, List, [], ◌∷◌, length, codes, bytes_eq, Option, Some, None, slice_get, pos}
use Rattle.std.specs.Option.{option_map}
use Rattle.gl_logic.specs.Object.{Int, nil, true_object}
use Rattle.gl_logic.specs.Exp.{Exp, Exps, Var, Const, If, Prim, Call, Last, More}
use Rattle.gl_logic.specs.TermOf.{exps_of}
use Rattle.gl_logic.specs.PrimValue.{prim_arity}
use Rattle.gl_logic.specs.declared.prim.Primitive.{Primitive}
use Rattle.gl_logic.specs.declared.prim.Primitive.TheVariants as prim
use Rattle.gl_translate.specs.declared.macros.Macro.{Macro}
use Rattle.gl_translate.specs.declared.macros.Macro.TheVariants as macro
use Rattle.gl_logic.specs.Wording.{first_byte}
use Rattle.gl_translate.specs.Words.{prim_named, is_path}
use Rattle.gl_translate.specs.Heads.{macro_named}
use Rattle.event_world.specs.PreludeForms.{Source, Word, Number, Pair}

-- a formal stands as its place; None where the form is none of this table
abbrev pub one : Exp → Exps
one a = More a Last

abbrev pub two : Exp → Exp → Exps
two a b = More a (More b Last)

abbrev pub place : List ℕ → List (List ℕ) → Option ℕ
place w [] = None
place w (v ∷ vs) = if bytes_eq w v then Some 0 else option_map suc (place w vs)

abbrev pub word_meant : List (List ℕ) → List ℕ → Option Exp
word_meant formals w = if bytes_eq w (codes "NIL") then Some (Const nil) else (if bytes_eq w (codes "T") then Some (Const true_object) else (if first_byte w == 58 then None else option_map Var (place w formals)))

abbrev pub if_meant : List Exp → Option Exp
if_meant (a ∷ b ∷ c ∷ []) = Some (If a b c)
if_meant _ = None

abbrev pub macro_meant : Macro → List Exp → Option Exp
macro_meant macro.And (a ∷ b ∷ []) = Some (If a b (Const nil))
macro_meant macro.Plus (a ∷ b ∷ []) = Some (Prim prim.BinaryPlus (two a b))
macro_meant macro.Minus (a ∷ []) = Some (Prim prim.UnaryMinus (one a))
macro_meant macro.Minus (a ∷ b ∷ []) = Some (Prim prim.BinaryPlus (two a (Prim prim.UnaryMinus (one b))))
macro_meant macro.AtMost (a ∷ b ∷ []) = Some (Prim prim.Not (one (Prim prim.Less (two b a))))
macro_meant _ _ = None

-- functions by their names and counts of formals
abbrev pub Function : Type 0
Function = List ℕ × ℕ

abbrev pub word_place : List ℕ → List Function → Option ℕ
word_place w [] = None
word_place w (g ∷ gs) = if bytes_eq w g.0 then Some 0 else option_map suc (word_place w gs)

abbrev pub count_of : List Function → ℕ → Option ℕ
count_of gs f = option_map (λ g. g.1) (slice_get gs f)

abbrev pub counted_meant : ℕ → List Exp → Option ℕ → Option Exp
counted_meant f es (Some n) = if length es == n then Some (Call f (exps_of es)) else None
counted_meant f es None = None

abbrev pub placed_meant : List Function → List Exp → Option ℕ → Option Exp
placed_meant gs es (Some f) = counted_meant f es (count_of gs f)
placed_meant gs es None = None

abbrev pub prim_meant : List Function → List ℕ → List Exp → Option Primitive → Option Exp
prim_meant gs w es (Some p) = if length es == prim_arity p then Some (Prim p (exps_of es)) else None
prim_meant gs w es None = placed_meant gs es (word_place w gs)

abbrev pub function_meant : List Function → List ℕ → List Exp → Option Macro → Option Exp
function_meant gs w es (Some m) = macro_meant m es
function_meant gs w es None = if is_path w then None else prim_meant gs w es (prim_named w)

abbrev pub headed_meant : List Function → List ℕ → List Exp → Option Exp
headed_meant gs w es = if bytes_eq w (codes "IF") then if_meant es else (if bytes_eq w (codes "QUOTE") then None else function_meant gs w es (macro_named w))

abbrev pub is_mark_word : List ℕ → Bool
is_mark_word w = bytes_eq w (96 ∷ []) || bytes_eq w (44 ∷ [])

abbrev pub and_meant : {A B : Type 0} → Option A → (A → Option B) → Option B
and_meant None f = None
and_meant (Some a) f = f a

abbrev mutual
  pub form_meant : List (List ℕ) → List Function → Source → Option Exp
  form_meant formals gs (Word w) = word_meant formals w
  form_meant formals gs (Number n) = Some (Const (Int (pos n)))
  form_meant formals gs (Pair (Word w) r) = if is_mark_word w then None else and_meant (forms_meant formals gs r) (headed_meant gs w)
  form_meant formals gs (Pair _ r) = None

  pub forms_meant : List (List ℕ) → List Function → Source → Option (List Exp)
  forms_meant formals gs (Word w) = if bytes_eq w (codes "NIL") then Some [] else None
  forms_meant formals gs (Number n) = None
  forms_meant formals gs (Pair a d) = and_meant (form_meant formals gs a) (λ e. and_meant (forms_meant formals gs d) (λ es. Some (e ∷ es)))

-- as many places as a term's depth at least
abbrev pub size : Source → ℕ
size (Word w) = 1
size (Number n) = 1
size (Pair a d) = size a + size d + 3
