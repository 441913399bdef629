-- Heads of forms as the program looks at them: `if`, `quote`, a macro by its code, then the others; primitives by their codes.
use Rattle.std.specs.Prelude.{ℕ, if◌then◌else◌, List, [], ◌∷◌, codes, bytes_eq, Option, Some, None, pos, negsuc}
use Rattle.std.specs.List.{find}
use Rattle.gl_logic.specs.Object.{Int, nil}
use Rattle.gl_logic.specs.declared.prim.Primitive.{Primitive}
use Rattle.gl_logic.specs.declared.prim.Primitive.TheVariants as prim
use Rattle.gl_translate.specs.declared.fault.TermFault.TheVariants as term_fault
use Rattle.gl_translate.specs.declared.macros.Macro.{Macro}
use Rattle.gl_translate.specs.declared.macros.Macro.TheVariants as macro
use Rattle.gl_logic.specs.Wording.{text_of}
use Rattle.gl_translate.specs.Setting.{Setting}
use Rattle.gl_translate.specs.Meaning.{Meaning, fault, literal}
use Rattle.gl_translate.specs.Parts.{Part, all_means}
use Rattle.gl_translate.specs.Macros.{SpecialForm, number, prim1, prim2, of_one, of_two, and_form, or_form, cond_form, nested_or, sum_form, list_form, minus_form, append_call, path_form, member_form, mbe_form, case_form, let_call, let_star_call, if_call, quote_call}
use Rattle.gl_translate.specs.Translation.{of_function}

-- ---- macros by their codes
abbrev pub macro_word : Macro → List ℕ
macro_word macro.And = codes "AND"
macro_word macro.Or = codes "OR"
macro_word macro.Cond = codes "COND"
macro_word macro.Case = codes "CASE"
macro_word macro.Let = codes "LET"
macro_word macro.LetStar = codes "LET*"
macro_word macro.List = codes "LIST"
macro_word macro.ListStar = codes "LIST*"
macro_word macro.Plus = codes "+"
macro_word macro.Times = codes "*"
macro_word macro.Minus = codes "-"
macro_word macro.OneMore = codes "1+"
macro_word macro.OneLess = codes "1-"
macro_word macro.AtMost = codes "<="
macro_word macro.Above = codes ">"
macro_word macro.AtLeast = codes ">="
macro_word macro.Unequal = codes "/="
macro_word macro.Append = codes "APPEND"
macro_word macro.Logand = codes "LOGAND"
macro_word macro.Logior = codes "LOGIOR"
macro_word macro.Logxor = codes "LOGXOR"
macro_word macro.Member = codes "MEMBER"
macro_word macro.First = codes "FIRST"
macro_word macro.Second = codes "SECOND"
macro_word macro.Third = codes "THIRD"
macro_word macro.Fourth = codes "FOURTH"
macro_word macro.Fifth = codes "FIFTH"
macro_word macro.Rest = codes "REST"
macro_word macro.The = codes "THE"
macro_word macro.Mbe = codes "MBE"

abbrev pub all_macros : List Macro
all_macros =
    macro.And ∷ macro.Or ∷ macro.Cond ∷ macro.Case ∷ macro.Let ∷ macro.LetStar
    ∷ macro.List ∷ macro.ListStar ∷ macro.Plus ∷ macro.Times ∷ macro.Minus ∷ macro.OneMore
    ∷ macro.OneLess ∷ macro.AtMost ∷ macro.Above ∷ macro.AtLeast ∷ macro.Unequal ∷ macro.Append
    ∷ macro.Logand ∷ macro.Logior ∷ macro.Logxor ∷ macro.Member ∷ macro.First ∷ macro.Second
    ∷ macro.Third ∷ macro.Fourth ∷ macro.Fifth ∷ macro.Rest ∷ macro.The ∷ macro.Mbe ∷ []

-- the first that has this word
abbrev pub macro_named : List ℕ → Option Macro
macro_named word = find (λ m. bytes_eq word (macro_word m)) all_macros

abbrev pub macro_form : Setting → Macro → List Part → Meaning
macro_form s macro.And ps = and_form (all_means ps)
macro_form s macro.Or ps = or_form (all_means ps)
macro_form s macro.Cond ps = cond_form ps
macro_form s macro.Case ps = case_form s ps
macro_form s macro.Let ps = let_call s ps
macro_form s macro.LetStar ps = let_star_call s ps
macro_form s macro.List ps = list_form (all_means ps)
macro_form s macro.ListStar ps = nested_or (fault term_fault.WrongCount) (prim2 prim.Cons) (all_means ps)
macro_form s macro.Plus ps = sum_form prim.BinaryPlus (pos 0) (all_means ps)
macro_form s macro.Times ps = sum_form prim.BinaryTimes (pos 1) (all_means ps)
macro_form s macro.Minus ps = minus_form (all_means ps)
macro_form s macro.OneMore ps = of_one (λ a. prim2 prim.BinaryPlus (number 1) a) (all_means ps)
macro_form s macro.OneLess ps = of_one (λ a. prim2 prim.BinaryPlus a (prim1 prim.UnaryMinus (number 1))) (all_means ps)
macro_form s macro.AtMost ps = of_two (λ a b. prim1 prim.Not (prim2 prim.Less b a)) (all_means ps)
macro_form s macro.Above ps = of_two (λ a b. prim2 prim.Less b a) (all_means ps)
macro_form s macro.AtLeast ps = of_two (λ a b. prim1 prim.Not (prim2 prim.Less a b)) (all_means ps)
macro_form s macro.Unequal ps = of_two (λ a b. prim1 prim.Not (prim2 prim.Equal a b)) (all_means ps)
macro_form s macro.Append ps = nested_or (literal nil) (append_call s) (all_means ps)
macro_form s macro.Logand ps = nested_or (literal (Int (negsuc 0))) (prim2 prim.BinaryLogand) (all_means ps)
macro_form s macro.Logior ps = nested_or (number 0) (prim2 prim.BinaryLogior) (all_means ps)
macro_form s macro.Logxor ps = nested_or (number 0) (prim2 prim.BinaryLogxor) (all_means ps)
macro_form s macro.Member ps = member_form s ps
macro_form s macro.First ps = of_one (path_form (codes "A")) (all_means ps)
macro_form s macro.Second ps = of_one (path_form (codes "AD")) (all_means ps)
macro_form s macro.Third ps = of_one (path_form (codes "ADD")) (all_means ps)
macro_form s macro.Fourth ps = of_one (path_form (codes "ADDD")) (all_means ps)
macro_form s macro.Fifth ps = of_one (path_form (codes "ADDDD")) (all_means ps)
macro_form s macro.Rest ps = of_one (path_form (codes "D")) (all_means ps)
macro_form s macro.The ps = of_two (λ type a. a) (all_means ps)
macro_form s macro.Mbe ps = mbe_form s ps

-- ---- primitives
abbrev pub prim_word : Primitive → List ℕ
prim_word prim.Consp = codes "CONSP"
prim_word prim.Integerp = codes "INTEGERP"
prim_word prim.Symbolp = codes "SYMBOLP"
prim_word prim.Stringp = codes "STRINGP"
prim_word prim.Characterp = codes "CHARACTERP"
prim_word prim.Cons = codes "CONS"
prim_word prim.Car = codes "CAR"
prim_word prim.Cdr = codes "CDR"
prim_word prim.Equal = codes "EQUAL"
prim_word prim.Not = codes "NOT"
prim_word prim.CharCode = codes "CHAR-CODE"
prim_word prim.CodeChar = codes "CODE-CHAR"
prim_word prim.BinaryPlus = codes "BINARY-+"
prim_word prim.BinaryTimes = codes "BINARY-*"
prim_word prim.UnaryMinus = codes "UNARY--"
prim_word prim.Less = codes "<"
prim_word prim.Floor = codes "FLOOR"
prim_word prim.Mod = codes "MOD"
prim_word prim.Truncate = codes "TRUNCATE"
prim_word prim.Rem = codes "REM"
prim_word prim.Ash = codes "ASH"
prim_word prim.BinaryLogand = codes "BINARY-LOGAND"
prim_word prim.BinaryLogior = codes "BINARY-LOGIOR"
prim_word prim.BinaryLogxor = codes "BINARY-LOGXOR"
prim_word prim.Lognot = codes "LOGNOT"
prim_word prim.Logbitp = codes "LOGBITP"
prim_word prim.IntegerLength = codes "INTEGER-LENGTH"
prim_word prim.UnsignedByteP = codes "UNSIGNED-BYTE-P"
prim_word prim.SignedByteP = codes "SIGNED-BYTE-P"

-- ---- the table by codes, and a head with its arguments
abbrev pub form_of : Macro → SpecialForm
form_of m s ps = macro_form s m ps

abbrev pub of_macro : Setting → ℕ → List Part → Option Macro → Meaning
of_macro s head ps (Some m) = macro_form s m ps
of_macro s head ps None = of_function s head ps

abbrev pub head_means : Setting → ℕ → List Part → Meaning
head_means s head ps =
    if bytes_eq (text_of s.names head) (codes "IF") then if_call (all_means ps) else
    (if bytes_eq (text_of s.names head) (codes "QUOTE") then quote_call ps else of_macro s head ps (macro_named (text_of s.names head)))
