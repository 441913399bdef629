-- Worked texts, whose readings the checker computes.
use Rattle.std.proofs.Common.{◌≡◌, refl, subst, List, [], ◌∷◌, ◌++◌, ℕ, suc, length, arith, replicate, pos}
use Rattle.std.specs.Prelude.{codes}
use Rattle.gl_logic.specs.Object.{Object, Int, Character, Symbol, Text, Cons, nil}
use Rattle.gl_logic.specs.Names.{first_names}
use Rattle.sexp_reader.specs.declared.list.Form.{Form}
use Rattle.sexp_reader.specs.declared.ends.End.{End}
use Rattle.sexp_reader.specs.declared.ends.End.TheVariants.{Clean, Bad}
use Rattle.sexp_reader.specs.declared.ends.ReadCode.TheVariants.{EndInside, StrayClose, BadDot, BadByte, NumberForm, TooDeep}
use Rattle.sexp_reader.specs.Reads.{Reads, ReadsFrom, start}
use Rattle.sexp_reader.specs.Gathers.{Gathers}
use Rattle.sexp_reader.proofs.Exact.{Reading, both, reading, sound_all}
use Rattle.sexp_reader.proofs.Tabled.{table_from, from_gathers}

-- NIL is 0, T is 1, the marks are 2 and 3, A is 4, QUOTE is 5, B is 6, :K is 7, the text q"r is 8
abbrev names : List (List ℕ)
names = first_names ++ codes "A" ∷ codes "QUOTE" ∷ codes "B" ∷ codes ":K" ∷ codes "q\"r" ∷ []

read : (bytes : List ℕ) (forms : List Form) (end : End) → reading names (suc (length bytes)) (start bytes) ≡ both names forms end → Reads names bytes forms end
read bytes forms end e = subst (λ (r : Reading names). ReadsFrom names (start bytes) r.forms r.end) e (sound_all names (suc (length bytes)) (start bytes) (omega arith))

abbrev at : ℕ → ℕ → Object → Form
at line column object = record { tree = object; line = line; column = column }

abbrev a : Object
a = Symbol 4

abbrev b : Object
b = Symbol 6

abbrev two : Object → Object → Object
two x y = Cons x (Cons y nil)

nothing : Reads names (codes " \n;x\n#|y|#") [] Clean
nothing = read _ _ _ refl

empty : Reads names (codes "()") (at 1 1 nil ∷ []) Clean
empty = read _ _ _ refl

pairs : Reads names (codes "(a . b)(a . (b))") (at 1 1 (Cons a b) ∷ at 1 8 (two a b) ∷ []) Clean
pairs = read _ _ _ refl

atoms : Reads names (codes "'(a . (#\\Space \"q\\\"r\" :k -0))") (at 1 1 (two (Symbol 5) (Cons a (Cons (Character 32) (Cons (Text 8) (Cons (Symbol 7) (Cons (Int (pos 0)) nil)))))) ∷ []) Clean
atoms = read _ _ _ refl

marks : Reads names (codes "`(a ,b)") (at 1 1 (two (Symbol 2) (two a (two (Symbol 3) b))) ∷ []) Clean
marks = read _ _ _ refl

cut : Reads names (codes "a\n(b\n") (at 1 1 a ∷ []) (Bad 3 1 EndInside)
cut = read _ _ _ refl

stray : Reads names (codes "a ' ) b") (at 1 1 a ∷ []) (Bad 1 5 StrayClose)
stray = read _ _ _ refl

dot_first : Reads names (codes "(. a)") [] (Bad 1 2 BadDot)
dot_first = read _ _ _ refl

dot_last : Reads names (codes "(a . )") [] (Bad 1 6 BadDot)
dot_last = read _ _ _ refl

one_more : Reads names (codes "(a . b 'a)") [] (Bad 1 8 BadDot)
one_more = read _ _ _ refl

later_fault : Reads names (codes "(a . b a:b)") [] (Bad 1 8 BadDot)
later_fault = read _ _ _ refl

own_fault : Reads names (codes "(a . b 1/2)") [] (Bad 1 8 NumberForm)
own_fault = read _ _ _ refl

bare_end : Reads names (codes "(a . b #") [] (Bad 1 9 EndInside)
bare_end = read _ _ _ refl

comma_at : Reads names (codes "(a . b ,@a)") [] (Bad 1 8 BadDot)
comma_at = read _ _ _ refl

comma_at_first : Reads names (codes "(,@a)") [] (Bad 1 3 BadByte)
comma_at_first = read _ _ _ refl

too_deep : Reads names (replicate 1001 39) [] (Bad 1 1001 TooDeep)
too_deep = read _ _ _ refl

-- ---- tables: what so many pieces gather
gathered : (n : ℕ) (bytes : List ℕ) (later : List (List ℕ)) → table_from n bytes first_names ≡ later → Gathers bytes first_names later
gathered n bytes later e = subst (Gathers bytes first_names) e (from_gathers n bytes first_names)

-- each text once, in its order
twice_one : Gathers (codes "(b a b)") first_names (first_names ++ codes "B" ∷ codes "A" ∷ [])
twice_one = gathered 7 _ _ refl

-- NIL and T are there, a number has no text, and a quote has one
there_before : Gathers (codes "(nil 7 't \"x\")") first_names (first_names ++ codes "QUOTE" ∷ codes "x" ∷ [])
there_before = gathered 11 _ _ refl

-- up to the parenthesis that is one too many
cut_off : Gathers (codes "a (b)) c") first_names (first_names ++ codes "A" ∷ codes "B" ∷ [])
cut_off = gathered 5 _ _ refl
