-- What is known of an object that is a list.
use Rattle.std.proofs.Common.{◌≡◌, ℕ, ◌<◌, length, length-append, List, [], ◌∷◌, ◌++◌, arith}
use Rattle.gl_logic.specs.Object.{Object, Int, Character, Symbol, Text, Cons}
use Rattle.gl_logic.specs.Lists.{elements_of, tail_of, conses}
use Rattle.gl_logic.specs.Kind.{kind_of}
use Rattle.gl_logic.specs.declared.tree.TreeKind.TheVariants as kind
use Rattle.gl_logic.proofs.Parts.{conses-whole}
use Rattle.sexp_print.specs.Printed.{printed, inside_printed}
use Rattle.sexp_print.proofs.Steps.{printed_list}

pub some_elements : (x : Object) → kind_of x ≡ kind.List → 0 < length (elements_of x)
some_elements (Int z) h = absurd cc
some_elements (Character n) h = absurd cc
some_elements (Symbol n) h = absurd cc
some_elements (Text n) h = absurd cc
some_elements (Cons a d) h = omega (arith, length-append (elements_of d) (a ∷ []))

pub printed_whole : (names : List (List ℕ)) (x : Object) → kind_of x ≡ kind.List → printed names x ≡ 40 ∷ (inside_printed names (conses (elements_of x) (tail_of x)) ++ 41 ∷ [])
printed_whole names (Int z) h = absurd cc
printed_whole names (Character n) h = absurd cc
printed_whole names (Symbol n) h = absurd cc
printed_whole names (Text n) h = absurd cc
printed_whole names (Cons a d) h = rw (conses-whole (Cons a d)) (printed_list names a d)
