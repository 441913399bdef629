-- Terms and lists of terms, as the code keeps them.
use Rattle.std.proofs.Common.{List, map, Vec, Global, Bor}
use Rattle.gl_logic.specs.Exp.{Exp}
use Rattle.gl_logic.specs.TermOf.{term_of}
use Rattle.gl_logic.specs.declared.term.Term.{Term}

abbrev pub terms_in : List (Bor Term) → List Exp
terms_in ts = map (λ t. term_of t.now) ts

abbrev pub parts_in : List (Vec (Bor Term) Global) → List (List Exp)
parts_in lists = map (λ l. terms_in l.items) lists

abbrev pub lists_in : Vec (Vec (Bor Term) Global) Global → List (List Exp)
lists_in lists = parts_in lists.items
