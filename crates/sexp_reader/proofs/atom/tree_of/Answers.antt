use Rattle.std.proofs.Common.{◌∙◌, sym, ap, Some, ◌≡◌}
use Rattle.gl_logic.specs.Object.{Symbol, Text}
use Rattle.gl_logic.specs.Names.{number_of}
use Rattle.sexp_reader.specs.Grammar.{object_of}
use Rattle.sexp_reader.proofs.Tables.{place_later}
use Rattle.sexp_reader.proofs.atom.tree_of.Goals as goal

pub returns-in_ok-id_of-in-Symbol-clause-tree : goal.returns-in_ok-id_of-in-Symbol-clause-tree
returns-in_ok-id_of-in-Symbol-clause-tree c later x =
    let n : number_of c.in-Symbol.text c.id_of.new.self ≡ Some c.in_ok-id_of-in-Symbol.field-0.number = ap (λ t. number_of t c.id_of.new.self) (sym c.as_slice.ensures) ∙ c.in_ok-id_of-in-Symbol.ensures.number in
    c.symbol.ensures ∙ (ap Symbol (place_later c.in-Symbol.text c.id_of.new.self later c.in_ok-id_of-in-Symbol.field-0.number n x) ∙ ap (object_of later) (sym c.in-Symbol.is))

pub returns-in_ok-id_of-in-String-clause-tree : goal.returns-in_ok-id_of-in-String-clause-tree
returns-in_ok-id_of-in-String-clause-tree c later x =
    let n : number_of c.in-String.text c.id_of-in-String.new.self ≡ Some c.in_ok-id_of-in-String.field-0.number = ap (λ t. number_of t c.id_of-in-String.new.self) (sym c.as_slice-in-String.ensures) ∙ c.in_ok-id_of-in-String.ensures.number in
    c.string.ensures ∙ (ap Text (place_later c.in-String.text c.id_of-in-String.new.self later c.in_ok-id_of-in-String.field-0.number n x) ∙ ap (object_of later) (sym c.in-String.is))
