-- The forms that a text is read as.
use Rattle.std.specs.Prelude.{◌≡◌, ℕ, List, [], length, All}
use Rattle.gl_logic.specs.Names.{IsTable, with_name}
use Rattle.gl_logic.specs.Numbered.{IsNumbered}
use Rattle.sexp_reader.specs.declared.list.Form.{Form}
use Rattle.sexp_reader.specs.declared.ends.End.{End}
use Rattle.sexp_reader.specs.Reads.{Reads}
use Rattle.sexp_reader.specs.Gathers.{IsTableOf}
use Rattle.event_world.specs.OpeningNames.{opening_names}

-- the forms of a text and its end, whose symbols and strings a table of the text numbers, on from the one that every book begins with. It has the empty text
pub record IsReadBy (names : List (List ℕ)) (bytes : List ℕ) (forms : List Form) (end : End) : Type 0 where
  pub table : IsTable names
  pub opens : IsTableOf bytes opening_names names
  pub empty : with_name names [] ≡ names
  pub reads : Reads names bytes forms end
  pub numbered : All (λ form. IsNumbered (length names) form.tree) forms
