-- How a run reads a text: by the table that every book begins with, and what the text puts behind it.
use Rattle.std.proofs.Common.{◌≡◌, ◌∙◌, ap, subst, ℕ, List, [], All, length}
use Rattle.gl_logic.specs.Names.{Extends, IsTable, first_names, with_name}
use Rattle.gl_logic.specs.Numbered.{IsNumbered}
use Rattle.gl_logic.proofs.GrownTables.{extends_same}
use Rattle.sexp_reader.specs.Gathers.{Gathers}
use Rattle.sexp_reader.specs.Reads.{Reads}
use Rattle.sexp_reader.specs.declared.list.Form.{Form}
use Rattle.sexp_reader.specs.declared.ends.End.{End}
use Rattle.sexp_reader.proofs.LaterReadings.{table_of}
use Rattle.event_world.specs.OpeningNames.{with_ground_words, opening_names}
use Rattle.book_state.specs.Reading.{IsReadBy}
use Rattle.book_state.proofs.FirstStates.{still_empty}

-- the first state is made behind the first texts
pub is_opening : (made opened : List (List ℕ)) → made ≡ first_names → opened ≡ with_ground_words made → opened ≡ opening_names
is_opening made opened m o = o ∙ ap with_ground_words m

-- the text is read behind that
pub read_there : (opened names : List (List ℕ)) (bytes : List ℕ) (forms : List Form) (end : End) → opened ≡ opening_names → with_name opened [] ≡ opened → Gathers bytes opened names → Extends opened names → IsTable names
    → ((later : List (List ℕ)) → Extends names later → Reads later bytes forms end) → All (λ form. IsNumbered (length names) form.tree) forms → IsReadBy names bytes forms end
read_there opened names bytes forms end is empty gathers grown table reads numbered =
    let here = reads names (extends_same names) in
    record {
      table = table;
      opens = table_of bytes opening_names names names forms end (subst (λ first. Gathers bytes first names) is gathers) here numbered (extends_same names);
      empty = still_empty opened names grown empty;
      reads = here;
      numbered = numbered;
    }
