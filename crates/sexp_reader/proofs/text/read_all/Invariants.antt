use Rattle.std.proofs.Common.{ℕ, List, length}
use Rattle.gl_logic.specs.Names.{Extends}
use Rattle.sexp_reader.specs.declared.list.Form.{Form}
use Rattle.sexp_reader.specs.declared.ends.End.{End}
use Rattle.sexp_reader.specs.Places.{Fits}
use Rattle.sexp_reader.specs.Gathers.{Gathers}
use Rattle.sexp_reader.specs.Reads.{Reads}
use Rattle.sexp_reader.specs.Stack.{Goes}
use Rattle.sexp_reader.proofs.text.read_all.Given as goal

-- what the stack makes of the text that is left is the reading of the whole, by each later table; and what is gathered from there on is gathered from the beginning on
abbrev pub invariant-loop-stack : goal.invariant-loop-stack
invariant-loop-stack l = record {
  whole : (later : List (List ℕ)) (forms : List Form) (end : End) → Extends l.texts later → Goes later l.stack (record { place = l.place; bytes = l.rest }) forms end → Reads later l.bytes forms end;
  gathers : (later : List (List ℕ)) → Gathers l.rest l.texts later → Gathers l.bytes l.fn.texts later;
  kept : Extends l.fn.texts l.texts;
  fits : Fits l.place (length l.rest);
}

abbrev pub decreases-loop-stack : goal.decreases-loop-stack
decreases-loop-stack l = length l.rest
