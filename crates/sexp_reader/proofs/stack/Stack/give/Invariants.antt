use Rattle.std.proofs.Common.{ℕ, List, vec_len}
use Rattle.sexp_reader.specs.declared.list.Form.{Form}
use Rattle.sexp_reader.specs.declared.ends.End.{End}
use Rattle.sexp_reader.specs.Grammar.{Spot, Got}
use Rattle.sexp_reader.specs.Stack.{Leads, inner_first}
use Rattle.sexp_reader.proofs.stack.Stack.give.Given as goal

-- what comes of this form inside the frames that are left comes of the first one
abbrev pub invariant-loop-self : goal.invariant-loop-self
invariant-loop-self l = record {
  whole : (names : List (List ℕ)) (next : Spot) (forms : List Form) (end : End) → Leads names l.self.begin l.self.forms (Got l.tree next) (inner_first l.self) forms end
      → Leads names l.fn.self.begin l.fn.self.forms (Got l.fn.tree next) (inner_first l.fn.self) forms end;
}

abbrev pub decreases-loop-self : goal.decreases-loop-self
decreases-loop-self l = vec_len l.self.frames
