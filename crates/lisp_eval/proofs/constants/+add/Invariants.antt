use Rattle.std.proofs.Common.{◌≡◌, ◌++◌, map, take, Bor}
use Rattle.gl_logic.specs.CellCounts.{constants_of_all}
use Rattle.gl_logic.specs.Object.{Object}
use Rattle.gl_logic.specs.TermOf.{terms_of}
use Rattle.lisp_eval.proofs.constants.+add.Given as goal

abbrev pub invariant-add_all-loop-term : goal.invariant-add_all-loop-term
invariant-add_all-loop-term l = map (λ (x : Bor Object). x.now) l.all.items ≡ map (λ (x : Bor Object). x.now) l.fn.all.items ++ constants_of_all (terms_of (take l.term-index l.terms))
