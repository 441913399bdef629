use Rattle.std.proofs.Common.{◌≡◌, map, take}
use Rattle.gl_logic.specs.TermOf.{term_of}
use Rattle.gl_logic.proofs.term.+copy.Given as goal

abbrev pub invariant-copies-loop-term : goal.invariant-copies-loop-term
invariant-copies-loop-term l = map term_of l.all.items ≡ map term_of (take l.term-index l.terms)
