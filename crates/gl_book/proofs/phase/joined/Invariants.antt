use Rattle.std.proofs.Common.{◌≡◌, ◌++◌, List, length}
use Rattle.std.specs.Vec.Iter.{into_iter_items, into_iter_len}
use Rattle.gl_book.specs.Phases.{Joins}
use Rattle.gl_book.specs.declared.answer.Answer.{Answer}
use Rattle.gl_book.proofs.phase.joined.Given as goal

abbrev pub invariant-loop-part : goal.invariant-loop-part
invariant-loop-part l = record {
  counted : into_iter_len l.part-iterator ≡ length (into_iter_items l.part-iterator);
  says : (rest : List Answer) → Joins (into_iter_items l.part-iterator) rest → Joins l.fn.parts.items (l.answers.items ++ rest);
}
