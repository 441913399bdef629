use Rattle.std.proofs.Common.{arith}
use Rattle.bdd_store.proofs.Finished.{blank-answers, answers-push}
use Rattle.bdd_store.proofs.tables.lengthen.Goals as goal

pub loop-preserved : goal.loop-preserved
loop-preserved c = record {
  len = omega (arith, c.push_reserved.ensures.len);
  answers = λ nodes some all. rw c.push_reserved.ensures.items (answers-push nodes c.loop.entries.items c.blank.result (c.loop.invariant.answers nodes some all)
      (blank-answers nodes c.blank.result some c.blank.ensures.test c.blank.ensures.high c.blank.ensures.low c.blank.ensures.answer));
  room = omega (arith, c.push_reserved.ensures.capacity);
}
