use Rattle.coverage.specs.Heads.{subject_of}
use Rattle.coverage.specs.Dealt.{lists_in}
use Rattle.coverage.proofs.Dealing.{dealt_more}
use Rattle.coverage.proofs.parts.parts_of.Goals as goal

pub loop-term-preserved : goal.loop-term-preserved
loop-term-preserved c =
    dealt_more c.args.count (subject_of c.args.subject.now) c.args.said.now c.loop-term.term-index c.term-item.result (lists_in c.loop-term.lists) (lists_in c.deal.new.lists) c.loop-term-test.true c.term-item.is c.loop-term.invariant c.in_ok-deal.ensures
