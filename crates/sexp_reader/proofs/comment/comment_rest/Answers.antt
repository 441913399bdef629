use Rattle.std.proofs.Common.{arith, ◌∙◌, sym}
use Rattle.sexp_reader.proofs.Comments.{too_few, closed, opened, passed}
use Rattle.sexp_reader.specs.Comments.{comment_rest}
use Rattle.sexp_reader.proofs.comment.comment_rest.Goals as goal

pub returns-then-bytes-read-lt2-clause-told : goal.returns-then-bytes-read-lt2-clause-told
returns-then-bytes-read-lt2-clause-told c = let l = c.loop-nested in too_few c.args.bytes.now l.read (comment_rest c.args.bytes.now 1) l.nested c.loop-nested-test.true c.if-bytes-read-lt2.true l.invariant.whole

pub loop-nested-preserved-then-stand_at : goal.loop-nested-preserved-then-stand_at
loop-nested-preserved-then-stand_at c = let l = c.loop-nested in record {
  whole = closed c.args.bytes.now l.read (comment_rest c.args.bytes.now 1) l.nested c.loop-nested-test.true (omega arith) (sym c.stand_at.ensures ∙ c.if-stand_at.true) l.invariant.whole;
  few = omega arith;
  within = omega arith;
}

pub loop-nested-preserved-then-stand_at-2 : goal.loop-nested-preserved-then-stand_at-2
loop-nested-preserved-then-stand_at-2 c = let l = c.loop-nested in record {
  whole = opened c.args.bytes.now l.read (comment_rest c.args.bytes.now 1) l.nested c.loop-nested-test.true (omega arith) (sym c.stand_at.ensures ∙ c.if-stand_at.false) (sym c.stand_at-else-stand_at.ensures ∙ c.if-stand_at-2.true) l.invariant.whole;
  few = omega arith;
  within = omega arith;
}

pub loop-nested-preserved : goal.loop-nested-preserved
loop-nested-preserved c = let l = c.loop-nested in record {
  whole = passed c.args.bytes.now l.read (comment_rest c.args.bytes.now 1) l.nested c.loop-nested-test.true (omega arith) (sym c.stand_at.ensures ∙ c.if-stand_at.false) (sym c.stand_at-else-stand_at.ensures ∙ c.if-stand_at-2.false) l.invariant.whole;
  few = omega arith;
  within = omega arith;
}
