use Rattle.std.proofs.Common.{arith, sym}
use Rattle.std.proofs.lemmas.List.{length-take-le, take_all}
use Rattle.book_faults.proofs.told.told_of.Goals as goal

pub slice_bounds-result-end : goal.slice_bounds-result-end
slice_bounds-result-end g c = sym (length-take-le 50 c.args.found.now (omega (arith, c.if-found-le-MOST_TOLD.false)))

pub returns-then-found-le-MOST_TOLD : goal.returns-then-found-le-MOST_TOLD
returns-then-found-le-MOST_TOLD g c = sym (take_all 50 c.args.found.now (omega (arith, c.if-found-le-MOST_TOLD.true)))
