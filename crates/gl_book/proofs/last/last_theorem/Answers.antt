use Rattle.std.proofs.Common.{[]}
use Rattle.gl_decide.specs.Bounds.{bounds_of}
use Rattle.gl_book.proofs.Lasts.{none_long}
use Rattle.gl_book.proofs.last.last_theorem.Goals as goal

pub returns-in-Some-clause-last : goal.returns-in-Some-clause-last
returns-in-Some-clause-last c = ([], none_long [] (bounds_of c.args.limits.now) c.args.text.now _ _ (rw c.in-Some.is at c.too_long.ensures))
