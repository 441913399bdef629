use Rattle.std.proofs.Common.{refl, true}
use Rattle.gl_decide.specs.Bounds.{bounds_of}
use Rattle.gl_book.specs.Generated.{generated}
use Rattle.gl_book.proofs.Ends.{nothing_written}
use Rattle.gl.proofs.run.run_generated.Goals as goal

pub returns-in-Err-clause-written : goal.returns-in-Err-clause-written
returns-in-Err-clause-written g c = nothing_written (bounds_of c.args.limits.now) (generated c.args.n) true _ _ _ _ refl refl
