use Rattle.gl_book.proofs.Onward.{some_walk}
use Rattle.gl_book.proofs.walk.every_walk_goes_on.Goals as goal

pub returns : goal.returns
returns c names bounds state items end h = some_walk names bounds end state items h
