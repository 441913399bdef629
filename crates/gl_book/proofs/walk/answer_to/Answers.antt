use Rattle.gl_book.proofs.walk.answer_to.Goals as goal

pub returns : goal.returns
returns g c = rw (c.world.ensures.world, c.memoized.ensures.memoized) at c.answer_of.ensures
