use Rattle.gl_book.proofs.ending.answers_at.Goals as goal

pub returns : goal.returns
returns g c = rw (c.world-world.ensures.world) at c.phase_answers.ensures
