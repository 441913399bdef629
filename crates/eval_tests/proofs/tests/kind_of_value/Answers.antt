use Rattle.eval_tests.proofs.tests.kind_of_value.Goals as goal

pub eval-requires-clause-fits : goal.eval-requires-clause-fits
eval-requires-clause-fits g c = c.input.ensures.fits c.args.world.now c.requires.fits
