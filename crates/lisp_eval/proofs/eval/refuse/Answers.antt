use Rattle.lisp_eval.proofs.eval.refuse.Goals as goal

pub returns-clause-alists : goal.returns-clause-alists
returns-clause-alists c = c.clear.ensures.agree c.release.new.self.objects
