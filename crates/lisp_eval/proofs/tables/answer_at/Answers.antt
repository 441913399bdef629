use Rattle.lisp_eval.proofs.tables.answer_at.Goals as goal

pub returns-then-f-eq-FAST_ALIST_FREE-clause-agree : goal.returns-then-f-eq-FAST_ALIST_FREE-clause-agree
returns-then-f-eq-FAST_ALIST_FREE-clause-agree c = c.free.ensures.agree c.args.arena.now.objects c.requires.agree
