use Rattle.gl_decide.proofs.scanning.fn.answers.each.Goals as goal

pub scan_piece-requires : goal.scan_piece-requires
scan_piece-requires g c = record { hyp = c.requires.hyp; concl = c.requires.concl; functions = c.requires.functions }
