use Rattle.sym_prims.proofs.characters.+character_by.Given as goal

abbrev pub decreases-character_by : goal.decreases-character_by
decreases-character_by g l = l.level
