-- Short lists of arguments.
use Rattle.std.specs.Prelude.{Bool}
use Rattle.gl_logic.specs.Exp.{Exp, Exps, Last, More}
use Rattle.gl_logic.specs.ExpCode.{code_exps}
use Rattle.gl_logic.specs.RecursiveCalls.{alike}

abbrev pub same_all : Exps → Exps → Bool
same_all ts us = alike (code_exps ts) (code_exps us)

abbrev pub one_term : Exp → Exps
one_term t = More t Last

abbrev pub two_terms : Exp → Exp → Exps
two_terms t u = More t (More u Last)
