-- The term that a value of the program stands for.
use Rattle.std.specs.Prelude.{List, [], ◌∷◌, map}
use Rattle.gl_logic.specs.Exp.{Exp, Exps, Last, More}
use Rattle.gl_logic.specs.Exp as exp
use Rattle.gl_logic.specs.declared.term.Term.{Term}
use Rattle.gl_logic.specs.declared.term.Term.TheOpen.{Term-F}
use Rattle.gl_logic.specs.declared.term.Term.TheOpen as open_term
use Rattle.gl_logic.specs.declared.term.Term.TheFolds.{fold-Term}

abbrev pub exps_of : List Exp → Exps
exps_of [] = Last
exps_of (t ∷ ts) = More t (exps_of ts)

-- from what the parts stand for
abbrev pub step : Term-F Exp → Exp
step (open_term.Var v) = exp.Var v.number
step (open_term.Const x) = exp.Const x
step (open_term.If a b c) = exp.If a.value b.value c.value
step (open_term.Prim p ts) = exp.Prim p (exps_of ts.items)
step (open_term.Call f ts) = exp.Call f.number (exps_of ts.items)
step (open_term.Let vs ts b) = exp.Let vs (exps_of ts.items) b.value

abbrev pub term_of : Term → Exp
term_of = fold-Term Exp step

abbrev pub terms_of : List Term → Exps
terms_of ts = exps_of (map term_of ts)
