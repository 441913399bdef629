-- The definition that a value of the program stands for.
use Rattle.gl_logic.specs.Definition.{Definition}
use Rattle.gl_logic.specs.TermOf.{term_of}
use Rattle.gl_logic.specs.declared.def.Def.{Def}

abbrev pub definition_of : Def → Definition
definition_of d = record { name = d.name.number; formals = d.formals; body = term_of d.body; measure = d.measure }
