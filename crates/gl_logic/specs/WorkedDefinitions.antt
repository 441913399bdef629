-- A definition that tests add.
use Rattle.std.specs.Prelude.{[], ◌∷◌, None}
use Rattle.gl_logic.specs.Definition.{Definition}
use Rattle.gl_logic.specs.Exp.{Var, Prim, Last, More}
use Rattle.gl_logic.specs.declared.prim.Primitive.TheVariants as prim

-- the first ground definition, with names of its own
abbrev pub atom_definition : Definition
atom_definition = record { name = 9; formals = 5 ∷ []; body = Prim prim.Not (More (Prim prim.Consp (More (Var 5) Last)) Last); measure = None }
