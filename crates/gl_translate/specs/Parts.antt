-- The parts of a form that a macro sees.
use Rattle.std.specs.Prelude.{List, map, Option}
use Rattle.gl_logic.specs.Object.{Object}
use Rattle.gl_translate.specs.Meaning.{Meaning}

-- a binding `(v e)`: the object, and the meanings of its elements where it is a proper list
pub record Binding : Type 0 where
  pub object : Object
  pub inside : Option (List Meaning)

-- an argument: the object, what it means, the meanings of its elements where it is a clause, and its elements where it is a list of bindings
pub record Part : Type 0 where
  pub object : Object
  pub means : Meaning
  pub inside : Option (List Meaning)
  pub bindings : Option (List Binding)

abbrev pub all_means : List Part → List Meaning
all_means ps = map (λ p. p.means) ps
