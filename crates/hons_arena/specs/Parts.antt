-- The cells of an object that are held.
use Rattle.std.specs.Prelude.{List, Contains}
use Rattle.gl_logic.specs.Object.{Object}
use Rattle.gl_logic.specs.Parts.{cells_in}

-- y is a part of x that takes a cell
abbrev pub IsCellOf : Object → Object → Type 0
IsCellOf y x = Contains (cells_in x) y

-- each cell of the object is held
abbrev pub AreHeld : List Object → Object → Type 0
AreHeld objects x = (y : Object) → IsCellOf y x → Contains objects y
