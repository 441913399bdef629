-- What is written where the words are no command.
use Rattle.std.specs.Prelude.{ℕ, List, [], ◌∷◌, ◌++◌, codes}

-- the line, with the newline that ends it
abbrev pub usage_line : List ℕ
usage_line = codes "USAGE gl [--workers N] [--steps N] [--cells N] [--nodes N] [--clauses N] [--enum-bits N] [--proof cnf|log] (BOOK | --generate N) | gl lrat [--workers N] CNF LOG" ++ 10 ∷ []
