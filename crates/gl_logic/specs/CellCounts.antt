-- The cells that the plain evaluation of a term speaks of.
use Rattle.std.specs.Prelude.{ℕ, List, [], ◌∷◌, ◌++◌, map, length}
use Rattle.std.specs.List.{flat_map}
use Rattle.gl_logic.specs.Object.{Object}
use Rattle.gl_logic.specs.ObjectEq.{object_eq}
use Rattle.gl_logic.specs.Parts.{cells_in}
use Rattle.gl_logic.specs.Exp.{Exp, Exps, Var, Const, If, Prim, Call, Let, Last, More}
use Rattle.gl_logic.specs.WorldSeen.{WorldSeen}
use Rattle.gl_logic.specs.Counts.{seen}
use Rattle.gl_logic.specs.Different.{different}

-- the constants of a term
abbrev mutual
  pub constants_of : Exp → List Object
  constants_of (Var v) = []
  constants_of (Const x) = x ∷ []
  constants_of (If t a b) = constants_of t ++ (constants_of a ++ constants_of b)
  constants_of (Prim p ts) = constants_of_all ts
  constants_of (Call f ts) = constants_of_all ts
  constants_of (Let vs ts b) = constants_of_all ts ++ constants_of b

  pub constants_of_all : Exps → List Object
  constants_of_all Last = []
  constants_of_all (More t ts) = constants_of t ++ constants_of_all ts

-- of a world: its constants, and those in its bodies
abbrev pub world_constants : WorldSeen → List Object
world_constants w = map (λ c. c.1) w.constants ++ flat_map (λ d. constants_of d.body) w.definitions

-- the integers, characters and conses that are parts of these, each as often as it occurs
abbrev pub constant_cells : WorldSeen → List Object
constant_cells w = flat_map cells_in (world_constants w)

-- the integers, characters and conses that are parts of the objects of the environment, of these constants, of those in the term, and of the values of the visited subterms
abbrev pub cells : WorldSeen → ℕ → List (ℕ × Object) → Exp → List Object
cells w n env t = flat_map cells_in (map (λ p. p.1) env ++ (world_constants w ++ (constants_of t ++ seen w.definitions n env t)))

abbrev pub cells_made : WorldSeen → ℕ → List (ℕ × Object) → Exp → ℕ
cells_made w n env t = length (cells w n env t)

abbrev pub distinct_cells : WorldSeen → ℕ → List (ℕ × Object) → Exp → ℕ
distinct_cells w n env t = length (different object_eq (cells w n env t))
