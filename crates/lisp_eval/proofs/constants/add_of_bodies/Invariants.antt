use Rattle.std.proofs.Common.{◌≡◌, ◌++◌, map, take, Bor}
use Rattle.std.specs.List.{flat_map}
use Rattle.gl_logic.specs.CellCounts.{constants_of}
use Rattle.gl_logic.specs.Definition.{Definition}
use Rattle.gl_logic.specs.Object.{Object}
use Rattle.lisp_eval.proofs.constants.add_of_bodies.Given as goal

abbrev pub invariant-loop-number : goal.invariant-loop-number
invariant-loop-number l = map (λ (x : Bor Object). x.now) l.all.items ≡ map (λ (x : Bor Object). x.now) l.fn.all.items ++ flat_map (λ (d : Definition). constants_of d.body) (take l.number l.world.definitions)
