use Rattle.std.proofs.Common.{◌≡◌, ℕ, map, take, Bor}
use Rattle.gl_logic.specs.Object.{Object}
use Rattle.lisp_eval.proofs.constants.constants_in.Given as goal

abbrev pub invariant-loop-i : goal.invariant-loop-i
invariant-loop-i l = map (λ (x : Bor Object). x.now) l.all.items ≡ take l.i (map (λ (e : ℕ × Object). e.1) l.world.constants)
