use Rattle.std.proofs.Common.{◌≡◌, ◌≤◌, length, get_or, []}
use Rattle.gl_interp.specs.Envs.{sob_in}
use Rattle.gl_interp.proofs.envs.Envs.look.Given as goal

abbrev pub invariant-loop-at : goal.invariant-loop-at
invariant-loop-at l = record {
  within : l.at ≤ length l.self-inside.cells.items;
  same : sob_in (get_or l.self l.at []) l.name.number ≡ sob_in (get_or l.self l.fn.env.number []) l.name.number;
}

abbrev pub decreases-loop-at : goal.decreases-loop-at
decreases-loop-at l = l.at
