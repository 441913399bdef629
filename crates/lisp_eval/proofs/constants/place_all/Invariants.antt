use Rattle.std.proofs.Common.{◌≡◌, ◌≤◌, [], map, length, Bor}
use Rattle.gl_logic.specs.Object.{Object}
use Rattle.lisp_eval.specs.Within.{AreWithin}
use Rattle.lisp_eval.proofs.PlacedConstants.{Before}
use Rattle.lisp_eval.proofs.constants.place_all.Given as goal

abbrev pub invariant-loop-tree : goal.invariant-loop-tree
invariant-loop-tree l = record {
  limit : l.arena.limit ≡ l.fn.arena.limit;
  within : length l.arena.objects ≤ l.arena.limit;
  placed : Before (map (λ (x : Bor Object). x.now) l.trees) l.tree-index l.arena.objects;
  cells : AreWithin [] (map (λ (x : Bor Object). x.now) l.trees) l.arena.objects;
}
