use Rattle.std.proofs.Common.{rules, arith, ◌≡◌, ◌<◌, ◌∙◌, length, map, Bor, Some, slice_get, IsErr}
use Rattle.std.proofs.lemmas.List.{length-map}
use Rattle.gl_logic.specs.Object.{Object}
use Rattle.lisp_eval.specs.MachineCalls.{different_cells}
use Rattle.lisp_eval.specs.Machines.{ArePlaced}
use Rattle.lisp_eval.proofs.Places.{map_at}
use Rattle.gl_logic.proofs.CellCounts.{at_index}
use Rattle.lisp_eval.proofs.PlacedConstants.{one_more, within_more, lacks_one, all_placed, all_cells, not_many}
use Rattle.lisp_eval.proofs.constants.place_all.Goals as goal

pub returns-in_err-place-clause-full : goal.returns-in_err-place-clause-full
returns-in_err-place-clause-full c =
    let l = c.loop-tree in
    let trees = c.args.trees.now in
    let xs = map (λ (x : Bor Object). x.now) trees in
    let x = c.tree-item.result.now in
    let at : slice_get xs l.tree-index ≡ Some x = map_at (λ (y : Bor Object). y.now) trees l.tree-index c.tree-item.result (at_index trees l.tree-index c.tree-item.result c.loop-tree-test.true c.tree-item.is) in
    let err : IsErr c.from_residual.result = search rules in
    let many : c.place.new.self.limit < length (different_cells xs) = lacks_one xs l.tree-index x at l.arena c.place.new.self c.in_err-place.ensures.places.lacks c.place.ensures.whole c.place.ensures.places.objects l.invariant.cells in
    (λ _. omega (arith, many, c.place.ensures.places.limit, l.invariant.limit), λ _. err)

pub loop-tree-preserved : goal.loop-tree-preserved
loop-tree-preserved c =
    let l = c.loop-tree in
    let trees = c.args.trees.now in
    let xs = map (λ (x : Bor Object). x.now) trees in
    let x = c.tree-item.result.now in
    let at : slice_get xs l.tree-index ≡ Some x = map_at (λ (y : Bor Object). y.now) trees l.tree-index c.tree-item.result (at_index trees l.tree-index c.tree-item.result c.loop-tree-test.true c.tree-item.is) in
    record {
      limit = c.place.ensures.places.limit ∙ l.invariant.limit;
      within = c.place.ensures.whole.within;
      placed = one_more xs l.tree-index x at l.arena c.place.new.self c.in_ok-place.field-0 c.in_ok-place.ensures.places c.place.ensures.whole l.invariant.placed;
      cells = within_more xs l.tree-index x at l.arena c.place.new.self c.place.ensures.places.objects l.invariant.cells;
    }

pub returns-clause-placed : goal.returns-clause-placed
returns-clause-placed c =
    let l = c.loop-tree in
    let trees = c.args.trees.now in
    let xs = map (λ (x : Bor Object). x.now) trees in
    all_placed xs l.tree-index l.arena.objects (omega (arith, length-map trees (λ (x : Bor Object). x.now), c.loop-tree-test.false)) l.invariant.placed

pub returns-clause-cells : goal.returns-clause-cells
returns-clause-cells c = all_cells (map (λ (x : Bor Object). x.now) c.args.trees.now) c.loop-tree.arena.objects c.loop-tree.invariant.cells

pub returns-clause-full : goal.returns-clause-full
returns-clause-full c =
    let l = c.loop-tree in
    let trees = c.args.trees.now in
    let xs = map (λ (x : Bor Object). x.now) trees in
    let placed : ArePlaced l.arena.objects xs = all_placed xs l.tree-index l.arena.objects (omega (arith, length-map trees (λ (x : Bor Object). x.now), c.loop-tree-test.false)) l.invariant.placed in
    (λ e. cc, λ many. absurd (not_many xs l.arena.objects c.args.arena.now.limit placed (omega (arith, l.invariant.within, l.invariant.limit)) many))
