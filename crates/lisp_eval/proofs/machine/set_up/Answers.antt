use Rattle.std.proofs.Common.{◌≡◌, ◌∙◌, ap, subst, arith, ℕ, ◌≤◌, length, map, Bor, List, All, Contains, Ok}
use Rattle.std.specs.Io.Iter.{u64_saturate}
use Rattle.std.specs.List.{flat_map}
use Rattle.gl_logic.specs.CellCounts.{constant_cells, world_constants}
use Rattle.gl_logic.specs.Object.{Object}
use Rattle.gl_logic.specs.Parts.{cells_in}
use Rattle.gl_logic.specs.WorldSeen.{WorldSeen}
use Rattle.lisp_eval.specs.MachineCalls.{RefusesForCells}
use Rattle.lisp_eval.proofs.PlacedConstants.{fit_by_count, none_all}
use Rattle.lisp_eval.proofs.machine.set_up.Goals as goal

-- nothing is placed where the count tells that all constants fit
refuses_none : (w : WorldSeen) (bound limit : ℕ) → u64_saturate (length (constant_cells w)) ≤ bound → bound ≤ limit → limit ≤ 4294967295 → RefusesForCells w limit (Ok (tt {0}))
refuses_none w bound limit counted within small = record {
  cells = λ e. absurd cc;
  too_many = λ many. absurd (fit_by_count (world_constants w) bound limit counted within small many);
  no_width = λ e. absurd cc;
  no_steps = λ e. absurd cc;
}

pub returns-then-bound-limit-clause-only : goal.returns-then-bound-limit-clause-only
returns-then-bound-limit-clause-only c = none_all (Contains (constant_cells c.args.world.now)) c.args.arena.now.objects c.requires

pub returns-then-bound-limit-clause-cells : goal.returns-then-bound-limit-clause-cells
returns-then-bound-limit-clause-cells c =
    refuses_none c.args.world.now c.constant_cells-bound.result c.args.arena.now.limit c.constant_cells-bound.ensures.at_least (omega (arith, c.if-bound-limit.true, c.from-limit.ensures, c.limit.ensures)) (omega (arith, c.limit.ensures, c.limit.type_inv))

pub returns-clause-only : goal.returns-clause-only
returns-clause-only c =
    let is : map (λ (x : Bor Object). x.now) c.as_slice.result.now ≡ world_constants c.args.world.now = ap (map (λ (x : Bor Object). x.now)) c.as_slice.ensures.value ∙ c.in_ok-constants.ensures in
    subst (λ (xs : List Object). All (Contains (flat_map cells_in xs)) c.place_all.new.arena.objects) is c.in_ok-place_all.ensures.cells
