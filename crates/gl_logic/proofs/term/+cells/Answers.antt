use Rattle.std.proofs.Common.{◌≡◌, ◌∙◌, ◌+◌, ap, arith, take, length}
use Rattle.std.specs.List.{flat_map}
use Rattle.gl_logic.specs.CellCounts.{constants_of, constants_of_all}
use Rattle.gl_logic.specs.Parts.{cells_in}
use Rattle.gl_logic.specs.TermOf.{term_of, terms_of}
use Rattle.gl_logic.proofs.CellCounts.{constants_next, cells_of_both}
use Rattle.gl_logic.proofs.term.+cells.Goals as goal

pub constant_cells_in-loop-term-preserved : goal.constant_cells_in-loop-term-preserved
constant_cells_in-loop-term-preserved t c =
    let terms = c.args.terms.now in
    let i = c.loop-term.term-index in
    let item = c.term-item.result in
    let more : length (flat_map cells_in (constants_of_all (terms_of (take (i + 1) terms)))) ≡ length (flat_map cells_in (constants_of_all (terms_of (take i terms)))) + length (flat_map cells_in (constants_of (term_of item))) =
    ap (λ xs. length (flat_map cells_in xs)) (constants_next terms i item c.loop-term-test.true c.term-item.is) ∙ cells_of_both (constants_of_all (terms_of (take i terms))) (constants_of (term_of item)) in
    omega (arith, more, c.loop-term.invariant, c.constant_cell_count.ensures, c.saturating_add-count.ensures)
