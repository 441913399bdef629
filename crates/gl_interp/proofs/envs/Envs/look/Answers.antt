use Rattle.std.proofs.Common.{◌<◌, ◌-◌, ◌∙◌, ap, sym, refl, arith, length, get_or, []}
use Rattle.std.proofs.lemmas.List.{get_or_read}
use Rattle.gl_interp.specs.Envs.{sob_in}
use Rattle.gl_interp.proofs.Cells.{cell_at, count_at, empty_at, sob_other, sob_same}
use Rattle.gl_interp.proofs.envs.Envs.look.Goals as goal

pub loop-at-init : goal.loop-at-init
loop-at-init c = record { within = omega (arith, c.requires, count_at c.self.inside.cells.items c.args.self.now c.self.view_is); same = refl }

pub index-cell-requires : goal.index-cell-requires
index-cell-requires c = omega (arith, c.loop-at.invariant.within, c.loop-at-test.true)

pub returns-then-cell-name : goal.returns-then-cell-name
returns-then-cell-name c =
    let cells = c.self.inside.cells.items in
    let now = c.args.self.now in
    let at = c.loop-at.at in
    let x = c.index-cell.result.now in
    let inside : at - 1 < length cells = omega (arith, c.loop-at.invariant.within, c.loop-at-test.true) in
    let cell = cell_at cells now at x c.self.view_is c.self.invariant (omega (arith, c.loop-at-test.true)) c.loop-at.invariant.within (sym (get_or_read cells (at - 1) x inside c.index-cell.ensures x)) in
    sym (ap (λ ps. sob_in ps c.args.name.number) cell.says ∙ sob_same x.name.number c.args.name.number x.value (get_or now x.next.number []) c.if-cell-name.true) ∙ c.loop-at.invariant.same

pub loop-at-smaller : goal.loop-at-smaller
loop-at-smaller c =
    let cells = c.self.inside.cells.items in
    let now = c.args.self.now in
    let at = c.loop-at.at in
    let x = c.index-cell.result.now in
    let inside : at - 1 < length cells = omega (arith, c.loop-at.invariant.within, c.loop-at-test.true) in
    let cell = cell_at cells now at x c.self.view_is c.self.invariant (omega (arith, c.loop-at-test.true)) c.loop-at.invariant.within (sym (get_or_read cells (at - 1) x inside c.index-cell.ensures x)) in
    cell.falls

pub loop-at-preserved : goal.loop-at-preserved
loop-at-preserved c =
    let cells = c.self.inside.cells.items in
    let now = c.args.self.now in
    let at = c.loop-at.at in
    let x = c.index-cell.result.now in
    let inside : at - 1 < length cells = omega (arith, c.loop-at.invariant.within, c.loop-at-test.true) in
    let cell = cell_at cells now at x c.self.view_is c.self.invariant (omega (arith, c.loop-at-test.true)) c.loop-at.invariant.within (sym (get_or_read cells (at - 1) x inside c.index-cell.ensures x)) in
    record {
      within = omega (arith, cell.falls, c.loop-at.invariant.within);
      same = sym (ap (λ ps. sob_in ps c.args.name.number) cell.says ∙ sob_other x.name.number c.args.name.number x.value (get_or now x.next.number []) c.if-cell-name.false) ∙ c.loop-at.invariant.same;
    }

pub returns : goal.returns
returns c =
    let now = c.args.self.now in
    sym (ap (λ n. sob_in (get_or now n []) c.args.name.number) c.loop-at-test.false ∙ ap (λ ps. sob_in ps c.args.name.number) (empty_at c.self.inside.cells.items now c.self.view_is)) ∙ c.loop-at.invariant.same
