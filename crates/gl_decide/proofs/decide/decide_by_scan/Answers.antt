use Rattle.std.proofs.Common.{◌∙◌, ap, subst, true, false}
use Rattle.gl_decide.specs.Bounds.{bounds_of}
use Rattle.shape_spec.specs.TheoremSeen.{theorem_seen}
use Rattle.gl_decide.specs.Scans.{IsProperScan}
use Rattle.gl_decide.specs.declared.scanned.Scan.TheVariants as scan
use Rattle.gl_decide.proofs.Decided.{proved, emptied, refuted, stopped}
use Rattle.gl_decide.proofs.decide.decide_by_scan.Goals as goal

pub returns-in-Clean-true : goal.returns-in-Clean-true
returns-in-Clean-true g c =
    let w = c.args.world.now in
    let thm = theorem_seen c.args.thm.now in
    let bounds = bounds_of c.args.limits.now in
    let found : IsProperScan w bounds thm (scan.Clean true) = subst (IsProperScan w bounds thm) (c.in-Clean-true.is ∙ ap (λ b. scan.Clean b) c.in-Clean-true.field-0-test) c.scan.ensures in
    proved w bounds thm c.requires.covered found

pub returns-in-Clean-false : goal.returns-in-Clean-false
returns-in-Clean-false g c =
    let w = c.args.world.now in
    let thm = theorem_seen c.args.thm.now in
    let bounds = bounds_of c.args.limits.now in
    let found : IsProperScan w bounds thm (scan.Clean false) = subst (IsProperScan w bounds thm) (c.in-Clean-false.is ∙ ap (λ b. scan.Clean b) c.in-Clean-false.field-0-test) c.scan.ensures in
    emptied w bounds thm c.requires.covered found

pub returns-in-Refutes : goal.returns-in-Refutes
returns-in-Refutes g c =
    let w = c.args.world.now in
    let thm = theorem_seen c.args.thm.now in
    let bounds = bounds_of c.args.limits.now in
    let found : IsProperScan w bounds thm (scan.Refutes c.in-Refutes.number) = subst (IsProperScan w bounds thm) c.in-Refutes.is c.scan.ensures in
    refuted w bounds thm c.requires.covered c.in-Refutes.number found c.refuted.result c.refuted.ensures

pub returns-in-Stopped : goal.returns-in-Stopped
returns-in-Stopped g c =
    let w = c.args.world.now in
    let thm = theorem_seen c.args.thm.now in
    let bounds = bounds_of c.args.limits.now in
    let found : IsProperScan w bounds thm (scan.Stopped c.in-Stopped.number c.in-Stopped.part c.in-Stopped.fault) = subst (IsProperScan w bounds thm) c.in-Stopped.is c.scan.ensures in
    stopped w bounds thm c.requires.covered c.in-Stopped.number c.in-Stopped.part c.in-Stopped.fault found c.stopped.result c.stopped.ensures
