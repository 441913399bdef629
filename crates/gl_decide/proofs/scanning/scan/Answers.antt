use Rattle.std.proofs.Common.{◌≡◌, ◌∙◌, ap, sym, subst, ℕ, ◌^◌, false, rules, length}
use Rattle.shape_spec.specs.Indices.{width_of}
use Rattle.shape_spec.specs.TheoremSeen.{theorem_seen}
use Rattle.gl_decide.specs.Scans.{IsProperAmong}
use Rattle.gl_decide.specs.Pieces.{joined_with}
use Rattle.gl_decide.proofs.Ranges.{none_yet, some_yet, all_proper, joined_proper}
use Rattle.gl_decide.proofs.scanning.scan.Goals as goal

pub returns-in-Ok-answers : goal.returns-in-Ok-answers
returns-in-Ok-answers g c =
    let w = c.args.world.now in
    let thm = theorem_seen c.args.thm.now in
    let steps = c.args.limits.now.steps in
    let cells = c.args.limits.now.cells in
    let count = c.power_of_two-count.result in
    let pieces = c.in-Ok.pieces.items in
    let found = c.in-Ok-answers.answers.items in
    let many : length found ≡ length pieces = search (rules, c.in-Ok-answers.ensures.count) in
    let proper = all_proper w thm steps cells pieces found many c.in-Ok-answers.ensures.each in
    let whole = joined_proper w thm steps cells 0 count pieces found c.in-Ok.ensures proper false (none_yet w thm 0) (some_yet w thm 0) in
    let is : c.joined.result ≡ joined_with false found = c.joined.ensures ∙ ap (joined_with false) c.as_slice.ensures.value in
    let all : count ≡ 2 ^ width_of thm.bindings = c.power_of_two-count.ensures.power ∙ ap (λ n. 2 ^ n) c.bit_count.ensures.count in
    subst (λ (n : ℕ). IsProperAmong w steps cells thm 0 n c.joined.result) all (subst (IsProperAmong w steps cells thm 0 count) (sym is) whole)
