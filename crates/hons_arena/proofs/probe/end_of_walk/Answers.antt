use Rattle.std.proofs.Common.{arith, ◌<◌, length, ◌≡◌, ◌≢◌, ℕ, ◌+◌, ◌∙◌, sym, ap, below_more, slice_index, List}
use Rattle.std.proofs.lemmas.Bool.Decides.{nat_tests}
use Rattle.hons_arena.specs.Cells.{cell_at}
use Rattle.hons_arena.specs.Hash.{home_of, fingerprint_of}
use Rattle.hons_arena.specs.Table.{slot_at, walk}
use Rattle.hons_arena.proofs.Marks.{cell_fingerprint, other_cell}
use Rattle.hons_arena.proofs.Walks.{never_passed, walk_round, walk_on, read}
use Rattle.hons_arena.proofs.probe.end_of_walk.Goals as goal
use Rattle.hons_arena.proofs.probe.end_of_walk.Goals.{then-slot-fingerprints, else-slot-fingerprints, then-fingerprint-wanted+else-same_cell, else-fingerprint-wanted}

pub loop-step-preserved : goal.loop-step-preserved
loop-step-preserved c =
    let i = c.loop-step.invariant in
    let marked = c.requires.marked in
    let slots : List ℕ = c.args.slots.now in
    let m : ℕ = length slots in
    let h : ℕ = home_of m c.args.cell in
    let q : ℕ = c.loop-step.slot in
    let test : c.loop-step._step < m = omega (arith, c.loop-step-test.true, marked.size) in
    let next : (c.if-slot-fingerprints.slot ≡ walk m h (c.loop-step._step + 1)) × (c.if-slot-fingerprints.slot < m) = elim c.if-slot-fingerprints.branch [
      | then-slot-fingerprints w ↦ walk_round m h c.loop-step._step q c.if-slot-fingerprints.slot i.home test i.at (w.if-slot-fingerprints.true ∙ marked.size) w.slot-is
      | else-slot-fingerprints w ↦ walk_on m h c.loop-step._step q c.if-slot-fingerprints.slot i.home test i.at (λ e. w.if-slot-fingerprints.false (e ∙ sym marked.size)) w.slot-is
    ] in
    let here : slot_at slots q ≡ slice_index slots q = read slots q i.within in
    let wanted : c.fingerprint_of-wanted.result ≡ cell_fingerprint c.args.cell = c.fingerprint_of-wanted.ensures ∙ ap fingerprint_of c.requires.hash in
    let other : cell_at c.args.cells.now (slot_at slots q) ≢ c.args.cell = elim c.if-fingerprint-wanted.branch [
      | then-fingerprint-wanted+else-same_cell w ↦ λ e. grind (arith, nat_tests, w.same_cell.ensures.1 (ap (cell_at c.args.cells.now) (sym here) ∙ e), w.if-same_cell.false)
      | else-fingerprint-wanted w ↦ other_cell c.args.cells.now slots c.args.fingerprints.now marked c.args.cell q c.if-fingerprint-eq-FREE.false (λ e. w.if-fingerprint-wanted.false (e ∙ sym wanted))
    ] in
    let held : slot_at slots q < length c.args.cells.now = c.requires.table.numbers q (λ e. c.if-fingerprint-eq-FREE.false (marked.vacant q e)) in
    record {
      home = i.home;
      at = next.0;
      within = next.1;
      passed = below_more _ _ i.passed (record {
        held = omega (arith, held, ap (slot_at slots) i.at);
        other = λ e. other (ap (λ r. cell_at c.args.cells.now (slot_at slots r)) i.at ∙ e);
      });
    }

pub unreachable-requires : goal.unreachable-requires
unreachable-requires c =
    never_passed c.args.cells.now c.args.slots.now c.args.cell c.requires.table c.requires.room c.loop-step.invariant.home (λ i h. c.loop-step.invariant.passed i (omega (arith, h, c.loop-step-test.false, c.requires.marked.size)))
