use Rattle.std.proofs.Common.{arith, ◌<◌, length, ◌≡◌, ℕ, ◌+◌, ◌∙◌, sym, ap, below_more, slice_index, List}
use Rattle.std.proofs.lemmas.Bool.Decides.{nat_tests}
use Rattle.hons_arena.specs.Table.{slot_at, walk}
use Rattle.hons_arena.proofs.Walks.{walk_round, walk_on, read}
use Rattle.hons_arena.proofs.slots.first_free.Goals as goal
use Rattle.hons_arena.proofs.slots.first_free.Goals.{then-slot-fingerprints, else-slot-fingerprints}

pub loop-step-preserved : goal.loop-step-preserved
loop-step-preserved c =
    let i = c.loop-step.invariant in
    let fingerprints : List ℕ = c.args.fingerprints.now in
    let m : ℕ = length fingerprints in
    let h : ℕ = c.args.home in
    let q : ℕ = c.loop-step.slot in
    let next : (c.if-slot-fingerprints.slot ≡ walk m h (c.loop-step._step + 1)) × (c.if-slot-fingerprints.slot < m) = elim c.if-slot-fingerprints.branch [
      | then-slot-fingerprints w ↦ walk_round m h c.loop-step._step q c.if-slot-fingerprints.slot c.requires.home c.loop-step-test.true i.at w.if-slot-fingerprints.true w.slot-is
      | else-slot-fingerprints w ↦ walk_on m h c.loop-step._step q c.if-slot-fingerprints.slot c.requires.home c.loop-step-test.true i.at w.if-slot-fingerprints.false w.slot-is
    ] in
    let here : slot_at fingerprints (walk m h c.loop-step._step) ≡ slice_index fingerprints q = ap (slot_at fingerprints) (sym i.at) ∙ read fingerprints q i.within in
    record {
      at = next.0;
      within = next.1;
      passed = below_more _ _ i.passed (λ e. grind (arith, nat_tests, here, e, c.if-fingerprints-slot-eq-FREE.false));
    }
