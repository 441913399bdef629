use Rattle.std.proofs.Common.{arith, ◌<◌, length, ◌≡◌, ℕ, ◌+◌, ◌∙◌, sym, ap, below_more, slice_index, List}
use Rattle.std.proofs.lemmas.Bool.Decides.{nat_tests}
use Rattle.hons_arena.specs.Table.{slot_at, walk}
use Rattle.hons_arena.proofs.Walks.{walk_round, walk_on, read}
use Rattle.hons_arena.proofs.slots.slot_with.Goals as goal
use Rattle.hons_arena.proofs.slots.slot_with.Goals.{then-slot-slots, else-slot-slots}

pub loop-step-preserved : goal.loop-step-preserved
loop-step-preserved c =
    let i = c.loop-step.invariant in
    let slots : List ℕ = c.args.slots.now in
    let m : ℕ = length slots in
    let h : ℕ = c.args.home in
    let q : ℕ = c.loop-step.slot in
    let next : (c.if-slot-slots.slot ≡ walk m h (c.loop-step._step + 1)) × (c.if-slot-slots.slot < m) = elim c.if-slot-slots.branch [
      | then-slot-slots w ↦ walk_round m h c.loop-step._step q c.if-slot-slots.slot c.requires.home c.loop-step-test.true i.at w.if-slot-slots.true w.slot-is
      | else-slot-slots w ↦ walk_on m h c.loop-step._step q c.if-slot-slots.slot c.requires.home c.loop-step-test.true i.at w.if-slot-slots.false w.slot-is
    ] in
    let here : slot_at slots (walk m h c.loop-step._step) ≡ slice_index slots q = ap (slot_at slots) (sym i.at) ∙ read slots q i.within in
    record {
      at = next.0;
      within = next.1;
      passed = below_more _ _ i.passed (λ e. grind (arith, nat_tests, here, e, c.if-slots-slot.false));
    }
